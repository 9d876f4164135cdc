-- Each row that was passed is not due, and the one that is returned is.
use Rattle.std.proofs.Common.{rules}
use Rattle.refusals.specs.Cases.{due_here, not_here, none_due}
use Rattle.refusals.proofs.check_by.Goals as goal

pub returns-then-not-is_kind : goal.returns-then-not-is_kind
returns-then-not-is_kind c = due_here _ _ _ (search rules)

pub returns-then-not-are_flags : goal.returns-then-not-are_flags
returns-then-not-are_flags c = not_here _ _ _ _ (search rules) (due_here _ _ _ (search rules))

pub returns-then-not-right : goal.returns-then-not-right
returns-then-not-right c = not_here _ _ _ _ (search rules) (not_here _ _ _ _ (search rules) (due_here _ _ _ (search rules)))

pub returns-then-not-room-are_separations : goal.returns-then-not-room-are_separations
returns-then-not-room-are_separations c = not_here _ _ _ _ (search rules) (not_here _ _ _ _ (search rules) (not_here _ _ _ _ (search rules) (due_here _ _ _ (search rules))))

pub returns-then-not-is_between : goal.returns-then-not-is_between
returns-then-not-is_between c = not_here _ _ _ _ (search rules) (not_here _ _ _ _ (search rules) (not_here _ _ _ _ (search rules) (not_here _ _ _ _ (search rules) (due_here _ _ _ (search rules)))))

pub returns-then-not-is_between-2 : goal.returns-then-not-is_between-2
returns-then-not-is_between-2 c = not_here _ _ _ _ (search rules) (not_here _ _ _ _ (search rules) (not_here _ _ _ _ (search rules) (not_here _ _ _ _ (search rules) (not_here _ _ _ _ (search rules) (due_here _ _ _ (search rules))))))

pub returns-then-not-holds-is_between : goal.returns-then-not-holds-is_between
returns-then-not-holds-is_between c = not_here _ _ _ _ (search rules) (not_here _ _ _ _ (search rules) (not_here _ _ _ _ (search rules) (not_here _ _ _ _ (search rules) (not_here _ _ _ _ (search rules) (not_here _ _ _ _ (search rules) (due_here _ _ _ (search rules)))))))

pub returns : goal.returns
returns c = not_here _ _ _ _ (search rules) (not_here _ _ _ _ (search rules) (not_here _ _ _ _ (search rules) (not_here _ _ _ _ (search rules) (not_here _ _ _ _ (search rules) (not_here _ _ _ _ (search rules) (not_here _ _ _ _ (search rules) none_due))))))
