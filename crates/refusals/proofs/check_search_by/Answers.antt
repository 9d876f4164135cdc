use Rattle.std.proofs.Common.{rules, ◌∙◌, []}
use Rattle.std.proofs.lemmas.Result.{err_from_is_err_and}
use Rattle.rules.specs.Numbers.{is_queue}
use Rattle.rules.specs.Refusals.{record_cases, search_refusal}
use Rattle.refusals.specs.Cases.{refused_before, refused_behind, due_here, not_here, none_due}
use Rattle.refusals.proofs.check_search_by.Goals as goal

pub returns-in_err-check_by : goal.returns-in_err-check_by
unfolding search_refusal
returns-in_err-check_by c =
    let p = err_from_is_err_and c.from_residual.result c.from_residual.ensures.1 in
    rw (p.1, p.2) (refused_before _ (record_cases c.args.r) _ tt (c.in_err-check_by.ensures))

pub returns-else-is_queue : goal.returns-else-is_queue
unfolding search_refusal
returns-else-is_queue c =
    due_here 7 (is_queue c.args.words) [] (search rules) ∙ refused_behind (record_cases c.args.r) _ tt (c.in_ok-check_by.ensures)

pub returns-then-is_queue : goal.returns-then-is_queue
unfolding search_refusal
returns-then-is_queue c =
    not_here 0 7 (is_queue c.args.words) [] (search rules) none_due ∙ refused_behind (record_cases c.args.r) _ tt (c.in_ok-check_by.ensures)
