-- `shift_log::write_entry` meets its contract: 14 for the numbers, 16's table, 14 for the bytes. Assumes nothing.
use Rattle.std.proofs.Common.{◌∙◌, ◌-◌, ℕ, List, [], ◌∷◌, length, arith}
use Rattle.std.proofs.lemmas.Result.{err_from_is_err_and}
use Rattle.rules.specs.Refusals.{Case}
use Rattle.rules.specs.QueryFile.{space}
use Rattle.refusals.specs.Numbered.{not_zero}
use Rattle.queries.specs.Writing.{refuses_put, does_put}
use Rattle.shift_log.specs.Calls.{told_in}
use Rattle.shift_log.proofs.Refusing.{wrong_first, right_then, too_few, enough, writes_short, writes_is}
use Rattle.shift_log.proofs.write_entry.Goals as goal

-- the row behind 16's
abbrev last : List ℕ → ℕ → List Case
last out at = space out at 32 ∷ []

pub returns-then-numbers-lt8 : goal.returns-then-numbers-lt8
returns-then-numbers-lt8 c = refuses_put 14 _ c.args.out.now c.args.at (writes_short c.args.out.now c.args.at c.args.numbers.now (omega (arith, c.if-numbers-lt8.true))) (λ z. omega arith)

pub returns-in_err-check_word : goal.returns-in_err-check_word
returns-in_err-check_word c =
    let p = err_from_is_err_and c.from_residual.result c.from_residual.ensures.1 in
    let e = wrong_first (told_in c.args.numbers.now) (last c.args.out.now c.args.at) c.in_err-check_word.field-0.0 (rw c.told_in-a.ensures at c.in_err-check_word.ensures) in
    rw (p.1, p.2) (refuses_put _ _ c.args.out.now c.args.at
    (e ∙ writes_is c.args.out.now c.args.at c.args.numbers.now (omega (arith, c.if-numbers-lt8.false))) (not_zero c.in_err-check_word.field-0.0))

pub returns-then-left_from-lt32 : goal.returns-then-left_from-lt32
returns-then-left_from-lt32 c =
    let e = right_then (told_in c.args.numbers.now) (last c.args.out.now c.args.at) (rw c.told_in-a.ensures at c.in_ok-check_word.ensures) in
    refuses_put 14 _ c.args.out.now c.args.at
    (too_few (length c.args.out.now - c.args.at) 32 (omega (arith, c.left_from.ensures, c.if-left_from-lt32.true))
    ∙ e
    ∙ writes_is c.args.out.now c.args.at c.args.numbers.now (omega (arith, c.if-numbers-lt8.false))) (λ z. omega arith)

pub encode-requires : goal.encode-requires
encode-requires c = omega (arith, c.left_from.ensures, c.if-left_from-lt32.false)

pub returns : goal.returns
returns c =
    let e = right_then (told_in c.args.numbers.now) (last c.args.out.now c.args.at) (rw c.told_in-a.ensures at c.in_ok-check_word.ensures) in
    does_put
    (enough (length c.args.out.now - c.args.at) 32 (omega (arith, c.left_from.ensures, c.if-left_from-lt32.false))
    ∙ e
    ∙ writes_is c.args.out.now c.args.at c.args.numbers.now (omega (arith, c.if-numbers-lt8.false)))
    (rw c.told_in-a.ensures at c.encode.ensures)
