-- `shift_log::read_at` meets its contract: 16's table, then 14. Assumes nothing.
use Rattle.std.proofs.Common.{◌∙◌, [], ◌∷◌, length, arith}
use Rattle.std.proofs.lemmas.Result.{err_from_is_err_and}
use Rattle.rules.specs.AnswerFile.{told_at}
use Rattle.refusals.specs.Numbered.{not_zero}
use Rattle.queries.specs.Writing.{refuses_put, does_put}
use Rattle.answers.specs.Walk.{short}
use Rattle.shift_log.proofs.Refusing.{wrong_first, right_then, too_few, enough}
use Rattle.shift_log.proofs.read_at.Goals as goal

pub returns-in_err-check_word : goal.returns-in_err-check_word
returns-in_err-check_word c =
    let p = err_from_is_err_and c.from_residual.result c.from_residual.ensures.1 in
    let e = wrong_first (told_at c.args.log.now c.args.at) (short c.args.out.now 8 ∷ []) c.in_err-check_word.field-0.0 (rw c.decode-a.ensures at c.in_err-check_word.ensures) in
    rw (p.1, p.2) (refuses_put _ _ c.args.out.now 0 e (not_zero c.in_err-check_word.field-0.0))

pub returns-then-out-lt8 : goal.returns-then-out-lt8
returns-then-out-lt8 c =
    let e = right_then (told_at c.args.log.now c.args.at) (short c.args.out.now 8 ∷ []) (rw c.decode-a.ensures at c.in_ok-check_word.ensures) in
    refuses_put 14 _ c.args.out.now 0 (too_few (length c.args.out.now) 8 (omega (arith, c.if-out-lt8.true)) ∙ e) (λ z. omega arith)

pub returns : goal.returns
returns c =
    let e = right_then (told_at c.args.log.now c.args.at) (short c.args.out.now 8 ∷ []) (rw c.decode-a.ensures at c.in_ok-check_word.ensures) in
    does_put (enough (length c.args.out.now) 8 (omega (arith, c.if-out-lt8.false)) ∙ e) (rw (c.read_u32.ensures, c.decode-a.ensures) at c.write_eight.ensures)
