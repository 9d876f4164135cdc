use mathlib.Core.Path.{sym, ap, ◌∙◌}
use native.Mathlib.Omega.{arith}
use Rattle.std.proofs.lemmas.Result.{err_from_is_err_and}
use Rattle.rules.specs.declared.BodyAnswer.{BodyAnswer}
use Rattle.rules.specs.QueryFile.{put}
use Rattle.refusals.specs.Numbered.{not_zero}
use Rattle.answers.specs.Doing.{refuses, answers}
use Rattle.bodies.specs.Telling.{body_told}
use Rattle.bodies.proofs.Settling.{tell_none, tell_refused, tell_short, tell_good}
use Rattle.bodies.proofs.answer_bodies.Goals as goal

pub returns-then-not-is_edition : goal.returns-then-not-is_edition
returns-then-not-is_edition c =
    refuses 10 _ _ c.args.queue.now c.args.out.now (tell_none _ _ c.args.out.now (sym c.is_edition.ensures ∙ c.if-not-is_edition.true)) (λ z. omega arith)

pub returns-in_err-check_bodies : goal.returns-in_err-check_bodies
returns-in_err-check_bodies c =
    let p = err_from_is_err_and c.from_residual.result c.from_residual.ensures.1 in
    let is = sym c.is_edition.ensures ∙ c.if-not-is_edition.false in
    rw (p.1, p.2) (refuses _ _ _ c.args.queue.now c.args.out.now (tell_refused _ _ c.args.out.now is _ c.in_err-check_bodies.ensures) (not_zero _))

pub returns-then-out-lt8 : goal.returns-then-out-lt8
returns-then-out-lt8 c =
    let is = sym c.is_edition.ensures ∙ c.if-not-is_edition.false in
    refuses 14 _ _ c.args.queue.now c.args.out.now (tell_short _ _ c.args.out.now is c.in_ok-check_bodies.ensures (omega (arith, c.if-out-lt8.true))) (λ z. omega arith)

pub walk-answer-requires : goal.walk-answer-requires
walk-answer-requires c = record { none = sym c.in_ok-check_bodies.ensures; of_a_lem = λ z. absurd (omega arith); of_b_lem = λ z. absurd (omega arith) }

pub returns : goal.returns
returns c =
    let is = sym c.is_edition.ensures ∙ c.if-not-is_edition.false in
    answers (tell_good _ _ c.args.out.now is c.in_ok-check_bodies.ensures (omega arith))
    (c.write_told.ensures ∙ ap (λ (x : BodyAnswer). put c.args.out.now 0 (body_told x)) c.walk-answer.ensures.says) c.walk-answer.ensures.left
