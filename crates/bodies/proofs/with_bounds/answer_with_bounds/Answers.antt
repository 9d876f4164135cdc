use mathlib.Core.Bool.{and-eq-true_iff}
use native.Mathlib.Omega.{arith}
use Rattle.std.proofs.Common.{◌≡◌, true, false, ◌&&◌, sym, ap, ap₂, ◌∙◌}
use Rattle.std.proofs.lemmas.Result.{err_from_is_err_and}
use Rattle.rules.specs.declared.BodyAnswer.{BodyAnswer}
use Rattle.rules.specs.declared.Refusal.TheVariants.{Bounds}
use Rattle.rules.specs.QueryFile.{put}
use Rattle.rules.specs.Bounds.{are_same, bounds_of}
use Rattle.refusals.specs.Numbered.{not_zero}
use Rattle.answers.specs.Doing.{refuses, answers}
use Rattle.bounds.specs.Reach.{body_of}
use Rattle.bounds.specs.Lists.{same_sound}
use Rattle.bodies.specs.Telling.{body_told}
use Rattle.bodies.proofs.Refusing.{in_range_bodies}
use Rattle.bodies.proofs.Settling.{walk_refused, walk_by, tell_none, tell_refused, tell_short, tell_good}
use Rattle.bodies.proofs.with_bounds.answer_with_bounds.Goals as goal
use Rattle.bodies.proofs.with_bounds.answer_with_bounds.Goals.{Else-not-exact}

pub returns-then-not-is_edition : goal.returns-then-not-is_edition
returns-then-not-is_edition c =
    refuses 10 _ _ c.args.queue.now c.args.out.now (tell_none _ _ c.args.out.now (sym c.is_edition.ensures ∙ c.if-not-is_edition.true)) (λ z. omega arith)

pub returns-in_err-check_bodies : goal.returns-in_err-check_bodies
returns-in_err-check_bodies c =
    let p = err_from_is_err_and c.from_residual.result c.from_residual.ensures.1 in
    let is = sym c.is_edition.ensures ∙ c.if-not-is_edition.false in
    rw (p.1, p.2)
    (refuses _ _ _ c.args.queue.now c.args.out.now
    (tell_refused _ _ c.args.out.now is _ (walk_refused _ _ _ c.args.queue.now c.args.abounds.now c.args.bbounds.now _ c.in_err-check_bodies.ensures)) (not_zero _))

pub are_exact-requires : goal.are_exact-requires
are_exact-requires c = (in_range_bodies _ _ _ _ (sym c.in_ok-check_bodies.ensures)).0

pub are_exact-requires-2 : goal.are_exact-requires-2
are_exact-requires-2 c = (in_range_bodies _ _ _ _ (sym c.in_ok-check_bodies.ensures)).1

pub returns-then-not-exact : goal.returns-then-not-exact
returns-then-not-exact c =
    let is = sym c.is_edition.ensures ∙ c.if-not-is_edition.false in
    let no = sym (ap₂ ◌&&◌ c.are_exact.ensures c.are_exact-2.ensures) ∙ c.if-not-exact.true in
    refuses 27 _ _ c.args.queue.now c.args.out.now
    (tell_refused _ _ c.args.out.now is Bounds (walk_by _ _ _ c.args.queue.now c.args.abounds.now c.args.bbounds.now c.in_ok-check_bodies.ensures false no)) (λ z. omega arith)

exact : (c : Else-not-exact) → (are_same c.args.abounds.now (bounds_of (body_of c.args.a)) && are_same c.args.bbounds.now (bounds_of (body_of c.args.b))) ≡ true
exact c = sym (ap₂ ◌&&◌ c.are_exact.ensures c.are_exact-2.ensures) ∙ c.if-not-exact.false

pub returns-then-out-lt8 : goal.returns-then-out-lt8
returns-then-out-lt8 c =
    let is = sym c.is_edition.ensures ∙ c.if-not-is_edition.false in
    refuses 14 _ _ c.args.queue.now c.args.out.now
    (tell_short _ _ c.args.out.now is
    (walk_by _ _ _ c.args.queue.now c.args.abounds.now c.args.bbounds.now c.in_ok-check_bodies.ensures true (exact ((goal.at.returns-then-out-lt8 c).Else-not-exact))) (omega (arith, c.if-out-lt8.true))) (λ z. omega arith)

pub walk-answer-requires : goal.walk-answer-requires
walk-answer-requires c =
    let h = (and-eq-true_iff (are_same c.args.abounds.now (bounds_of (body_of c.args.a))) (are_same c.args.bbounds.now (bounds_of (body_of c.args.b)))).0 (exact ((goal.at.walk-answer-requires c).Else-not-exact)) in
    record { none = sym c.in_ok-check_bodies.ensures; of_a_lem = λ z. same_sound _ _ h.0; of_b_lem = λ z. same_sound _ _ h.1 }

pub returns : goal.returns
returns c =
    let is = sym c.is_edition.ensures ∙ c.if-not-is_edition.false in
    answers
    (tell_good _ _ c.args.out.now is (walk_by _ _ _ c.args.queue.now c.args.abounds.now c.args.bbounds.now c.in_ok-check_bodies.ensures true (exact ((goal.at.returns c).Else-not-exact))) (omega arith))
    (c.write_told.ensures ∙ ap (λ (r : BodyAnswer). put c.args.out.now 0 (body_told r)) c.walk-answer.ensures.says) c.walk-answer.ensures.left
