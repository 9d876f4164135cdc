-- At a moment F is A + u·B + v·C, so that its least over u and v is that of each term by itself.
use Rattle.std.specs.Prelude.{◌≡◌, [], ◌∷◌, ℕ, ℤ, pos, ◌+ℤ◌, ◌*ℤ◌}
use Rattle.std.proofs.Common.{sym, ap, ◌∙◌}
use Rattle.std.proofs.Math.Path.{ap₂}
use Rattle.std.proofs.Math.IntN.{+ℤ_comm}
use Rattle.whole.specs.Defs.{min_z, max_z}
use Rattle.whole.specs.Order.{min_add, max_add}
use Rattle.whole.specs.Ring.{Ex, var, ◌:+◌, ◌:*◌, ◌:-◌}
use Rattle.whole.proofs.Ring.{ring}
use Rattle.kernel.specs.declared.Kernel.{Kernel}
use Rattle.kernel.specs.Kernel.{kern}
use Rattle.gap.specs.declared.cell.Cell.{Cell}
use Rattle.gap.specs.declared.span.Moment.{Moment}
use Rattle.gap.specs.Corners.{value, over, span_over, moment_of, value_at, span_at, joined}

abbrev blended_e : ℕ → ℕ → Ex
blended_e x y = (var 0 :- var 1) :* var x :+ var 1 :* var y

pub value_at_lem : (q : ℕ) (K : Kernel) (t u v : ℕ) → value_at q (moment_of q K t) u v ≡ value q K t u v
unfolding kern
value_at_lem q K t u v =
    ring (pos q ∷ pos t ∷ pos u ∷ pos v ∷ K.a0 ∷ K.b0 ∷ K.c0 ∷ K.a1 ∷ K.b1 ∷ K.c1 ∷ [])
    (var 0 :* blended_e 4 7 :+ var 2 :* blended_e 5 8 :+ var 3 :* blended_e 6 9)
    ((var 0 :- var 1) :* (var 0 :* var 4 :+ var 2 :* var 5 :+ var 3 :* var 6) :+ var 1 :* (var 0 :* var 7 :+ var 2 :* var 8 :+ var 3 :* var 9))
    tt

-- a pick that a sum goes through, as the least and the greatest
module _ (pick : ℤ → ℤ → ℤ) (add : (x a b : ℤ) → pick (x +ℤ a) (x +ℤ b) ≡ x +ℤ pick a b) where
  add_right : (a b x : ℤ) → pick (a +ℤ x) (b +ℤ x) ≡ pick a b +ℤ x
  add_right a b x = ap₂ pick (+ℤ_comm a x) (+ℤ_comm b x) ∙ add x a b ∙ +ℤ_comm x (pick a b)

  by_term : (x a b c d : ℤ) → x +ℤ pick a b +ℤ pick c d ≡ pick (pick (x +ℤ a +ℤ c) (x +ℤ a +ℤ d)) (pick (x +ℤ b +ℤ c) (x +ℤ b +ℤ d))
  by_term x a b c d =
      sym (ap₂ pick (add (x +ℤ a) c d) (add (x +ℤ b) c d) ∙ add_right (x +ℤ a) (x +ℤ b) (pick c d) ∙ ap (λ (z : ℤ). z +ℤ pick c d) (add x a b))

  at : (K : Kernel) (w : Cell) (t : ℕ)
      → pos w.parts *ℤ (moment_of w.parts K t).a +ℤ pick (pos w.u0 *ℤ (moment_of w.parts K t).b) (pos w.u1 *ℤ (moment_of w.parts K t).b) +ℤ pick (pos w.v0 *ℤ (moment_of w.parts K t).c) (pos w.v1 *ℤ (moment_of w.parts K t).c)
      ≡ pick (pick (value w.parts K t w.u0 w.v0) (value w.parts K t w.u0 w.v1)) (pick (value w.parts K t w.u1 w.v0) (value w.parts K t w.u1 w.v1))
  at K w t =
      let q = w.parts in
      by_term (pos q *ℤ (moment_of q K t).a) (pos w.u0 *ℤ (moment_of q K t).b) (pos w.u1 *ℤ (moment_of q K t).b) (pos w.v0 *ℤ (moment_of q K t).c) (pos w.v1 *ℤ (moment_of q K t).c)
      ∙ ap₂ pick (ap₂ pick (value_at_lem q K t w.u0 w.v0) (value_at_lem q K t w.u0 w.v1)) (ap₂ pick (value_at_lem q K t w.u1 w.v0) (value_at_lem q K t w.u1 w.v1))

  -- over u and v at a moment
  abbrev pub face_at : Moment → Cell → ℤ
  face_at m w = pos w.parts *ℤ m.a +ℤ pick (pos w.u0 *ℤ m.b) (pos w.u1 *ℤ m.b) +ℤ pick (pos w.v0 *ℤ m.c) (pos w.v1 *ℤ m.c)

  pub over_at : (K : Kernel) (w : Cell) → pick (face_at (moment_of w.parts K w.t0) w) (face_at (moment_of w.parts K w.t1) w) ≡ over pick K w
  unfolding over
  over_at K w = ap₂ pick (at K w w.t0) (at K w w.t1)

pub span_over_lem : (K : Kernel) (w : Cell) → joined (span_at (moment_of w.parts K w.t0) w) (span_at (moment_of w.parts K w.t1) w) ≡ span_over K w
span_over_lem K w = λ i. record { least = over_at min_z min_add K w i; greatest = over_at max_z max_add K w i }
