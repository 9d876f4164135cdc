-- The whole cube, in whole units: its depth limit is 0, so that there is one part, and t, u and v are 0 or 1.
use Rattle.std.specs.Prelude.{◌≡◌, ◌&&◌, [], ◌∷◌, ℕ, ◌+◌, ◌*◌, ℤ, pos, neg_ℤ, ◌+ℤ◌, ◌*ℤ◌}
use Rattle.std.proofs.Common.{sym, ap, ap₂, ◌∙◌, arith, lit≤}
use Rattle.std.proofs.Math.IntN.{zero-*ℤ}
use Rattle.std.specs.Int.Signed.{le_z}
use Rattle.whole.specs.Defs.{min_z, max_z}
use Rattle.whole.specs.Order.{min_add, max_add, min_pick, max_pick}
use Rattle.whole.specs.Ring.{var, num, ◌:+◌, ◌:*◌, ◌:-◌}
use Rattle.whole.proofs.Ring.{ring}
use Rattle.whole.specs.Within.{Within, within_add, within_more, within_pos}
use Rattle.rules.specs.Search.{origin}
use Rattle.kernel.specs.declared.Kernel.{Kernel}
use Rattle.kernel.specs.Ranges.{Small}
use Rattle.gap.specs.declared.cell.Cell.{Cell}
use Rattle.gap.specs.declared.span.Moment.{Moment}
use Rattle.gap.specs.declared.span.Span.{Span}
use Rattle.gap.specs.Corners.{cell_of, blended, moment_of, over, meets, span_of, summed, joined}
use Rattle.gap.specs.Affine.{over_at}
use Rattle.gap.specs.Steps.{SmallSpan, span_small}

abbrev pub whole_cube : Cell
whole_cube = cell_of 0 origin origin

-- over u and v, at the start or at the end
abbrev pub square_of : ℤ → ℤ → ℤ → Span
square_of a b c = summed a (span_of (pos 0) b) (span_of (pos 0) c)

abbrev pub cube_of : Kernel → Span
cube_of K = joined (square_of K.a0 K.b0 K.c0) (square_of K.a1 K.b1 K.c1)

-- differences of any two numbers of 32 bits: a kernel of these has a cube that fits
pub record Wide (K : Kernel) : Type 0 where
  pub a0 : Within 4_294_967_296 K.a0
  pub b0 : Within 4_294_967_296 K.b0
  pub c0 : Within 4_294_967_296 K.c0
  pub a1 : Within 4_294_967_296 K.a1
  pub b1 : Within 4_294_967_296 K.b1
  pub c1 : Within 4_294_967_296 K.c1

pub small_wide : {q : ℕ} {K : Kernel} → Small q K → Wide K
small_wide s =
    record { a0 = more s.a0; b0 = more s.b0; c0 = more s.c0; a1 = more s.a1; b1 = more s.b1; c1 = more s.c1 }
  where
    more : {x : ℤ} → Within (s.coordinate + s.coordinate) x → Within 4_294_967_296 x
    more h = within_more (omega (arith, s.held.coordinate_most)) h

abbrev pub cube_most : ℕ
cube_most = 12_884_901_888

pub cube_within : {K : Kernel} → Wide K → SmallSpan cube_most (cube_of K)
cube_within h =
    let s = square h.a0 h.b0 h.c0 in
    let e = square h.a1 h.b1 h.c1 in
    record { least = min_pick (Within cube_most) _ _ s.least e.least; greatest = max_pick (Within cube_most) _ _ s.greatest e.greatest }
  where
    term : {x : ℤ} → Within 4_294_967_296 x → SmallSpan 4_294_967_296 (span_of (pos 0) x)
    term h = span_small (within_more (lit≤ tt) (within_pos 0)) h

    square : {a b c : ℤ} → Within 4_294_967_296 a → Within 4_294_967_296 b → Within 4_294_967_296 c → SmallSpan cube_most (square_of a b c)
    square f g h = record { least = within_add (within_add f (term g).least) (term h).least; greatest = within_add (within_add f (term g).greatest) (term h).greatest }

-- a number of the kernel at the start and at the end
at_start : (x y : ℤ) → pos 1 *ℤ blended (pos 1) (pos 0) x y ≡ x
at_start x y = ring (x ∷ y ∷ []) (num (pos 1) :* ((num (pos 1) :- num (pos 0)) :* var 0 :+ num (pos 0) :* var 1)) (var 0) tt

at_end : (x y : ℤ) → pos 1 *ℤ blended (pos 1) (pos 1) x y ≡ y
at_end x y = ring (x ∷ y ∷ []) (num (pos 1) :* ((num (pos 1) :- num (pos 1)) :* var 0 :+ num (pos 1) :* var 1)) (var 1) tt

-- a pick that a sum goes through, as the least and the greatest
module _ (pick : ℤ → ℤ → ℤ) (add : (x y z : ℤ) → pick (x +ℤ y) (x +ℤ z) ≡ x +ℤ pick y z) where
  abbrev square : ℤ → ℤ → ℤ → ℤ
  square a b c = a +ℤ pick (pos 0) b +ℤ pick (pos 0) c

  at : (m : Moment) (a b c : ℤ) → pos 1 *ℤ m.a ≡ a → pos 1 *ℤ m.b ≡ b → pos 1 *ℤ m.c ≡ c
      → pos 1 *ℤ m.a +ℤ pick (pos 0 *ℤ m.b) (pos 1 *ℤ m.b) +ℤ pick (pos 0 *ℤ m.c) (pos 1 *ℤ m.c) ≡ square a b c
  at m a b c f g h = ap₂ ◌+ℤ◌ (ap₂ ◌+ℤ◌ f (ap₂ pick (zero-*ℤ m.b) g)) (ap₂ pick (zero-*ℤ m.c) h)

  over_cube : (K : Kernel) → over pick K whole_cube ≡ pick (square K.a0 K.b0 K.c0) (square K.a1 K.b1 K.c1)
  over_cube K =
      sym (over_at pick add K whole_cube)
      ∙ ap₂ pick
      (at (moment_of 1 K 0) K.a0 K.b0 K.c0 (at_start K.a0 K.a1) (at_start K.b0 K.b1) (at_start K.c0 K.c1))
      (at (moment_of 1 K 1) K.a1 K.b1 K.c1 (at_end K.a0 K.a1) (at_end K.b0 K.b1) (at_end K.c0 K.c1))

pub meets_whole : (K : Kernel) (d : ℕ) → (le_z (cube_of K).least (pos d) && le_z (neg_ℤ (pos d)) (cube_of K).greatest) ≡ meets K whole_cube d
unfolding meets
meets_whole K d =
    let e : d ≡ d * (1 * 1) = omega arith in
    ap₂ ◌&&◌
    (ap₂ le_z (sym (over_cube min_z min_add K)) (ap pos e))
    (ap₂ le_z (ap (λ (n : ℕ). neg_ℤ (pos n)) e) (sym (over_cube max_z max_add K)))
