-- F at a cell's corners is within 3·2^61, and the least is at most the greatest.
use Rattle.std.specs.Prelude.{◌≡◌, ℕ, ◌+◌, ◌*◌, ◌-◌, ◌^◌, ◌≤◌, ◌<◌, ℤ, pos, ◌+ℤ◌, ◌*ℤ◌, ◌≤ℤ◌}
use Rattle.std.proofs.Common.{sym, ap, ◌∙◌, subst, arith, add-mul, mul-le-mul_right, mul-pos, div-lt_iff_lt-mul, pow-add, SFits}
use Rattle.std.proofs.Math.Nat.{max-le}
use Rattle.std.specs.Int.Signed.{le_z}
use Rattle.std.specs.Int.{w64}
use Rattle.whole.specs.Defs.{min_z, max_z}
use Rattle.whole.specs.Order.{≤ℤ_trans, min_le, le_max, min_pick, size_of_difference}
use Rattle.whole.specs.Within.{Within, within_add, within_mul, within_pos, within_more, fits}
use Rattle.kernel.specs.declared.Kernel.{Kernel}
use Rattle.kernel.specs.declared.Pair.{Pair}
use Rattle.kernel.specs.Ranges.{Small}
use Rattle.gap.specs.declared.cell.Cell.{Cell}
use Rattle.gap.specs.declared.span.Moment.{Moment}
use Rattle.gap.specs.Corners.{unit_of, value, value_at, span_at, over, beyond, round_up_by, excess_of, is_narrow}
use Rattle.gap.specs.Affine.{value_at_lem}
use Rattle.gap.specs.Steps.{InParts, Over, Fine, SmallSpan, in_parts_lem, blend_within, twice, term_within, span_small, units_most}

abbrev pub gap_most : ℕ
gap_most = 6_917_529_027_641_081_856

-- ---- at a moment

pub record Values (q : ℕ) (m : Moment) (u v : ℕ) : Type 0 where
  pub a : SFits w64 (pos q *ℤ m.a)
  pub b : SFits w64 (pos u *ℤ m.b)
  pub c : SFits w64 (pos v *ℤ m.c)
  pub ab : SFits w64 (pos q *ℤ m.a +ℤ pos u *ℤ m.b)
  pub abc : SFits w64 (value_at q m u v)

module _ {q : ℕ} {m : Moment} {u v : ℕ} (s : Fine q m) (hu : u ≤ q) (hv : v ≤ q) where
  pub values : Values q m u v
  values =
      record {
        a = fits tt s.a;
        b = fits tt (term_within m.b hu s.b);
        c = fits tt (term_within m.c hv s.c);
        ab = fits tt (within_add s.a (term_within m.b hu s.b));
        abc = fits tt (within_add (within_add s.a (term_within m.b hu s.b)) (term_within m.c hv s.c));
      }

-- over a cell at a moment
pub span_within : {m : Moment} {w : Cell} → Fine w.parts m → InParts w → SmallSpan gap_most (span_at m w)
span_within {m} s h =
    let u = span_small (term_within m.b h.u0 s.b) (term_within m.b h.u1 s.b) in
    let v = span_small (term_within m.c h.v0 s.c) (term_within m.c h.v1 s.c) in
    record { least = within_add (within_add s.a u.least) v.least; greatest = within_add (within_add s.a u.greatest) v.greatest }

-- ---- at a corner

module _ {q : ℕ} {K : Kernel} (s : Small q K) where
  -- six coordinates, times q·q
  abbrev pub most : ℕ
  most = q * (q * (s.coordinate + s.coordinate)) + q * (q * (s.coordinate + s.coordinate)) + q * (q * (s.coordinate + s.coordinate))

  units_within : {t u v : ℕ} → t ≤ q → u ≤ q → v ≤ q → Within most (value q K t u v)
  units_within {t} {u} {v} ht hu hv =
      subst (Within most) (value_at_lem q K t u v)
      (within_add (within_add (within_mul (within_pos q) (blend_within s.held ht s.a0 s.a1)) (within_mul (in_parts_lem hu) (blend_within s.held ht s.b0 s.b1)))
      (within_mul (in_parts_lem hv) (blend_within s.held ht s.c0 s.c1)))

  pub value_within : {t u v : ℕ} → t ≤ q → u ≤ q → v ≤ q → Within gap_most (value q K t u v)
  value_within ht hu hv = within_more (omega (arith, twice s.held)) (units_within ht hu hv)

module _ {w : Cell} {K : Kernel} (s : Small w.parts K) (h : InParts w) where
  pub beyond_most : (d : ℕ) → beyond K w d ≤ 3_221_225_472 * unit_of w
  beyond_most d =
      omega (arith, (units_within s h.t0 h.u0 h.v0).most, mul-le-mul_right (unit_of w) s.held.coordinate_most)

  pub beyond_within : (d : ℕ) → beyond K w d ≤ gap_most
  beyond_within d = omega (arith, (value_within s h.t0 h.u0 h.v0).most)

  pub least_within : Within gap_most (over min_z K w)
  unfolding over
  least_within =
      pick
      (pick (pick (value_within s h.t0 h.u0 h.v0) (value_within s h.t0 h.u0 h.v1)) (pick (value_within s h.t0 h.u1 h.v0) (value_within s h.t0 h.u1 h.v1)))
      (pick (pick (value_within s h.t1 h.u0 h.v0) (value_within s h.t1 h.u0 h.v1)) (pick (value_within s h.t1 h.u1 h.v0) (value_within s h.t1 h.u1 h.v1)))
    where
      pick : {x y : ℤ} → Within gap_most x → Within gap_most y → Within gap_most (min_z x y)
      pick {x} {y} f g = min_pick (Within gap_most) x y f g

  -- what is tested for the width fits
  pub reach_fits : {t : ℕ} → t ≤ 1_048_576 → SFits w64 (over min_z K w +ℤ pos (t * unit_of w))
  reach_fits {t} g = fits tt (within_add {N = 1_152_921_504_606_846_976} least_within (within_more (units_most h g) (within_pos (t * unit_of w))))

-- rounded up, at most so many units
pub round_most : {u n : ℕ} (k : ℕ) → 1 ≤ u → n ≤ k * u → round_up_by u n ≤ k
round_most {u} {n} k g h = below (round_up_by u n) k ((div-lt_iff_lt-mul {k = u} {x = n + (u - 1)} {y = k + 1} g).1 (omega (arith, add-mul k 1 u)))
  where
    below : (a b : ℕ) → a < b + 1 → a ≤ b
    below a b h = omega arith

-- the excess of a pair over a cell, and a unit as the code divides by it
module _ {p : Pair} {w : Cell} (o : Over p w) where
  pub unit_least : 1 ≤ unit_of w
  unit_least = mul-pos o.in_parts.parts_least o.in_parts.parts_least

  pub excess_most : excess_of p w ≤ 3_221_225_472
  unfolding excess_of
  excess_most =
      round_most 3_221_225_472 unit_least
      (max-le (beyond_most o.x o.in_parts p.dx) (max-le (beyond_most o.y o.in_parts p.dy) (beyond_most o.z o.in_parts p.dz)))

  pub shift_is : 2 ^ (2 * p.deepest) ≡ unit_of w
  shift_is =
      let e : 2 * p.deepest ≡ p.deepest + p.deepest = omega arith in
      ap (λ (n : ℕ). 2 ^ n) e ∙ pow-add 2 p.deepest p.deepest ∙ ap (λ (q : ℕ). q * q) (sym o.parts)

-- both are about the low corner
pub least_greatest : (K : Kernel) (w : Cell) → over min_z K w ≤ℤ over max_z K w
unfolding over
least_greatest K w =
    ≤ℤ_trans (≤ℤ_trans (min_le _ _).0 (≤ℤ_trans (min_le _ _).0 (min_le _ _).0)) (≤ℤ_trans (le_max _ _).0 (≤ℤ_trans (le_max _ _).0 (le_max _ _).0))

pub narrow_is : (K : Kernel) (w : Cell) (t : ℕ) → le_z (over max_z K w) (over min_z K w +ℤ pos (t * unit_of w)) ≡ is_narrow K w t
narrow_is K w t = sym (size_of_difference (over min_z K w) (over max_z K w) (t * unit_of w) (least_greatest K w))
