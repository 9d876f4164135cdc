-- A box that holds a contact survives; and how far a survivor's low corner is off.
use mathlib.Core.Path.{◌≡◌, sym, ap, ◌∙◌, subst₂}
use mathlib.Core.Bool.{Bool, true, false, ◌&&◌}
use Prim.Native.Nat.{ℕ, ◌+◌, ◌*◌, ◌≤◌, ◌<◌}
use native.Mathlib.Nat.{le_refl, add-mul, mul_comm, mul_assoc, mul-pos}
use native.Mathlib.Omega.{arith}
use lib.IntN.{ℤ, pos, negsuc, neg_ℤ, nat_abs, ◌-ℤ◌, ◌*ℤ◌}
use lib.Signed.{◌≤ℤ◌, le_z}
use lib.Dec.{T}
use Rattle.whole.specs.Within.{abs_mul}
use Rattle.whole.specs.View.{zed, abs_view, minus_view, neg_up, neg_dn}
use Rattle.rules.specs.Numbers.{parts}
use Rattle.rules.specs.declared.Axis.{Axis}
use Rattle.rules.specs.declared.Axis.TheVariants.{X, Y, Z}
use Rattle.rules.specs.Gap.{Place}
use Rattle.rules.specs.Search.{Query, Box, Depths, low, unit, over_corners, least, greatest, survives}
use Rattle.promise.proofs.Side.{Side, from_least, to_greatest}
use Rattle.promise.proofs.Box.{In, HasKernel, box_bound, corner_bound}

-- ---- both of two
pub and_intro : (a b : Bool) → T a → T b → T (a && b)
and_intro true b p q = q
and_intro false b p q = p

pub and_both : (a b : Bool) → T (a && b) → T a × T b
and_both true b t = (tt, t)
and_both false b t = absurd t

-- ---- the test on one axis
abbrev limit_on : Query → Axis → ℕ
limit_on S axis = S.separation axis * unit

unfoldable pub reaches : Query → Depths → Box → Axis → Bool
reaches S k box axis = le_z (least S k box axis) (pos (limit_on S axis)) && le_z (neg_ℤ (pos (limit_on S axis))) (greatest S k box axis)

module _ (S : Query) (k : Depths) (box : Box) where
  pub survives_intro : ((axis : Axis) → T (reaches S k box axis)) → T (survives S k box)
  unfolding survives reaches
  survives_intro f =
      and_intro (reaches S k box X && reaches S k box Y) (reaches S k box Z) (and_intro (reaches S k box X) (reaches S k box Y) (f X) (f Y)) (f Z)

  pub survives_on : T (survives S k box) → (axis : Axis) → T (reaches S k box axis)
  unfolding survives reaches
  survives_on t X = (and_both (reaches S k box X) (reaches S k box Y) (and_both (reaches S k box X && reaches S k box Y) (reaches S k box Z) t).0).0
  survives_on t Y = (and_both (reaches S k box X) (reaches S k box Y) (and_both (reaches S k box X && reaches S k box Y) (reaches S k box Z) t).0).1
  survives_on t Z = (and_both (reaches S k box X && reaches S k box Y) (reaches S k box Z) t).1

-- ---- a contact keeps its box, and so does a place less than 1 / unit from contact, corner values being whole

module _ (S : Query) (m : Place) where
  abbrev value_on : Axis → ℤ
  value_on axis = S.gap axis m.q m.a m.b m.c

  -- |F| at most the separation, on each axis
  abbrev pub Touch : Type 0
  Touch = (axis : Axis) → nat_abs (value_on axis) ≤ S.separation axis * (m.q * m.q)

  -- |F| less than the separation and 1 / unit, on each axis
  abbrev pub Close : Type 0
  Close = (axis : Axis) → nat_abs (value_on axis) * unit < (S.separation axis * unit + 1) * (m.q * m.q)

  pub touch_close : 0 < m.q → Touch → Close
  touch_close h touch axis =
      omega (arith, touch axis, mul-pos h h, add-mul (S.separation axis * unit) 1 (m.q * m.q), regroup (S.separation axis) (m.q * m.q))
    where
      regroup : (d n : ℕ) → d * unit * n ≡ d * n * unit
      regroup d n = mul_assoc d unit n ∙ ap (λ (x : ℕ). d * x) (mul_comm unit n) ∙ sym (mul_assoc d n unit)

module _ (S : Query) (H : HasKernel S) (k : Depths) (box : Box) (m : Place) (h : 0 < m.q) (w : In k box m) (close : Close S m) where
  close_bound : (s : Side) (axis : Axis) → s.bounds (over_corners s.pick S k box axis) (s.limit (limit_on S axis))
  close_bound s axis =
      s.cancel_limit (m.q * m.q) (limit_on S axis) (nat_abs scaled)
      (subst₂ (λ (x y : ℕ). x < y) (mul_comm (nat_abs (value_on S m axis)) unit ∙ sym (abs_mul (pos unit) (value_on S m axis))) (mul_comm (limit_on S axis + 1) (m.q * m.q)) (close axis))
      (over_corners s.pick S k box axis)
      (s.trans (box_bound S H k box m h w axis s) (s.within scaled (nat_abs scaled) (le_refl (nat_abs scaled))))
    where
      scaled : ℤ
      scaled = pos unit *ℤ value_on S m axis

  pub close_survives : T (survives S k box)
  unfolding least greatest reaches
  close_survives =
      survives_intro S k box
      (λ axis. and_intro (le_z (least S k box axis) (pos (limit_on S axis))) (le_z (neg_ℤ (pos (limit_on S axis))) (greatest S k box axis))
      (close_bound from_least axis).le (close_bound to_greatest axis).le)

-- ---- a survivor's low corner is off by no more than the separation and the width

between_size : (m g M : ℤ) (d : ℕ) → m ≤ℤ g → g ≤ℤ M → m ≤ℤ pos d → neg_ℤ (pos d) ≤ℤ M → nat_abs g ≤ d + nat_abs (M -ℤ m)
between_size m (pos n) M d mg gM md dM = omega (zed, abs_view (M -ℤ m), minus_view M m)
between_size m (negsuc n) M d mg gM md dM = omega (zed, abs_view (M -ℤ m), minus_view M m, neg_up (pos d), neg_dn (pos d))

module _ (S : Query) (k : Depths) (box : Box) (t : T (survives S k box)) (axis : Axis) where
  abbrev low_value : ℤ
  low_value = S.gap axis parts (low k.t box.t) (low k.u box.u) (low k.v box.v)

  both_tests : T (le_z (least S k box axis) (pos (limit_on S axis))) × T (le_z (neg_ℤ (pos (limit_on S axis))) (greatest S k box axis))
  unfolding reaches
  both_tests = and_both (le_z (least S k box axis) (pos (limit_on S axis))) (le_z (neg_ℤ (pos (limit_on S axis))) (greatest S k box axis)) (survives_on S k box t axis)

  pub survivor_size : nat_abs low_value ≤ S.separation axis * unit + nat_abs (greatest S k box axis -ℤ least S k box axis)
  unfolding least greatest
  survivor_size =
      between_size (least S k box axis) low_value (greatest S k box axis) (limit_on S axis)
      (corner_bound from_least S k box axis false false false)
      (corner_bound to_greatest S k box axis false false false)
      (record { le = both_tests.0 })
      (record { le = both_tests.1 })
