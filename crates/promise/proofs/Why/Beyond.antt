-- What the axis and the side that are named say of a box: it did not survive, and F is beyond the separation at every place in it.
use mathlib.Core.Path.{◌≡◌, refl, sym, ap, ◌∙◌, subst}
use mathlib.Core.Logic.{⊎_elim}
use mathlib.Core.Bool.{Bool, true, false, cond}
use Prim.Native.Nat.{ℕ, ◌+◌, ◌*◌, ◌<◌}
use native.Mathlib.Nat.{mul_comm, mul_assoc, mul-add, mul-pos}
use native.Mathlib.Omega.{arith}
use lib.IntN.{ℤ, pos, neg_ℤ, ◌*ℤ◌}
use lib.Signed.{◌≤ℤ◌, ◌<ℤ◌, le_z}
use lib.Dec.{T}
use Rattle.std.specs.Prelude.{Option, Some, None}
use Rattle.std.specs.Option.{option_or}
use Rattle.whole.specs.View.{zed, neg_up, neg_dn}
use Rattle.whole.specs.Order.{≤ℤ_trans, ≤ℤ_or-<, le_z_false}
use Rattle.rules.specs.declared.Axis.{Axis}
use Rattle.rules.specs.declared.Axis.TheVariants.{X, Y, Z}
use Rattle.rules.specs.declared.Side.{Side}
use Rattle.rules.specs.declared.Side.TheVariants.{Above, Below}
use Rattle.rules.specs.declared.Miss.{Miss}
use Rattle.rules.specs.Gap.{Place, place}
use Rattle.rules.specs.Search.{Query, Box, Depths, unit, least, greatest, survives}
use Rattle.rules.specs.Why.{miss_on, missed}
use Rattle.promise.specs.Why.{In, Beyond}
use Rattle.promise.proofs.Line.{≤ℤ_times}
use Rattle.promise.proofs.Side.{from_least, to_greatest, times_minus}
use Rattle.promise.proofs.Box.{HasKernel, box_bound}
use Rattle.promise.proofs.Survive.{and_both, reaches, survives_intro, survives_on}

-- ---- a bound on whole corner values, over n: x is more than d·w, and n·x at most w·v, so that v is more than d·n
module _ (w n d : ℕ) (h : 0 < n) (x v : ℤ) where
  regroup : w * (d * n) < n * (d * w + 1)
  regroup =
      let e : w * (d * n) ≡ n * (d * w) = mul_comm w (d * n) ∙ ap (λ (y : ℕ). y * w) (mul_comm d n) ∙ mul_assoc n d w in
      omega (arith, mul-add n (d * w) 1)

  over : pos (d * w) <ℤ x → (pos n *ℤ x) ≤ℤ (pos w *ℤ v) → pos (d * n) <ℤ v
  over more le = ⊎_elim (λ g. absurd (no (≤ℤ_trans (≤ℤ_times n next) (≤ℤ_trans le (≤ℤ_times w g))))) (λ g. g) (≤ℤ_or-< v (pos (d * n)))
    where
      next : pos (d * w + 1) ≤ℤ x
      next = omega zed

      no : pos (n * (d * w + 1)) ≤ℤ pos (w * (d * n)) → ⊥
      no y = omega (zed, regroup)

  under : x <ℤ neg_ℤ (pos (d * w)) → (pos w *ℤ v) ≤ℤ (pos n *ℤ x) → v <ℤ neg_ℤ (pos (d * n))
  under less le =
      ⊎_elim
      (λ g. absurd (no (≤ℤ_trans (subst (λ (y : ℤ). y ≤ℤ (pos w *ℤ v)) (times_minus w (d * n)) (≤ℤ_times w g)) (≤ℤ_trans le (subst (λ (y : ℤ). (pos n *ℤ x) ≤ℤ y) (times_minus n (d * w + 1)) (≤ℤ_times n next))))))
      (λ g. g)
      (≤ℤ_or-< (neg_ℤ (pos (d * n))) v)
    where
      next : x ≤ℤ neg_ℤ (pos (d * w + 1))
      next = omega (zed, neg_up (pos (d * w)), neg_dn (pos (d * w)), neg_up (pos (d * w + 1)), neg_dn (pos (d * w + 1)))

      no : neg_ℤ (pos (w * (d * n))) ≤ℤ neg_ℤ (pos (n * (d * w + 1))) → ⊥
      no y = omega (zed, regroup, neg_up (pos (w * (d * n))), neg_dn (pos (w * (d * n))), neg_up (pos (n * (d * w + 1))), neg_dn (pos (n * (d * w + 1))))

-- ---- a box, by what it misses
module _ (S : Query) (k : Depths) (box : Box) where
  abbrev limit : Axis → ℤ
  limit axis = pos (S.separation axis * unit)

  -- the test that fails
  abbrev pub Fails : Axis → Side → Type 0
  Fails axis Above = le_z (least S k box axis) (limit axis) ≡ false
  Fails axis Below = le_z (neg_ℤ (limit axis)) (greatest S k box axis) ≡ false

  abbrev pub Says : Option Miss → Type 0
  Says None = T (survives S k box)
  Says (Some m) = Fails m.axis m.side

  abbrev SaysOn : Axis → Option Miss → Type 0
  SaysOn axis None = T (reaches S k box axis)
  SaysOn axis (Some m) = Fails m.axis m.side

  says_on : (axis : Axis) → SaysOn axis (miss_on S k box axis)
  unfolding miss_on reaches
  says_on axis = go (le_z (least S k box axis) (limit axis)) (le_z (neg_ℤ (limit axis)) (greatest S k box axis)) refl refl
    where
      go : (x y : Bool) → le_z (least S k box axis) (limit axis) ≡ x → le_z (neg_ℤ (limit axis)) (greatest S k box axis) ≡ y
          → SaysOn axis (cond x (cond y None (Some (record { axis = axis; side = Below }))) (Some (record { axis = axis; side = Above })))
      go true true e f = subst T (sym (both e f)) tt
        where
          both : le_z (least S k box axis) (limit axis) ≡ true → le_z (neg_ℤ (limit axis)) (greatest S k box axis) ≡ true → reaches S k box axis ≡ true
          both e f = rw (e, f)
      go true false e f = f
      go false y e f = e

  pub says : Says (missed S k box)
  unfolding missed
  says = go (miss_on S k box X) (miss_on S k box Y) (miss_on S k box Z) (says_on X) (says_on Y) (says_on Z)
    where
      go : (x y z : Option Miss) → SaysOn X x → SaysOn Y y → SaysOn Z z → Says (option_or x (option_or y z))
      go (Some m) y z f g h = f
      go None (Some m) z f g h = g
      go None None (Some m) f g h = h
      go None None None f g h = survives_intro S k box each
        where
          each : (axis : Axis) → T (reaches S k box axis)
          each X = f
          each Y = g
          each Z = h

  -- no axis before the named one misses
  abbrev pub Before : Option Miss → Type 0
  Before None = Unit {0}
  Before (Some m) = (other : Axis) → place other < place m.axis → T (reaches S k box other)

  abbrev Own : Axis → Option Miss → Type 0
  Own axis None = Unit {0}
  Own axis (Some m) = place m.axis ≡ place axis

  own : (axis : Axis) → Own axis (miss_on S k box axis)
  unfolding miss_on
  own axis = go (le_z (least S k box axis) (limit axis)) (le_z (neg_ℤ (limit axis)) (greatest S k box axis))
    where
      go : (x y : Bool) → Own axis (cond x (cond y None (Some (record { axis = axis; side = Below }))) (Some (record { axis = axis; side = Above })))
      go true true = tt
      go true false = refl
      go false y = refl

  pub before : Before (missed S k box)
  unfolding missed
  before = go (miss_on S k box X) (miss_on S k box Y) (miss_on S k box Z) (own X) (own Y) (own Z) (says_on X) (says_on Y)
    where
      go : (x y z : Option Miss) → Own X x → Own Y y → Own Z z → SaysOn X x → SaysOn Y y → Before (option_or x (option_or y z))
      go (Some m) y z e _ _ f g = λ other h. absurd (omega (arith, e, h))
      go None (Some m) z _ e _ f g = λ other h. at other (omega (arith, e, h))
        where
          at : (other : Axis) → place other < 1 → T (reaches S k box other)
          at X h = f
          at Y h = absurd (omega arith)
          at Z h = absurd (omega arith)
      go None None (Some m) _ _ e f g = λ other h. at other (omega (arith, e, h))
        where
          at : (other : Axis) → place other < 2 → T (reaches S k box other)
          at X h = f
          at Y h = g
          at Z h = absurd (omega arith)
      go None None None _ _ _ f g = tt

  -- so it did not survive
  pub fails_lost : (axis : Axis) (side : Side) → Fails axis side → survives S k box ≡ false
  unfolding reaches
  fails_lost axis side e = not_so (survives S k box) (λ t. no side e (tests (survives_on S k box t axis)))
    where
      tests : T (reaches S k box axis) → T (le_z (least S k box axis) (limit axis)) × T (le_z (neg_ℤ (limit axis)) (greatest S k box axis))
      tests t = and_both (le_z (least S k box axis) (limit axis)) (le_z (neg_ℤ (limit axis)) (greatest S k box axis)) t

      no : (side : Side) → Fails axis side → T (le_z (least S k box axis) (limit axis)) × T (le_z (neg_ℤ (limit axis)) (greatest S k box axis)) → ⊥
      no Above e t = subst T e t.0
      no Below e t = subst T e t.1

      not_so : (b : Bool) → (T b → ⊥) → b ≡ false
      not_so true f = absurd (f tt)
      not_so false f = refl

  -- and F is beyond at every place in it
  pub fails_beyond : HasKernel S → (axis : Axis) (side : Side) → Fails axis side → (m : Place) → 0 < m.q → In k box m → Beyond S axis side m
  unfolding least greatest
  fails_beyond H axis Above e m h w =
      over unit (m.q * m.q) (S.separation axis) (mul-pos h h) (least S k box axis) (S.gap axis m.q m.a m.b m.c)
      (le_z_false _ _ e) (box_bound S H k box m h w axis from_least)
  fails_beyond H axis Below e m h w =
      under unit (m.q * m.q) (S.separation axis) (mul-pos h h) (greatest S k box axis) (S.gap axis m.q m.a m.b m.c)
      (le_z_false _ _ e) (box_bound S H k box m h w axis to_greatest)
