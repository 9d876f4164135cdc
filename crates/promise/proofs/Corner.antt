-- The low corner of a box is within the separation and its excess; the excess of a survivor is at most its width.
use mathlib.Core.Path.{◌≡◌}
use mathlib.Core.Bool.{Bool, true, false, ◌||◌}
use Prim.Native.Nat.{ℕ, ◌+◌, ◌*◌, ◌-◌, ◌≤◌, ◌<◌, max}
use native.Mathlib.Nat.{le_trans, add-mul, le-max_left, le-max_right, max-le, div-add-mod', mod-lt, div-lt_iff_lt-mul}
use native.Mathlib.Omega.{arith}
use lib.IntN.{nat_abs, ◌-ℤ◌}
use lib.Dec.{T, leb, eqb, leb→le, eqb→eq}
use Rattle.rules.specs.Numbers.{parts}
use Rattle.rules.specs.declared.Axis.{Axis}
use Rattle.rules.specs.declared.Axis.TheVariants.{X, Y, Z}
use Rattle.rules.specs.Search.{Query, Box, Depths, low, unit, largest, round_up, least, greatest, survives, width, excess, near}
use Rattle.promise.proofs.Survive.{survivor_size}

-- ---- rounding up
round_up_lem : (n : ℕ) → n ≤ round_up n * unit
round_up_lem n = omega (arith, div-add-mod' (n + (unit - 1)) unit, mod-lt (n + (unit - 1)) {m = unit} (omega arith))

round_up_least : (n k : ℕ) → n ≤ k * unit → round_up n ≤ k
round_up_least n k h = below (round_up n) k ((div-lt_iff_lt-mul {k = unit} {x = n + (unit - 1)} {y = k + 1} (omega arith)).1 (omega (arith, add-mul k 1 unit)))
  where
    below : (a b : ℕ) → a < b + 1 → a ≤ b
    below a b h = omega arith

axis_largest : (f : Axis → ℕ) (axis : Axis) → f axis ≤ largest f
axis_largest f X = le-max_left (f X) (max (f Y) (f Z))
axis_largest f Y = le_trans (le-max_left (f Y) (f Z)) (le-max_right (f X) (max (f Y) (f Z)))
axis_largest f Z = le_trans (le-max_right (f Y) (f Z)) (le-max_right (f X) (max (f Y) (f Z)))

largest_least : (f : Axis → ℕ) (n : ℕ) → ((axis : Axis) → f axis ≤ n) → largest f ≤ n
largest_least f n h = max-le (h X) (max-le (h Y) (h Z))

module _ (S : Query) (k : Depths) (b : Box) where
  abbrev size_on : Axis → ℕ
  size_on axis = nat_abs (S.gap axis parts (low k.t b.t) (low k.u b.u) (low k.v b.v))

  abbrev over : Axis → ℕ
  over axis = size_on axis - S.separation axis * unit

  -- ---- within the separation and the excess
  pub low_size : (axis : Axis) → size_on axis ≤ (S.separation axis + excess S k b) * unit
  unfolding excess
  low_size axis =
      omega (arith, axis_largest over axis, round_up_lem (largest over), add-mul (S.separation axis) (round_up (largest over)) unit)

  -- ---- the excess of a near survivor
  excess_width : T (survives S k b) → (n : ℕ) → width S k b ≤ n * unit → excess S k b ≤ n
  unfolding width excess
  excess_width t n h =
      round_up_least (largest over) n (largest_least over (n * unit)
      (λ axis. omega (arith, h, axis_largest (λ i. nat_abs (greatest S k b i -ℤ least S k b i)) axis, survivor_size S k b t axis)))

  pub near_excess : T (survives S k b) → T (near S k b) → excess S k b ≤ S.tolerance
  unfolding near
  near_excess t h = go (eqb (excess S k b) 0) (leb (width S k b) (S.tolerance * unit)) (λ x. eqb→eq _ 0 x) (λ x. leb→le _ _ x) h
    where
      go : (x y : Bool) → (T x → excess S k b ≡ 0) → (T y → width S k b ≤ S.tolerance * unit) → T (x || y) → excess S k b ≤ S.tolerance
      go true y f g s = omega (arith, f tt)
      go false true f g s = excess_width t S.tolerance (g tt)
      go false false f g s = absurd s
