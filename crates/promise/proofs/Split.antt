-- The parameter that a level is split in was not at full depth, while any was not.
use mathlib.Core.Path.{◌≡◌}
use mathlib.Core.Bool.{Bool, true, false, cond, not, ◌&&◌}
use Prim.Native.Nat.{ℕ, ◌+◌, ◌≤◌, ◌<◌}
use native.Mathlib.Omega.{arith}
use lib.Dec.{T, leb, eqb, leb→le, nleb→lt, eqb_refl}
use Rattle.rules.specs.declared.Three.{Three}
use Rattle.rules.specs.declared.Parameter.{Parameter}
use Rattle.rules.specs.declared.Parameter.TheVariants.{InT, InU, InV}
use Rattle.rules.specs.Search.{Query, Depths, weight, winner, split, full, deeper}

-- the number of a parameter
abbrev pub at : Parameter → Three → ℕ
at InT b = b.t
at InU b = b.u
at InV b = b.v

-- ---- the winner weighs most
abbrev of_three : Parameter → ℕ → ℕ → ℕ → ℕ
of_three InT t u v = t
of_three InU t u v = u
of_three InV t u v = v

winner_most : (t u v : ℕ) → 0 < t + u + v → 0 < of_three (winner t u v) t u v
unfolding winner
winner_most t u v h =
    go (leb u t) (leb v t) (leb v u) (λ x. leb→le u t x) (λ x. nleb→lt u t x) (λ x. leb→le v t x) (λ x. nleb→lt v t x) (λ x. leb→le v u x) (λ x. nleb→lt v u x)
  where
    go : (x y z : Bool) → (T x → u ≤ t) → (T (not x) → t < u) → (T y → v ≤ t) → (T (not y) → t < v) → (T z → v ≤ u) → (T (not z) → u < v)
        → 0 < of_three (cond (x && y) InT (cond z InU InV)) t u v
    go true true z a a' b b' c c' = omega (arith, a tt, b tt)
    go true false true a a' b b' c c' = omega (arith, b' tt, c tt)
    go true false false a a' b b' c c' = omega (arith, c' tt)
    go false y true a a' b b' c c' = omega (arith, a' tt)
    go false y false a a' b b' c c' = omega (arith, c' tt)

-- ---- a parameter weighs something where it is not at full depth, and only there
some_weight : (x y z : Bool) (a b c : ℕ) → T (not (x && y && z)) → 0 < cond x 0 (1 + a) + cond y 0 (1 + b) + cond z 0 (1 + c)
some_weight true true true a b c h = absurd h
some_weight true true false a b c h = omega arith
some_weight true false z a b c h = omega arith
some_weight false y z a b c h = omega arith

weight_open : (k d a : ℕ) → k ≤ d → 0 < cond (eqb k d) 0 (1 + a) → k < d
weight_open k d a h w = go (leb d k) (λ t. leb→le d k t) (λ t. nleb→lt d k t)
  where
    closed : (b : Bool) → T b → 0 < cond b 0 (1 + a) → ⊥
    closed true t p = omega arith
    closed false t p = t

    same : (k d : ℕ) → k ≤ d → d ≤ k → k ≡ d
    same k d x y = omega arith

    go : (c : Bool) → (T c → d ≤ k) → (T (not c) → k < d) → k < d
    go true f g = absurd (closed (eqb k d) (rw (same k d h (f tt)) (eqb_refl d)) w)
    go false f g = g tt

-- ---- no depth is beyond the deepest
pub record Shallow (S : Query) (k : Depths) : Type 0 where
  pub t : k.t ≤ S.deepest
  pub u : k.u ≤ S.deepest
  pub v : k.v ≤ S.deepest

module _ (S : Query) (k : Depths) (shallow : Shallow S k) (open' : T (not (full S k))) where
  pub split_open : at (split S k) k < S.deepest
  unfolding split
  split_open = each (winner wt wu wv) (winner_most wt wu wv (some_weight (eqb k.t S.deepest) (eqb k.u S.deepest) (eqb k.v S.deepest) _ _ _ open'))
    where
      wt : ℕ
      wt = weight S InT k.t

      wu : ℕ
      wu = weight S InU k.u

      wv : ℕ
      wv = weight S InV k.v

      each : (p : Parameter) → 0 < of_three p wt wu wv → at p k < S.deepest
      each InT w = weight_open k.t S.deepest _ shallow.t w
      each InU w = weight_open k.u S.deepest _ shallow.u w
      each InV w = weight_open k.v S.deepest _ shallow.v w

  pub deeper_shallow : (p : Parameter) → at p k < S.deepest → Shallow S (deeper p k)
  deeper_shallow InT h = record { t = omega arith; u = shallow.u; v = shallow.v }
  deeper_shallow InU h = record { t = shallow.t; u = omega arith; v = shallow.v }
  deeper_shallow InV h = record { t = shallow.t; u = shallow.u; v = omega arith }

-- ---- so each split adds one to the sum of the depths
abbrev pub sum : Depths → ℕ
sum k = k.t + k.u + k.v

pub deeper_sum : (p : Parameter) (k : Depths) → sum (deeper p k) ≡ sum k + 1
deeper_sum InT k = omega arith
deeper_sum InU k = omega arith
deeper_sum InV k = omega arith
