-- At depths that are not full a parameter is split that is below the deepest.
use mathlib.Core.Path.{◌≡◌, refl}
use mathlib.Core.Bool.{Bool, true, false, ◌&&◌, cond}
use Prim.Native.Nat.{ℕ, ◌+◌, ◌<◌}
use native.Mathlib.Omega.{arith}
use lib.Dec.{leb, eqb}
use borrow.Author.Tests.{leb-true, leb-false, eq-eqb}
use Rattle.rules.specs.declared.Parameter.{Parameter}
use Rattle.rules.specs.declared.Parameter.TheVariants.{InT, InU, InV}
use Rattle.rules.specs.Search.{Query, Depths, weight, winner, split, full, deeper}
use Rattle.kernel.specs.Ranges.{Shallow}
use Rattle.search.specs.Levels.{depth_in, total}

-- the winner's number, of three
abbrev of : Parameter → ℕ → ℕ → ℕ → ℕ
of InT t u v = t
of InU t u v = u
of InV t u v = v

winner_some : (t u v : ℕ) → 0 < t + u + v → 0 < of (winner t u v) t u v
unfolding winner
winner_some t u v h = go (leb u t) (leb v t) (leb v u) refl refl refl
  where
    go : (x y z : Bool) → leb u t ≡ x → leb v t ≡ y → leb v u ≡ z → 0 < of (cond (x && y) InT (cond z InU InV)) t u v
    go true true z d e f = omega (arith, leb-true u t d, leb-true v t e)
    go true false true d e f = omega (arith, leb-false v t e, leb-true v u f)
    go true false false d e f = omega (arith, leb-false v t e)
    go false y true d e f = omega (arith, leb-false u t d)
    go false y false d e f = omega (arith, leb-false v u f)

module _ (q : Query) where
  -- a full depth has no weight, another has some
  light : (p : Parameter) (k : ℕ) → k ≡ q.deepest → weight q p k ≡ 0
  light p k e = rw (eq-eqb k q.deepest e)

  heavy : (p : Parameter) (k : ℕ) → eqb k q.deepest ≡ false → 0 < weight q p k
  heavy p k e = rw e (omega arith)

  module _ (k : Depths) where
    some_weight : full q k ≡ false → 0 < weight q InT k.t + weight q InU k.u + weight q InV k.v
    some_weight h = go (eqb k.t q.deepest) (eqb k.u q.deepest) (eqb k.v q.deepest) refl refl refl h
      where
        go : (x y z : Bool) → eqb k.t q.deepest ≡ x → eqb k.u q.deepest ≡ y → eqb k.v q.deepest ≡ z → (x && y && z) ≡ false
            → 0 < weight q InT k.t + weight q InU k.u + weight q InV k.v
        go false y z d e f g = omega (arith, heavy InT k.t d)
        go true false z d e f g = omega (arith, heavy InU k.u e)
        go true true false d e f g = omega (arith, heavy InV k.v f)
        go true true true d e f g = absurd (let w : ◌≡◌ {A = ℕ} 0 1 = cc in omega arith)

    not_deepest : (p : Parameter) → 0 < of p (weight q InT k.t) (weight q InU k.u) (weight q InV k.v) → depth_in p k ≡ q.deepest → ⊥
    not_deepest InT h e = omega (arith, light InT k.t e)
    not_deepest InU h e = omega (arith, light InU k.u e)
    not_deepest InV h e = omega (arith, light InV k.v e)

    pub split_deepest : full q k ≡ false → depth_in (split q k) k ≡ q.deepest → ⊥
    unfolding split
    split_deepest h = not_deepest (split q k) (winner_some (weight q InT k.t) (weight q InU k.u) (weight q InV k.v) (some_weight h))

pub deeper_total : (p : Parameter) (k : Depths) → total (deeper p k) ≡ total k + 1
deeper_total InT k = omega arith
deeper_total InU k = omega arith
deeper_total InV k = omega arith

pub deeper_shallow : {d : ℕ} (p : Parameter) (k : Depths) → (depth_in p k ≡ d → ⊥) → Shallow d k → Shallow d (deeper p k)
deeper_shallow InT k h s = record { t = omega (arith, s.t); u = s.u; v = s.v }
deeper_shallow InU k h s = record { t = s.t; u = omega (arith, s.u); v = s.v }
deeper_shallow InV k h s = record { t = s.t; u = s.u; v = omega (arith, s.v) }
