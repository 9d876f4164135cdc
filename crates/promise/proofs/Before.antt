-- The order of boxes, by t, then u, then v: it is that of `not_after`, goes on from box to box, and halving keeps it.
use mathlib.Core.Path.{◌≡◌, ap, ◌∙◌, subst}
use mathlib.Core.Logic.{inl, inr}
use mathlib.Core.Bool.{Bool, true, false, not, ◌&&◌, ◌||◌}
use Prim.Native.Nat.{ℕ, ◌≤◌, ◌<◌}
use native.Mathlib.Nat.{le_of_lt}
use native.Mathlib.Omega.{arith}
use lib.Dec.{T, leb, ltb, eqb, ltb→lt, nltb→le, eqb→eq, leb→le, nleb→lt, eqb_refl, not_T}
use Rattle.rules.specs.declared.Parameter.{Parameter}
use Rattle.rules.specs.declared.Parameter.TheVariants.{InT, InU, InV}
use Rattle.rules.specs.Search.{Box, on, not_after}
use Rattle.promise.specs.Order.{By, Before, SameTest}

-- ---- one index
by_trans : {i j l : ℕ} {X Y Z : Type 0} → (X → Y → Z) → By i j X → By j l Y → By i l Z
by_trans f (inl g) (inl h) = inl (omega arith)
by_trans f (inl g) (inr w) = inl (omega (arith, w.0))
by_trans f (inr w) (inl h) = inl (omega (arith, w.0))
by_trans f (inr w) (inr z) = inr (w.0 ∙ z.0, f w.1 z.1)

by_on : {i j : ℕ} {X Y : Type 0} (f : ℕ → ℕ) → ((a b : ℕ) → a < b → f a < f b) → (X → Y) → By i j X → By (f i) (f j) Y
by_on {i} {j} f up g (inl h) = inl (up i j h)
by_on f up g (inr w) = inr (ap f w.0, g w.1)

by_map : {i j : ℕ} {X Y : Type 0} → (X → Y) → By i j X → By i j Y
by_map f (inl h) = inl h
by_map f (inr w) = inr (w.0, f w.1)

by_not_both : {i j : ℕ} {X Y : Type 0} → (X → Y → ⊥) → By i j X → By j i Y → ⊥
by_not_both f (inl g) (inl h) = omega arith
by_not_both f (inl g) (inr w) = omega (arith, w.0)
by_not_both f (inr w) (inl h) = omega (arith, w.0)
by_not_both f (inr w) (inr z) = f w.1 z.1

-- the test of one index, passed and failed
by_test : (i j : ℕ) (r : Bool) → T (ltb i j || eqb i j && r) → By i j (T r)
by_test i j r t = go (ltb i j) (eqb i j) (ltb→lt i j) (eqb→eq i j) t
  where
    go : (l e : Bool) → (T l → i < j) → (T e → i ≡ j) → T (l || e && r) → By i j (T r)
    go true e f g s = inl (f tt)
    go false true f g s = inr (g tt, s)
    go false false f g s = absurd s

by_not : (i j : ℕ) (r : Bool) → T (not (ltb i j || eqb i j && r)) → By j i (T (not r))
by_not i j r t = go (ltb i j) (eqb i j) (nltb→le i j) (λ e. subst (λ (n : ℕ). T (eqb i n)) e (eqb_refl i)) (eqb→eq i j) t
  where
    go : (l e : Bool) → (T (not l) → j ≤ i) → (i ≡ j → T e) → (T e → i ≡ j) → T (not (l || e && r)) → By j i (T (not r))
    go true e f g h s = absurd s
    go false true f g h s = inr (omega (arith, h tt), s)
    go false false f g h s = inl (omega (arith, f tt, g))

-- ---- boxes
pub before_trans : {a b c : Box} → Before a b → Before b c → Before a c
before_trans = by_trans (by_trans (λ g h. omega arith))

-- no two boxes stand before each other, and none before itself
not_both : {a b : Box} → Before a b → Before b a → ⊥
not_both = by_not_both (by_not_both (λ g h. omega arith))

pub before_itself : (b : Box) → Before b b → ⊥
before_itself b w = not_both w w

-- and t does not fall
pub before_t : (a b : Box) → Before a b → a.t ≤ b.t
before_t a b (inl h) = le_of_lt h
before_t a b (inr w) = omega (arith, w.0)

-- two boxes that are not the same
abbrev pub Apart : Box → Box → Type 0
Apart a b = a.t ≡ b.t → a.u ≡ b.u → a.v ≡ b.v → ⊥

-- "ascending order" as the search tests it
pub not_after_before : (a b : Box) → Apart a b → T (not_after a b) → Before a b
unfolding not_after
not_after_before a b apart t = at_t (by_test a.t b.t _ t)
  where
    at_v : a.t ≡ b.t → a.u ≡ b.u → a.v ≤ b.v → a.v < b.v
    at_v e f h = omega (arith, apart e f)

    at_u : a.t ≡ b.t → By a.u b.u (T (leb a.v b.v)) → By a.u b.u (a.v < b.v)
    at_u e (inl h) = inl h
    at_u e (inr w) = inr (w.0, at_v e w.0 (leb→le _ _ w.1))

    at_t : By a.t b.t (T (ltb a.u b.u || eqb a.u b.u && leb a.v b.v)) → Before a b
    at_t (inl h) = inl h
    at_t (inr w) = inr (w.0, at_u w.0 (by_test a.u b.u _ w.1))

pub after_before : (a b : Box) → T (not (not_after a b)) → Before b a
unfolding not_after
after_before a b t = by_map (λ s. by_map (nleb→lt a.v b.v) (by_not a.u b.u _ s)) (by_not a.t b.t _ t)

before_not_after : (a b : Box) → Before a b → T (not (not_after b a))
unfolding not_after
before_not_after a b w = not_T (not_after b a) (λ t. by_not_both in_u w (by_test b.t a.t _ t))
  where
    in_v : a.v < b.v → T (leb b.v a.v) → ⊥
    in_v h l = omega (arith, leb→le b.v a.v l)

    in_u : By a.u b.u (a.v < b.v) → T (ltb b.u a.u || eqb b.u a.u && leb b.v a.v) → ⊥
    in_u x s = by_not_both in_v x (by_test b.u a.u _ s)

pub same_test : SameTest
same_test a b = (before_not_after a b, after_before b a)

-- a parameter's index changed by what keeps the order of numbers
pub on_up : (p : Parameter) (f : ℕ → ℕ) → ((a b : ℕ) → a < b → f a < f b) → (a b : Box) → Before a b → Before (on p f a) (on p f b)
on_up InT f up a b w = by_on f up (λ x. x) w
on_up InU f up a b w = by_map (by_on f up (λ x. x)) w
on_up InV f up a b w = by_map (by_map (up a.v b.v)) w
