-- What triangles one behind the other reach together, and the bound of a block.
--     reach_first, reach_more   one triangle, and one more
--     inside_block              each of a block's triangles reaches no further than the block's bound
--     picked_more, picked_all   the least and the greatest, triangle after triangle
-- Assumes nothing.
use Rattle.std.specs.Prelude.{◌≡◌, refl, List, ◌⊎◌, ℤ, pos, length, get_or, ◌≤ℤ◌}
use Rattle.std.proofs.Common.{sym, subst, ◌∙◌, arith, eq-or-lt_of_le, inl}
use Rattle.std.proofs.Math.Path.{ap, ap₂}
use Prim.Native.Nat.{ℕ, zero, suc, ◌+◌, ◌-◌, ◌*◌, ◌≤◌, ◌<◌, min}
use Rattle.std.proofs.Math.Logic.{inr}
use Rattle.whole.specs.Within.{Within}
use Rattle.std.specs.Int.Signed.{≤ℤ_refl}
use Rattle.whole.specs.Defs.{min_z, max_z}
use Rattle.whole.specs.Order.{≤ℤ_trans, min_both, max_both, min_le, le_max}
use Rattle.whole.specs.View.{zed}
use Rattle.rules.specs.declared.Axis.{Axis}
use Rattle.rules.specs.Gap.{place}
use Rattle.rules.specs.Search.{lesser, greater}
use Rattle.rules.specs.Bounds.{over_triangle, over_triangles, first_of, size_of}
use Rattle.gap.specs.declared.span.Span.{Span}
use Rattle.gap.specs.Corners.{joined}
use Rattle.bounds.specs.declared.block.Ends.{Ends}
use Rattle.bounds.specs.Reach.{reach_at, reach_over}

-- triangle i and the n behind it, on an axis
abbrev pub reach_from : List ℤ → List ℤ → Axis → ℕ → ℕ → Span
reach_from s e axis i n = record { least = over_triangles lesser s e axis i n; greatest = over_triangles greater s e axis i n }

module _ (s e : List ℤ) (axis : Axis) where
  pub reach_first : (i : ℕ) → reach_at s e (9 * i + place axis) ≡ reach_from s e axis i 0
  unfolding over_triangles
  reach_first i = reach_over s e axis i

  pub reach_more : (i n : ℕ) → joined (reach_from s e axis i n) (reach_at s e (9 * (i + suc n) + place axis)) ≡ reach_from s e axis i (suc n)
  unfolding over_triangles min_z max_z
  reach_more i n = ap (joined (reach_from s e axis i n)) (reach_over s e axis (i + suc n))

-- one reaches no further than the other
pub record Inside (P Q : Span) : Type 0 where
  pub above : Q.least ≤ℤ P.least
  pub below : P.greatest ≤ℤ Q.greatest

inside_refl : {P Q : Span} → P ≡ Q → Inside P Q
inside_refl {P} e = subst (Inside P) e (record { above = ≤ℤ_refl P.least; below = ≤ℤ_refl P.greatest })

inside_trans : {P Q R : Span} → Inside P Q → Inside Q R → Inside P R
inside_trans f g = record { above = ≤ℤ_trans g.above f.above; below = ≤ℤ_trans f.below g.below }

inside_first : (P Q : Span) → Inside P (joined P Q)
inside_first P Q = record { above = (min_le P.least Q.least).0; below = (le_max P.greatest Q.greatest).0 }

inside_second : (P Q : Span) → Inside Q (joined P Q)
inside_second P Q = record { above = (min_le P.least Q.least).1; below = (le_max P.greatest Q.greatest).1 }

module _ (s e : List ℤ) (axis : Axis) (i : ℕ) where
  one_more : (n : ℕ) {P : Span} → Inside P (joined (reach_from s e axis i n) (reach_at s e (9 * (i + suc n) + place axis))) → Inside P (reach_from s e axis i (suc n))
  one_more n {P} h = subst (Inside P) (reach_more s e axis i n) h

  inside_from : (n k : ℕ) → k ≤ n → Inside (reach_at s e (9 * (i + k) + place axis)) (reach_from s e axis i n)
  inside_from zero k l =
      let e' : i + k ≡ i = omega arith in
      inside_refl (ap (λ (j : ℕ). reach_at s e (9 * j + place axis)) e' ∙ reach_first s e axis i)
  inside_from (suc n) k l = by_last (λ h. inside_from n k h) (eq-or-lt_of_le l)
    where
      by_last : (k ≤ n → Inside (reach_at s e (9 * (i + k) + place axis)) (reach_from s e axis i n)) → (k ≡ suc n) ⊎ (k < suc n)
          → Inside (reach_at s e (9 * (i + k) + place axis)) (reach_from s e axis i (suc n))
      by_last before (inl h) =
          one_more n (subst (λ (j : ℕ). Inside (reach_at s e (9 * (i + j) + place axis)) (joined (reach_from s e axis i n) (reach_at s e (9 * (i + suc n) + place axis)))) (sym h) (inside_second (reach_from s e axis i n) _))
      by_last before (inr h) = one_more n (inside_trans (before (omega arith)) (inside_first (reach_from s e axis i n) _))

-- ---- the bound of a block

abbrev pub reach_of_block : ℕ → List ℤ → List ℤ → ℕ → Axis → Span
reach_of_block count s e block axis = reach_from s e axis (first_of block) (size_of count block - 1)

-- triangle x is one of a block's
pub record InBlock (count block x : ℕ) : Type 0 where
  pub from : 32 * block ≤ x
  pub until : x < 32 * block + 32
  pub there : x < count

pub inside_block : (count : ℕ) (s e : List ℤ) (block x : ℕ) (axis : Axis) → InBlock count block x → Inside (reach_at s e (9 * x + place axis)) (reach_of_block count s e block axis)
inside_block count s e block x axis h =
    let k = x - 32 * block in
    let at : 32 * block + k ≡ x = omega (arith, h.from) in
    let l : k ≤ min 32 (count - 32 * block) - 1 = omega (arith, h.from, h.until, h.there) in
    subst (λ (y : ℕ). Inside (reach_at s e (9 * y + place axis)) (reach_of_block count s e block axis)) at (inside_from s e axis (32 * block) (size_of count block - 1) k l)

-- ---- what the parts ask and promise

-- within the limit of every edition
abbrev pub Small : ℤ → Type 0
Small z = Within 536870912 z

-- a triangle's coordinates on an axis, at one moment
pub record FaceIn (s : List ℤ) (at : ℕ) : Type 0 where
  pub there : at + 7 ≤ length s
  pub first : Small (get_or s at (pos 0))
  pub second : Small (get_or s (at + 3) (pos 0))
  pub third : Small (get_or s (at + 6) (pos 0))

-- the coordinates from one place to another
abbrev pub SmallFrom : List ℤ → ℕ → ℕ → Type 0
SmallFrom l a b = (p : ℕ) → a ≤ p → p < b → Small (get_or l p (pos 0))

-- triangles from one on, before another
pub record BlockIn (s e : List ℤ) (axis first until : ℕ) : Type 0 where
  pub is_axis : axis < 3
  pub some : first < until
  pub few : until ≤ 256
  pub start_there : 9 * until ≤ length s
  pub end_there : 9 * until ≤ length e
  pub start : SmallFrom s (9 * first) (9 * until)
  pub end : SmallFrom e (9 * first) (9 * until)

pub record EndsAre (s e : List ℤ) (p first end : ℕ) (r : Ends) : Type 0 where
  pub least : (axis : Axis) → place axis ≡ p → r.least ≡ over_triangles lesser s e axis first (end - (first + 1))
  pub greatest : (axis : Axis) → place axis ≡ p → r.greatest ≡ over_triangles greater s e axis first (end - (first + 1))

-- a body's positions hold a block
pub record HasBlock (count : ℕ) (s e : List ℤ) (block : ℕ) : Type 0 where
  pub there : 32 * block < count
  pub few : count ≤ 256
  pub start_there : 9 * count ≤ length s
  pub end_there : 9 * count ≤ length e
  pub start : SmallFrom s (9 * first_of block) (9 * (first_of block + size_of count block))
  pub end : SmallFrom e (9 * first_of block) (9 * (first_of block + size_of count block))

-- ---- triangle after triangle, from a coordinate of the first on

-- what was picked before triangle i
abbrev pub Picked : (ℤ → ℤ → ℤ) → List ℤ → List ℤ → Axis → ℕ → ℕ → ℤ → Type 0
Picked pick s e axis first i z =
    ((i ≡ first) × (z ≡ get_or s (9 * first + place axis) (pos 0))) ⊎ ((first < i) × (z ≡ over_triangles pick s e axis first (i - (first + 1))))

module _ (pick : ℤ → ℤ → ℤ) (absorbs : (v1 v2 v3 v4 f : ℤ) → pick v1 (pick (pick (pick v1 v2) (pick v3 v4)) f) ≡ pick (pick (pick v1 v2) (pick v3 v4)) f) (s e : List ℤ) (axis : Axis) (first : ℕ) where
  pub picked_more : (i : ℕ) (z : ℤ) → Picked pick s e axis first i z → Picked pick s e axis first (i + 1) (pick z (over_triangle pick s e axis i))
  unfolding over_triangles
  picked_more i z (inl h) =
      let none : 0 ≡ i + 1 - (first + 1) = omega (arith, h.0) in
      inr (
        omega (arith, h.0),
        ap₂ pick h.1 (ap (over_triangle pick s e axis) h.0) ∙ absorbs _ _ _ _ _ ∙ ap (over_triangles pick s e axis first) none,
      )
  picked_more i z (inr h) =
      let n = i - (first + 1) in
      let at : i ≡ first + suc n = omega (arith, h.0) in
      let more : suc n ≡ i + 1 - (first + 1) = omega (arith, h.0) in
      inr (omega (arith, h.0), ap₂ pick h.1 (ap (over_triangle pick s e axis) at) ∙ ap (over_triangles pick s e axis first) more)

  pub picked_all : (end : ℕ) (z : ℤ) → first < end → Picked pick s e axis first end z → z ≡ over_triangles pick s e axis first (end - (first + 1))
  picked_all end z l (inl h) = absurd (omega (arith, h.0))
  picked_all end z l (inr h) = h.1

min_takes : (x y : ℤ) → y ≤ℤ x → min_z x y ≡ y
min_takes x y h = min_both (λ (z : ℤ). z ≡ y) x y (λ l. omega zed) (λ l. refl)

max_takes : (x y : ℤ) → x ≤ℤ y → max_z x y ≡ y
max_takes x y h = max_both (λ (z : ℤ). z ≡ y) x y (λ l. refl) (λ l. omega zed)

pub least_absorbs : (v1 v2 v3 v4 f : ℤ) → min_z v1 (min_z (min_z (min_z v1 v2) (min_z v3 v4)) f) ≡ min_z (min_z (min_z v1 v2) (min_z v3 v4)) f
least_absorbs v1 v2 v3 v4 f = min_takes v1 _ (≤ℤ_trans (min_le (min_z (min_z v1 v2) (min_z v3 v4)) f).0 (≤ℤ_trans (min_le (min_z v1 v2) (min_z v3 v4)).0 (min_le v1 v2).0))

pub greatest_absorbs : (v1 v2 v3 v4 f : ℤ) → max_z v1 (max_z (max_z (max_z v1 v2) (max_z v3 v4)) f) ≡ max_z (max_z (max_z v1 v2) (max_z v3 v4)) f
greatest_absorbs v1 v2 v3 v4 f = max_takes v1 _ (≤ℤ_trans (le_max v1 v2).0 (≤ℤ_trans (le_max (max_z v1 v2) (max_z v3 v4)).0 (le_max (max_z (max_z v1 v2) (max_z v3 v4)) f).0))
