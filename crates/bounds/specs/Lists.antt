-- A list of bounds, six numbers a block.
--     same_refl, same_sound, same_no   `are_same` is equality
--     length_bounds, six_bounds        how long a body's list is, and where a block's bound stands in it
--     take_six                         one block more of a list
-- Assumes nothing.
use Rattle.std.specs.Prelude.{◌≡◌, refl, Bool, true, false, ◌&&◌, ◌⊎◌, ℤ, pos, length, get_or, set, drop}
use Rattle.std.proofs.Common.{sym, subst, ◌∙◌, inl, inr, eq-or-lt_of_le, length-append, take_all, drop-cons, take-add, get_or-append-add}
use Rattle.std.proofs.Math.Path.{ap, ap₂}
use Rattle.std.proofs.Math.Bool.{and-eq-true_iff}
use mathlib.Core.List.{List, [], ◌∷◌, ◌++◌}
use Prim.Native.Nat.{ℕ, zero, suc, ◌+◌, ◌*◌, ◌≤◌, ◌<◌}
use native.Mathlib.Omega.{arith}
use Rattle.std.specs.Int.Signed.{le_z, ≤ℤ_refl}
use Rattle.std.proofs.Math.ListN.{take, get_or-append}
use Rattle.std.proofs.lemmas.List.{set_comm}
use Rattle.std.proofs.lemmas.List.Edits.{sets-eq}
use Rattle.rules.specs.QueryFile.{put}
use Rattle.whole.specs.View.{zed}
use Rattle.whole.specs.Order.{le_z_true, le_le_z}
use Rattle.rules.specs.declared.Axis.{Axis}
use Rattle.rules.specs.declared.Axis.TheVariants.{X, Y, Z}
use Rattle.rules.specs.Gap.{place}
use Rattle.rules.specs.Bodies.{Body}
use Rattle.rules.specs.Bounds.{blocks, bound, bounds_to, is_same, are_same}
use Rattle.gap.specs.declared.span.Span.{Span}
use Rattle.gap.specs.Cube.{cube_most}
use Rattle.gap.specs.Steps.{SmallSpan}
use Rattle.bounds.specs.declared.block.Bound.{Bound}
use Rattle.bounds.specs.declared.block.Ends.{Ends}
use Rattle.bounds.specs.declared.reach.Reach.{Reach}
use Rattle.bounds.specs.Reach.{on_reach, WideReach}
use Rattle.bounds.specs.Block.{reach_of_block}

-- ---- the same numbers

pub false_not_true : false ≡ true → ⊥
false_not_true e = let o : ◌≡◌ {A = ℕ} 0 1 = cc in absurd (omega arith)

same_one : (m n : ℤ) → is_same m n ≡ true → m ≡ n
same_one m n e =
    let h = (and-eq-true_iff (le_z m n) (le_z n m)).0 e in
    let f = le_z_true m n h.0 in
    let g = le_z_true n m h.1 in
    omega zed

pub same_refl : (xs : List ℤ) → are_same xs xs ≡ true
unfolding are_same
same_refl [] = refl
same_refl (x ∷ xs) = let h = le_le_z x x (≤ℤ_refl x) in ap₂ ◌&&◌ (ap₂ ◌&&◌ h h) (same_refl xs)

pub same_sound : (xs ys : List ℤ) → are_same xs ys ≡ true → xs ≡ ys
unfolding are_same
same_sound [] [] e = refl
same_sound [] (y ∷ ys) e = absurd (false_not_true e)
same_sound (x ∷ xs) [] e = absurd (false_not_true e)
same_sound (x ∷ xs) (y ∷ ys) e = let h = (and-eq-true_iff (is_same x y) (are_same xs ys)).0 e in ap₂ ◌∷◌ (same_one x y h.0) (same_sound xs ys h.1)

pub same_no : (xs ys : List ℤ) → (xs ≡ ys → ⊥) → are_same xs ys ≡ false
same_no xs ys f = by (are_same xs ys) refl
  where
    by : (b : Bool) → are_same xs ys ≡ b → are_same xs ys ≡ false
    by true e = absurd (f (same_sound xs ys e))
    by false e = e

-- ---- six numbers of a list

abbrev pub six : List ℤ → ℕ → List ℤ
six l at =
    get_or l at (pos 0)
    ∷ get_or l (at + 1) (pos 0)
    ∷ get_or l (at + 2) (pos 0)
    ∷ get_or l (at + 3) (pos 0)
    ∷ get_or l (at + 4) (pos 0)
    ∷ get_or l (at + 5) (pos 0)
    ∷ []

drop_next : (l : List ℤ) (at k : ℕ) → at + k < length l → drop (at + k) l ≡ get_or l (at + k) (pos 0) ∷ drop (at + suc k) l
drop_next l at k h = let e : suc (at + k) ≡ at + suc k = omega arith in drop-cons l (at + k) (pos 0) h ∙ ap (λ (n : ℕ). get_or l (at + k) (pos 0) ∷ drop n l) e

pub take_six : (l : List ℤ) (at : ℕ) → at + 6 ≤ length l → take (at + 6) l ≡ take at l ++ six l at
take_six l at h =
    let z : at ≡ at + 0 = omega arith in
    take-add at 6 l
    ∙ ap (λ (r : List ℤ). take at l ++ take 6 r)
    (drop-cons l at (pos 0) (omega arith)
    ∙ ap (λ (r : List ℤ). get_or l at (pos 0) ∷ r)
    ((let e : suc at ≡ at + 1 = omega arith in ap (λ (n : ℕ). drop n l) e)
    ∙ drop_next l at 1 (omega arith)
    ∙ ap (λ (r : List ℤ). get_or l (at + 1) (pos 0) ∷ r)
    (drop_next l at 2 (omega arith)
    ∙ ap (λ (r : List ℤ). get_or l (at + 2) (pos 0) ∷ r)
    (drop_next l at 3 (omega arith) ∙ ap (λ (r : List ℤ). get_or l (at + 3) (pos 0) ∷ r) (drop_next l at 4 (omega arith) ∙ ap (λ (r : List ℤ). get_or l (at + 4) (pos 0) ∷ r) (drop_next l at 5 (omega arith)))))))

-- ---- a body's list

pub length_bounds : (m : Body) (n : ℕ) → length (bounds_to m n) ≡ 6 * n
unfolding bounds_to
length_bounds m zero = refl
length_bounds m (suc n) = length-append (bounds_to m n) (bound m n) ∙ (let h = length_bounds m n in omega arith)

pub six_bounds : (m : Body) (n k : ℕ) → k < n → six (bounds_to m n) (6 * k) ≡ bound m k
unfolding bounds_to
six_bounds m zero k l = absurd (omega arith)
six_bounds m (suc n) k l = by (λ h. six_bounds m n k h) (eq-or-lt_of_le (lt_suc l))
  where
    lt_suc : k < suc n → k ≤ n
    lt_suc h = omega arith

    len : length (bounds_to m n) ≡ 6 * n
    len = length_bounds m n

    before : (p : ℕ) → p < 6 * n → get_or (bounds_to m n ++ bound m n) p (pos 0) ≡ get_or (bounds_to m n) p (pos 0)
    before p h = get_or-append (bounds_to m n) (bound m n) (pos 0) p (omega (arith, len))

    behind : (p q : ℕ) → q ≡ 6 * n + p → get_or (bounds_to m n ++ bound m n) q (pos 0) ≡ get_or (bound m n) p (pos 0)
    behind p q e = ap (λ (x : ℕ). get_or (bounds_to m n ++ bound m n) x (pos 0)) (e ∙ ap (λ (x : ℕ). x + p) (sym len)) ∙ get_or-append-add (bounds_to m n) (bound m n) p (pos 0)

    by : (k < n → six (bounds_to m n) (6 * k) ≡ bound m k) → (k ≡ n) ⊎ (k < n) → six (bounds_to m n ++ bound m n) (6 * k) ≡ bound m k
    by earlier (inl e) =
        (λ i. behind 0 (6 * k) (omega arith) i ∷ behind 1 (6 * k + 1) (omega arith) i ∷ behind 2 (6 * k + 2) (omega arith) i ∷ behind 3 (6 * k + 3) (omega arith) i ∷ behind 4 (6 * k + 4) (omega arith) i ∷ behind 5 (6 * k + 5) (omega arith) i ∷ [])
        ∙ ap (bound m) (sym e)
    by earlier (inr h) =
        (λ i. before (6 * k) (omega arith) i ∷ before (6 * k + 1) (omega arith) i ∷ before (6 * k + 2) (omega arith) i ∷ before (6 * k + 3) (omega arith) i ∷ before (6 * k + 4) (omega arith) i ∷ before (6 * k + 5) (omega arith) i ∷ [])
        ∙ earlier h

-- ---- a bound as spans

abbrev pub lent_span : List ℤ → ℕ → Span
lent_span l at = record { least = get_or l at (pos 0); greatest = get_or l (at + 3) (pos 0) }

pub record LentSpan (l : List ℤ) (at : ℕ) (s : Span) : Type 0 where
  pub is : s ≡ lent_span l at
  pub wide : SmallSpan cube_most s

pub record BoundIs (bounds : List ℤ) (block : ℕ) (r : Reach) : Type 0 where
  pub is : (axis : Axis) → on_reach r axis ≡ lent_span bounds (6 * block + place axis)
  pub wide : WideReach r

pub bound_is : {bounds : List ℤ} {block : ℕ} {r : Reach} → LentSpan bounds (6 * block) r.x → LentSpan bounds (6 * block + 1) r.y → LentSpan bounds (6 * block + 2) r.z → BoundIs bounds block r
bound_is {bounds} {block} {r} x y z = record { is = each; wide = record { x = x.wide; y = y.wide; z = z.wide } }
  where
    each : (axis : Axis) → on_reach r axis ≡ lent_span bounds (6 * block + place axis)
    each X = let e : 6 * block ≡ 6 * block + 0 = omega arith in x.is ∙ ap (lent_span bounds) e
    each Y = y.is
    each Z = z.is

-- in a body's own list it is what the block's triangles reach
pub bound_reaches : (m : Body) (n block : ℕ) (axis : Axis) → block < n → lent_span (bounds_to m n) (6 * block + place axis) ≡ reach_of_block m.count m.start m.end block axis
bound_reaches m n block axis l = by axis
  where
    same : six (bounds_to m n) (6 * block) ≡ bound m block
    same = six_bounds m n block l

    -- number p of the six, at a place
    number : (p q : ℕ) → get_or (bounds_to m n) q (pos 0) ≡ get_or (six (bounds_to m n) (6 * block)) p (pos 0) → get_or (bounds_to m n) q (pos 0) ≡ get_or (bound m block) p (pos 0)
    number p q e = e ∙ ap (λ (l : List ℤ). get_or l p (pos 0)) same

    at : (q p : ℕ) → q ≡ p → get_or (bounds_to m n) q (pos 0) ≡ get_or (bounds_to m n) p (pos 0)
    at q p e = ap (λ (x : ℕ). get_or (bounds_to m n) x (pos 0)) e

    by : (axis : Axis) → lent_span (bounds_to m n) (6 * block + place axis) ≡ reach_of_block m.count m.start m.end block axis
    by X = λ i. record { least = number 0 (6 * block + 0) (at _ (6 * block) (omega arith)) i; greatest = number 3 (6 * block + 0 + 3) (at _ (6 * block + 3) (omega arith)) i }
    by Y = λ i. record { least = number 1 (6 * block + 1) refl i; greatest = number 4 (6 * block + 1 + 3) (at _ (6 * block + 4) (omega arith)) i }
    by Z = λ i. record { least = number 2 (6 * block + 2) refl i; greatest = number 5 (6 * block + 2 + 3) (at _ (6 * block + 5) (omega arith)) i }

-- ---- as numbers

abbrev pub six_of : Bound → List ℤ
six_of r = r.x.least ∷ r.y.least ∷ r.z.least ∷ r.x.greatest ∷ r.y.greatest ∷ r.z.greatest ∷ []

-- put into a list axis by axis they are one run
abbrev pub set_span : List ℤ → ℕ → Ends → List ℤ
set_span l at s = set (set l at s.least) (at + 3) s.greatest

pub put_six : (l : List ℤ) (at : ℕ) (r : Bound) → at + 6 ≤ length l → set_span (set_span (set_span l at r.x) (at + 1) r.y) (at + 2) r.z ≡ put l at (six_of r)
unfolding put
put_six l at r h =
    let e1 : at + 1 ≡ suc at = omega arith in
    let e2 : at + 2 ≡ suc (suc at) = omega arith in
    let e3 : at + 3 ≡ suc (suc (suc at)) = omega arith in
    let e4 : at + 1 + 3 ≡ suc (suc (suc (suc at))) = omega arith in
    let e5 : at + 2 + 3 ≡ suc (suc (suc (suc (suc at)))) = omega arith in
    let s31 = set_comm (set l at r.x.least) (suc (suc (suc at))) (suc at) r.x.greatest r.y.least (λ e. omega arith) in
    let l1 = set (set l at r.x.least) (suc at) r.y.least in
    let s42 = set_comm (set l1 (suc (suc (suc at))) r.x.greatest) (suc (suc (suc (suc at)))) (suc (suc at)) r.y.greatest r.z.least (λ e. omega arith) in
    let s32 = set_comm l1 (suc (suc (suc at))) (suc (suc at)) r.x.greatest r.z.least (λ e. omega arith) in
    rw (e5, e4, e3, e2, e1)
    (ap (λ (m : List ℤ). set (set (set m (suc (suc (suc (suc at)))) r.y.greatest) (suc (suc at)) r.z.least) (suc (suc (suc (suc (suc at))))) r.z.greatest) s31
    ∙ ap (λ (m : List ℤ). set m (suc (suc (suc (suc (suc at))))) r.z.greatest) s42
    ∙ ap (λ (m : List ℤ). set (set m (suc (suc (suc (suc at)))) r.y.greatest) (suc (suc (suc (suc (suc at))))) r.z.greatest) s32
    ∙ sets-eq (six_of r) l at h)

-- whether they stand in a list, axis by axis
abbrev pub is_span : List ℤ → ℕ → Ends → Bool
is_span l at s = is_same (get_or l at (pos 0)) s.least && is_same (get_or l (at + 3) (pos 0)) s.greatest

abbrev pub are_spans : List ℤ → ℕ → Bound → Bool
are_spans l at r = is_span l at r.x && is_span l (at + 1) r.y && is_span l (at + 2) r.z

module _ (l : List ℤ) (at : ℕ) (r : Bound) where
  pub spans_yes : are_spans l at r ≡ true → six l at ≡ six_of r
  spans_yes e =
      let xyz = (and-eq-true_iff (is_span l at r.x && is_span l (at + 1) r.y) (is_span l (at + 2) r.z)).0 e in
      let xy = (and-eq-true_iff (is_span l at r.x) (is_span l (at + 1) r.y)).0 xyz.0 in
      let x = one at r.x xy.0 in
      let y = one (at + 1) r.y xy.1 in
      let z = one (at + 2) r.z xyz.1 in
      let py : at + 4 ≡ at + 1 + 3 = omega arith in
      let pz : at + 5 ≡ at + 2 + 3 = omega arith in
      λ i. x.0 i ∷ y.0 i ∷ z.0 i ∷ x.1 i ∷ (ap (λ (p : ℕ). get_or l p (pos 0)) py ∙ y.1) i ∷ (ap (λ (p : ℕ). get_or l p (pos 0)) pz ∙ z.1) i ∷ []
    where
      one : (p : ℕ) (s : Ends) → is_span l p s ≡ true → (get_or l p (pos 0) ≡ s.least) × (get_or l (p + 3) (pos 0) ≡ s.greatest)
      one p s e =
          let h = (and-eq-true_iff (is_same (get_or l p (pos 0)) s.least) (is_same (get_or l (p + 3) (pos 0)) s.greatest)).0 e in
          (same_one _ _ h.0, same_one _ _ h.1)

  pub spans_no : are_spans l at r ≡ false → six l at ≡ six_of r → ⊥
  spans_no e f = false_not_true (sym e ∙ ap₂ ◌&&◌ (ap₂ ◌&&◌ (one at r.x (n 0) (n 3)) (one (at + 1) r.y (n 1) (ap (λ (p : ℕ). get_or l p (pos 0)) py ∙ n 4))) (one (at + 2) r.z (n 2) (ap (λ (p : ℕ). get_or l p (pos 0)) pz ∙ n 5)))
    where
      n : (p : ℕ) → get_or (six l at) p (pos 0) ≡ get_or (six_of r) p (pos 0)
      n p = ap (λ (m : List ℤ). get_or m p (pos 0)) f

      py : at + 1 + 3 ≡ at + 4
      py = omega arith

      pz : at + 2 + 3 ≡ at + 5
      pz = omega arith

      equal : {x y : ℤ} → x ≡ y → is_same x y ≡ true
      equal {x} {y} e = subst (λ (z : ℤ). is_same x z ≡ true) e (let h = le_le_z x x (≤ℤ_refl x) in ap₂ ◌&&◌ h h)

      one : (p : ℕ) (s : Ends) → get_or l p (pos 0) ≡ s.least → get_or l (p + 3) (pos 0) ≡ s.greatest → is_span l p s ≡ true
      one p s e g = ap₂ ◌&&◌ (equal e) (equal g)

-- ---- block after block

-- how many blocks there are
pub block_before : (count block : ℕ) → 32 * block < count → block < blocks count
block_before count block h = omega arith

pub block_last : (count block : ℕ) → count ≤ 32 * block → block ≤ blocks count → block ≡ blocks count
block_last count block h l = omega arith

module _ (m : Body) (l : List ℤ) (block : ℕ) where
  -- one more that is as it should be
  pub same_more : 6 * block + 6 ≤ length l → take (6 * block) l ≡ bounds_to m block → six l (6 * block) ≡ bound m block → take (6 * (block + 1)) l ≡ bounds_to m (block + 1)
  unfolding bounds_to
  same_more h e f =
      let at : 6 * (block + 1) ≡ 6 * block + 6 = omega arith in
      let next : suc block ≡ block + 1 = omega arith in
      ap (λ (n : ℕ). take n l) at ∙ take_six l (6 * block) h ∙ ap₂ ◌++◌ e f ∙ ap (bounds_to m) next

  -- one that is not
  pub same_not : (n : ℕ) → block < n → (six l (6 * block) ≡ bound m block → ⊥) → are_same l (bounds_to m n) ≡ false
  same_not n h f = same_no l (bounds_to m n) (λ e. f (ap (λ (x : List ℤ). six x (6 * block)) e ∙ six_bounds m n block h))

-- all are
pub same_all : (m : Body) (l : List ℤ) (n : ℕ) → length l ≡ 6 * n → take (6 * n) l ≡ bounds_to m n → are_same l (bounds_to m n) ≡ true
same_all m l n e f = let all : take (6 * n) l ≡ l = take_all (6 * n) l (omega (arith, e)) in ap (λ (x : List ℤ). are_same x (bounds_to m n)) (sym all ∙ f) ∙ same_refl (bounds_to m n)

-- a list of another length is not a body's
pub same_long : (m : Body) (l : List ℤ) (n : ℕ) → (length l ≡ 6 * n → ⊥) → are_same l (bounds_to m n) ≡ false
same_long m l n f = same_no l (bounds_to m n) (λ e. f (ap length e ∙ length_bounds m n))
