-- "The bounds stay true when one triangle is replaced, and only that block is worked out again." (document 02, R-9)
--     replaceable      what is known where a replacing is not refused
--     replaced_known   a body stays one
--     stays_exact      bounds that were what the body's triangles give are what they give with the triangle replaced
--     others_stay      no other block's numbers change, whatever they were
--     replace_kept     so it is of what `replace` leaves, by its contract alone
-- Assumes nothing.
use Rattle.std.specs.Prelude.{◌≡◌, Bool, true, false, not, cond, ◌&&◌, ◌⊎◌, ℤ, pos, ◌+ℤ◌, ◌-ℤ◌, ltb, eqb, length, get_or, take, drop}
use Rattle.std.proofs.Math.Path.{refl, ap₂}
use Rattle.std.proofs.Common.{sym, ap, ◌∙◌, inl, inr, eq-or-lt_of_le, ltb-true, ltb-false, eqb-true, length-append, length-drop, drop_of_length-le, length-take-le, take_at}
use Rattle.std.proofs.Math.Bool.{and-eq-true_iff}
use mathlib.Core.List.{List, [], ◌∷◌, ◌++◌, append_assoc, append-nil}
use Prim.Native.Nat.{ℕ, zero, suc, ◌+◌, ◌-◌, ◌*◌, ◌≤◌, ◌<◌, min}
use native.Mathlib.Omega.{arith}
use Rattle.std.proofs.lemmas.List.{take-append-le, drop-append-le}
use Rattle.little.specs.Put.{length_put, put_below, put_above}
use Rattle.rules.specs.declared.Axis.{Axis}
use Rattle.rules.specs.declared.Axis.TheVariants.{X, Y, Z}
use Rattle.rules.specs.Gap.{place}
use Rattle.rules.specs.Search.{lesser, greater}
use Rattle.rules.specs.QueryFile.{no_edition, put, put_unless}
use Rattle.rules.specs.Refusals.{first, or_else}
use Rattle.rules.specs.Bodies.{Body, is_body}
use Rattle.rules.specs.Bounds.{over_face, over_triangle, over_triangles, blocks, size_of, bound, bounds_to, bounds_of, block_of, replaced, mended, are_in_block, replace_refusal}
use Rattle.bounds.specs.Lists.{length_bounds}
use Rattle.bounds.specs.Keeping.{Known, known, exchange_refusal, Replaces}

-- ---- what is not refused

pub record Replaceable (edition : ℕ) (m : Body) (bounds : List ℤ) (n : ℕ) (corners : List ℤ) : Type 0 where
  pub is_body : Known m
  pub given : length corners ≡ 18
  pub there : n < m.count
  pub right : are_in_block edition (replaced m n corners) (block_of n) ≡ true
  pub room : length bounds ≡ 6 * blocks m.count

none_due : (g t r l : Bool) → ◌≡◌ {A = ℕ} (cond (not g) 21 (cond (not t) 13 (cond (not r) 3 (cond (not l) 27 0)))) 0 → (g ≡ true) × ((t ≡ true) × ((r ≡ true) × (l ≡ true)))
none_due false t r l e = absurd (omega arith)
none_due true false r l e = absurd (omega arith)
none_due true true false l e = absurd (omega arith)
none_due true true true false e = absurd (omega arith)
none_due true true true true e = (refl, (refl, (refl, refl)))

pub replaceable : (edition : ℕ) (m : Body) (bounds : List ℤ) (n : ℕ) (corners : List ℤ) → replace_refusal edition m bounds n corners ≡ 0 → Replaceable edition m bounds n corners
unfolding replace_refusal first
replaceable edition m bounds n corners e =
    let h = none_due (is_body m && eqb (length corners) 18) (ltb n m.count) (are_in_block edition (replaced m n corners) (block_of n)) (eqb (length bounds) (6 * blocks m.count)) e in
    let g = (and-eq-true_iff (is_body m) (eqb (length corners) 18)).0 h.0 in
    record {
      is_body = known m g.0;
      given = eqb-true (length corners) 18 g.1;
      there = ltb-true n m.count h.1.0;
      right = h.1.1.0;
      room = eqb-true (length bounds) (6 * blocks m.count) h.1.1.1;
    }

-- the body with the triangle replaced is one too
pub replaced_known : (m : Body) (n : ℕ) (corners : List ℤ) → Known m → length corners ≡ 18 → n < m.count → Known (replaced m n corners)
replaced_known m n corners k given there =
    let nine = length-take-le 9 corners (omega (arith, given)) in
    let nine' = length-drop 9 corners in
    record {
      some = k.some;
      few = k.few;
      start = length_put m.start (9 * n) (take 9 corners) (omega (arith, nine, there, k.start)) ∙ k.start;
      end = length_put m.end (9 * n) (drop 9 corners) (omega (arith, nine', given, there, k.end)) ∙ k.end;
    }

-- ---- the other triangles

below_three : (axis : Axis) → place axis < 3
below_three X = omega arith
below_three Y = omega arith
below_three Z = omega arith

-- nine coordinates of triangle n put in: those of triangle i stay
module _ (l : List ℤ) (n : ℕ) (run : List ℤ) (nine : length run ≡ 9) (fits : 9 * n + 9 ≤ length l) (i : ℕ) (other : i ≡ n → ⊥) where
  number_stays : (p : ℕ) → 9 * i ≤ p → p < 9 * i + 9 → get_or (put l (9 * n) run) p (pos 0) ≡ get_or l p (pos 0)
  number_stays p f g = by (ltb i n) refl
    where
      by : (b : Bool) → ltb i n ≡ b → get_or (put l (9 * n) run) p (pos 0) ≡ get_or l p (pos 0)
      by true e = let h = ltb-true i n e in put_below l (9 * n) run (omega (arith, nine, fits)) p (pos 0) (omega (arith, h, g))
      by false e =
          let h = ltb-false i n e in
          let k : n < i = omega (arith, h, other) in
          put_above l (9 * n) run (omega (arith, nine, fits)) p (pos 0) (omega (arith, k, nine, f))

  face_stays : (pick : ℤ → ℤ → ℤ) (axis : Axis) → over_face pick (put l (9 * n) run) (9 * i + place axis) ≡ over_face pick l (9 * i + place axis)
  face_stays pick axis =
      let at = 9 * i + place axis in
      let b = below_three axis in
      let v1 = number_stays at (omega arith) (omega (arith, b)) in
      let v2 = number_stays (at + 3) (omega arith) (omega (arith, b)) in
      let v3 = number_stays (at + 6) (omega arith) (omega (arith, b)) in
      λ k. pick (pick (v1 k) (v2 k)) (pick (v3 k) (v2 k +ℤ v3 k -ℤ v1 k))

-- ---- the other blocks

triangles_stay : (pick : ℤ → ℤ → ℤ) (s s' e e' : List ℤ) (axis : Axis) (i k : ℕ)
    → ((j : ℕ) → i ≤ j → j ≤ i + k → over_triangle pick s' e' axis j ≡ over_triangle pick s e axis j)
    → over_triangles pick s' e' axis i k ≡ over_triangles pick s e axis i k
unfolding over_triangles
triangles_stay pick s s' e e' axis i zero same = same i (omega arith) (omega arith)
triangles_stay pick s s' e e' axis i (suc k) same =
    ap₂ pick (triangles_stay pick s s' e e' axis i k (λ j f g. same j f (omega arith))) (same (i + suc k) (omega arith) (omega arith))

module _ (m : Body) (n : ℕ) (corners : List ℤ) (is_body : Known m) (given : length corners ≡ 18) (there : n < m.count) where
  bound_stays : (block : ℕ) → (block ≡ block_of n → ⊥) → bound (replaced m n corners) block ≡ bound m block
  bound_stays block other =
      λ k. over lesser X k ∷ over lesser Y k ∷ over lesser Z k ∷ over greater X k ∷ over greater Y k ∷ over greater Z k ∷ []
    where
      triangle : (pick : ℤ → ℤ → ℤ) (axis : Axis) (j : ℕ) → 32 * block ≤ j → j ≤ 32 * block + (min 32 (m.count - 32 * block) - 1)
          → over_triangle pick (replaced m n corners).start (replaced m n corners).end axis j ≡ over_triangle pick m.start m.end axis j
      triangle pick axis j f g =
          let unlike : j ≡ n → ⊥ = λ e. other (omega (arith, e, f, g)) in
          ap₂ pick
          (face_stays m.start n (take 9 corners) (length-take-le 9 corners (omega (arith, given))) (omega (arith, there, is_body.start)) j unlike pick axis)
          (face_stays m.end n (drop 9 corners) (omega (arith, length-drop 9 corners, given)) (omega (arith, there, is_body.end)) j unlike pick axis)

      over : (pick : ℤ → ℤ → ℤ) (axis : Axis)
          → over_triangles pick (replaced m n corners).start (replaced m n corners).end axis (32 * block) (size_of m.count block - 1)
          ≡ over_triangles pick m.start m.end axis (32 * block) (size_of m.count block - 1)
      over pick axis = triangles_stay pick m.start (replaced m n corners).start m.end (replaced m n corners).end axis (32 * block) (size_of m.count block - 1) (triangle pick axis)

-- ---- the list

-- a run put into the first of two lists, and in place of the second
put_first : (xs ys run : List ℤ) (at : ℕ) → at + length run ≤ length xs → put (xs ++ ys) at run ≡ put xs at run ++ ys
unfolding put
put_first xs ys run at h =
    ap₂ (λ (f g : List ℤ). f ++ run ++ g) (take-append-le at xs ys (omega (arith, h))) (drop-append-le (at + length run) xs ys h)
    ∙ sym (append_assoc (take at xs ++ run) (drop (at + length run) xs) ys)

put_second : (xs ys run : List ℤ) (at : ℕ) → length xs ≡ at → length ys ≡ length run → put (xs ++ ys) at run ≡ xs ++ run
unfolding put
put_second xs ys run at e f =
    ap₂ (λ (f g : List ℤ). f ++ run ++ g) (take_at xs ys at e) (drop_of_length-le (xs ++ ys) {i = at + length run} (omega (arith, length-append xs ys, e, f)))
    ∙ append-nil (xs ++ run)

-- two bodies whose bounds are the same but for a block's
module _ (m m' : Body) (block : ℕ) (same : (k : ℕ) → (k ≡ block → ⊥) → bound m' k ≡ bound m k) where
  before_block : (k : ℕ) → k ≤ block → bounds_to m' k ≡ bounds_to m k
  unfolding bounds_to
  before_block zero h = refl
  before_block (suc k) h = ap₂ ◌++◌ (before_block k (omega arith)) (same k (λ e. omega arith))

  with_block : (k : ℕ) → block < k → put (bounds_to m k) (6 * block) (bound m' block) ≡ bounds_to m' k
  unfolding bounds_to
  with_block zero h = absurd (omega arith)
  with_block (suc k) h = by (λ g. with_block k g) (eq-or-lt_of_le (lt_suc h))
    where
      lt_suc : block < suc k → block ≤ k
      lt_suc g = omega arith

      by : (block < k → put (bounds_to m k) (6 * block) (bound m' block) ≡ bounds_to m' k) → (block ≡ k) ⊎ (block < k) → put (bounds_to m k ++ bound m k) (6 * block) (bound m' block) ≡ bounds_to m' k ++ bound m' k
      by earlier (inl e) =
          put_second (bounds_to m k) (bound m k) (bound m' block) (6 * block) (length_bounds m k ∙ ap (λ (j : ℕ). 6 * j) (sym e)) refl
          ∙ ap₂ ◌++◌ (sym (before_block k (omega (arith, e)))) (ap (bound m') e)
      by earlier (inr g) =
          put_first (bounds_to m k) (bound m k) (bound m' block) (6 * block) (omega (arith, length_bounds m k, g))
          ∙ ap₂ ◌++◌ (earlier g) (sym (same k (λ e. omega (arith, e, g))))

module _ (edition : ℕ) (m : Body) (bounds : List ℤ) (n : ℕ) (corners : List ℤ) (taken : replace_refusal edition m bounds n corners ≡ 0) where
  pub stays_exact : bounds ≡ bounds_of m → mended (replaced m n corners) n bounds ≡ bounds_of (replaced m n corners)
  stays_exact exact =
      let h = replaceable edition m bounds n corners taken in
      ap (λ (l : List ℤ). put l (6 * block_of n) (bound (replaced m n corners) (block_of n))) exact
      ∙ with_block m (replaced m n corners) (block_of n) (bound_stays m n corners h.is_body h.given h.there) (blocks m.count) (omega (arith, h.there))

  pub others_stay : (p : ℕ) → (p < 6 * block_of n) ⊎ (6 * block_of n + 6 ≤ p) → get_or (mended (replaced m n corners) n bounds) p (pos 0) ≡ get_or bounds p (pos 0)
  others_stay p (inl f) = let h = replaceable edition m bounds n corners taken in put_below bounds (6 * block_of n) (bound (replaced m n corners) (block_of n)) (omega (arith, h.there, h.room)) p (pos 0) f
  others_stay p (inr f) = let h = replaceable edition m bounds n corners taken in put_above bounds (6 * block_of n) (bound (replaced m n corners) (block_of n)) (omega (arith, h.there, h.room)) p (pos 0) f

-- ---- of what `replace` leaves

pub exchange_taken : (edition : ℕ) (m : Body) (bounds : List ℤ) (n : ℕ) (corners : List ℤ) → exchange_refusal edition m bounds n corners ≡ 0 → replace_refusal edition m bounds n corners ≡ 0
unfolding exchange_refusal
exchange_taken edition m bounds n corners e = by (first (no_edition edition ∷ [])) e
  where
    by : (k : ℕ) → or_else k (replace_refusal edition m bounds n corners) ≡ 0 → replace_refusal edition m bounds n corners ≡ 0
    by zero e = e
    by (suc k) e = absurd (omega arith)

-- where it returns 0, bounds that were exact are exact
pub replace_kept : (edition : ℕ) (m : Body) (bounds : List ℤ) (n : ℕ) (corners start' end' bounds' : List ℤ) → Replaces edition m bounds n corners start' end' bounds' 0 → bounds ≡ bounds_of m
    → bounds' ≡ bounds_of (record { count = m.count; start = start'; end = end' })
unfolding put_unless
replace_kept edition m bounds n corners start' end' bounds' h e =
    h.mends
    ∙ stays_exact edition m bounds n corners (exchange_taken edition m bounds n corners (sym h.says)) e
    ∙ sym (λ i. bounds_of (record { count = m.count; start = h.start i; end = h.end i }))
