-- The promises of R-8 say enough: a box that the search did not come to was not discarded, though it would not survive; no box further down than the first may be named; on a
-- boundary only the upper half holds the point, and at 1 only the last.
use mathlib.Core.Path.{◌≡◌, refl, sym, ap, ◌∙◌, subst}
use mathlib.Core.Logic.{inl, inr}
use mathlib.Core.Bool.{Bool, true, false, cond}
use mathlib.Core.List.{List, [], ◌∷◌}
use Prim.Native.Nat.{ℕ, zero, suc, ◌+◌, ◌*◌, ◌-◌, ◌^◌, ◌≤◌, ◌<◌}
use native.Mathlib.Nat.{le_trans, add-mul, one-mul, mul-le-mul_right}
use native.Mathlib.Omega.{arith}
use lib.IntN.{pos}
use lib.Pow.{pow-add, pow_pos}
use lib.ListN.{length, take}
use lib.Dec.{T, leb}
use Rattle.rules.specs.declared.Three.{Three}
use Rattle.rules.specs.declared.Corner.{Corner}
use Rattle.rules.specs.declared.Reason.{Reason}
use Rattle.rules.specs.Numbers.{parts}
use Rattle.rules.specs.Gap.{moving, vertex_face, edge_edge, gap_on, negate_from, sided}
use Rattle.rules.specs.Search.{Query, query, Box, Depths, side, low, high, Checked, answered, through, check, split, deeper, halves, origin, merge, take_in, not_after, those, inside, winner, spread, one_box, near, first_survivor, corner, excess, width, survives, least, greatest, over_corners}
use Rattle.rules.specs.Berth.{asked, minus, p_t}
use Rattle.rules.specs.WhyExamples.{beside}
use Rattle.promise.specs.Why.{down, Held, Some, Comes, whole, next, counted, WasDiscarded, First}
use Rattle.promise.proofs.Split.{sum, deeper_sum}

-- ---- a boundary: 524288 parts are the middle, where box 1 of depth 1 begins
pub not_lower : Held 1 0 524288 → ⊥
not_lower w = omega (arith, w.upper refl)

pub not_past_1 : Held 1 2 1048576 → ⊥
not_past_1 w = omega (arith, w.grid)

pub last_at_1 : Held 1 1 1048576
last_at_1 = record { depth = omega arith; grid = omega arith; from = omega arith; to = omega arith; upper = λ e. refl }

-- no two cells of a depth hold a point so
not_later : (k i j a : ℕ) → i < j → Held k i a → Held k j a → ⊥
not_later k i j a h w x = omega (arith, x.from, ends, wide, in_whole, one, w.upper here)
  where
    ends : high k i ≤ low k j
    ends = let g : i + 1 ≤ j = omega arith in mul-le-mul_right (side k) g

    here : a ≡ high k i
    here = omega (arith, w.to, ends, x.from)

    wide : low k j + side k ≡ high k j
    wide = sym (add-mul j 1 (side k) ∙ ap (λ (n : ℕ). low k j + n) (one-mul (side k)))

    one : 0 < side k
    one = pow_pos (20 - k)

    in_whole : high k j ≤ parts
    in_whole = le_trans (let g : j + 1 ≤ 2 ^ k = omega (arith, x.grid) in mul-le-mul_right (side k) g) (whole_side (sym (pow-add 2 k (20 - k)) ∙ ap (λ (n : ℕ). 2 ^ n) (all k x.depth)))
      where
        all : (k : ℕ) → k ≤ 20 → k + (20 - k) ≡ 20
        all k h = omega arith

        whole_side : 2 ^ k * side k ≡ 2 ^ 20 → 2 ^ k * side k ≤ parts
        whole_side e = omega arith

pub held_once : (k i j a : ℕ) → Held k i a → Held k j a → i ≡ j
held_once k i j a w x =
    let no : i < j → ⊥ = λ h. not_later k i j a h w x in
    let none : j < i → ⊥ = λ h. not_later k j i a h x w in
    omega arith

-- ---- where the whole domain is discarded, nothing below it may be named
abbrev far : Query
far = query (beside (minus 101) (pos 0) (pos 7)) 4096

pub not_further : (at : Three) (x : Reason) → 0 < x.level → First far at x → ⊥
unfolding down survives least greatest over_corners moving vertex_face edge_edge gap_on negate_from sided
not_further at x h f = f.survived 0 h

-- ---- the levels of a search one by one
pub data Stage : Type 0 where
  over : Stage
  stage : Depths → List Box → Corner → ℕ → Stage

abbrev after : Query → Depths → Checked → Stage
after q k (answered a) = over
after q k (through n c []) = over
after q k (through n c (b ∷ rest)) =
    let new : List Box = halves q (deeper (split q k) k) (split q k) (b ∷ rest) in
    cond (leb (length new) q.room) (stage (deeper (split q k) k) new c n) over

abbrev step : Query → Stage → Stage
step q over = over
step q (stage k boxes c n) = after q k (check q k boxes false c n)

unfoldable pub stages : ℕ → Query → Stage
stages zero q = stage origin (origin ∷ []) (record { t = 0; u = 0; v = 0; excess = 0 }) 0
stages (suc j) q = step q (stages j q)

-- a level that the search comes to is one of them, by its depths
roomy : (x : Bool) (s : Stage) → T x → cond x s over ≡ s
roomy true s t = refl
roomy false s t = absurd t

pub stage_of : (q : Query) (m : ℕ) (k : Depths) (boxes : List Box) (c : Corner) (n : ℕ) → Comes q m k boxes c n → stages (sum k) q ≡ stage k boxes c n
unfolding stages
stage_of q m k boxes c n whole = refl
stage_of q m' k' new d' i' (next m k boxes c n i d box rest w e t) =
    ap (λ (j : ℕ). stages j q) (deeper_sum (split q k) k ∙ suc_of (sum k))
    ∙ ap (step q) (stage_of q (suc m) k boxes c n w)
    ∙ ap (after q k) e
    ∙ roomy (leb (length new) q.room) (stage k' new d i) t
  where
    suc_of : (j : ℕ) → j + 1 ≡ suc j
    suc_of j = omega arith

-- ---- a box that was not reached
abbrev boxes_of : Stage → List Box
boxes_of over = []
boxes_of (stage k boxes c n) = boxes

abbrev count_of : Stage → ℕ
count_of over = 0
count_of (stage k boxes c n) = n

abbrev checked_of : Query → Stage → List Box
checked_of q over = []
checked_of q (stage k boxes c n) = take (counted (check q k boxes false c n) - n) boxes

-- the first berth example with a budget of 4: it is spent at level 2, after the first of four boxes
abbrev four : Query
four = query (asked 1 0 0 999 4 p_t) 4096

abbrev quarter : ℕ → Box
quarter i = record { t = i; u = 0; v = 0 }

checked_2 : checked_of four (stages 2 four) ≡ quarter 0 ∷ []
unfolding stages check halves merge take_in not_after those inside split winner spread one_box near first_survivor corner excess width survives least greatest over_corners moving vertex_face edge_edge gap_on negate_from sided
checked_2 = refl

-- the last one would not survive
pub last_dead : survives four (quarter 2) (quarter 3) ≡ false
unfolding survives least greatest over_corners moving vertex_face edge_edge gap_on negate_from sided
last_dead = refl

pub not_reached : WasDiscarded four (quarter 2) (quarter 3) → ⊥
not_reached w = no (subst (Some (λ b. b ≡ quarter 3)) (sym (ap (checked_of four) same) ∙ checked_2) w.checked)
  where
    same : stages 2 four ≡ stage (quarter 2) w.boxes w.corner w.count
    same = stage_of four (suc w.more) (quarter 2) w.boxes w.corner w.count w.comes

    no : Some (λ b. b ≡ quarter 3) (quarter 0 ∷ []) → ⊥
    no (inl e) = let f : ◌≡◌ {A = ℕ} 0 3 = ap (λ (b : Box). b.t) e in omega arith
    no (inr x) = x
