-- What checking a level comes to, by its first survivor.
use mathlib.Core.Path.{◌≡◌}
use mathlib.Core.Bool.{Bool, true, false, cond, not}
use mathlib.Core.List.{List, [], ◌∷◌}
use Prim.Native.Nat.{ℕ, suc, ◌+◌, ◌<◌}
use native.Mathlib.Omega.{arith}
use lib.ListN.{length}
use lib.Dec.{T, eqb, eqb→eq}
use Rattle.rules.specs.declared.Corner.{Corner}
use Rattle.rules.specs.declared.Answer.TheVariants.{Met, Spent, Floor}
use Rattle.rules.specs.Search.{Query, Box, Depths, survives, corner, with_count, near, full, Checked, answered, through, keep, first_survivor, one_box, check, those}

module _ (S : Query) (k : Depths) where
  -- once a corner c is recorded: the budget ends, or all are checked and l are the survivors
  data After (c : Corner) (l : List Box) : Checked → Type 0 where
    spent : (i : ℕ) → After c l (answered (with_count Spent c i))
    all : (i : ℕ) → After c l (through i c l)

  -- a level of so many boxes that begins with the recorded corner c and the count n, by the list of its survivors
  pub data Outcome (c : Corner) (n boxes : ℕ) : List Box → Checked → Type 0 where
    early : {l : List Box} (i : ℕ) → i < n + boxes → i ≡ S.budget → Outcome c n boxes l (answered (with_count Spent c i))
    none : (i : ℕ) → Outcome c n boxes [] (through i c [])
    met : (b : Box) (l : List Box) (i : ℕ) → T (near S k b) → Outcome c n boxes (b ∷ l) (answered (with_count Met (corner S k b) i))
    floor : (b : Box) (l : List Box) (i : ℕ) → T (full S k) → Outcome c n boxes (b ∷ l) (answered (with_count Floor (corner S k b) i))
    spent : (b : Box) (l : List Box) (i : ℕ) → Outcome c n boxes (b ∷ l) (answered (with_count Spent (corner S k b) i))
    some : (b : Box) (l : List Box) (i : ℕ) → T (not (full S k)) → Outcome c n boxes (b ∷ l) (through i (corner S k b) (b ∷ l))

  -- ---- after the first survivor
  keep_after : (b : Box) {c : Corner} {l : List Box} {r : Checked} → After c l r → After c (b ∷ l) (keep b r)
  keep_after b (spent i) = spent i
  keep_after b (all i) = all i

  one_after : (b : Box) (over alive : Bool) (c : Corner) (n : ℕ) (on : Bool → Corner → Checked) (l : List Box)
      → After c l (on true c)
      → After c (cond alive (b ∷ l) l) (one_box S k b over alive true c n on)
  unfolding one_box
  one_after b true alive c n on l h = spent n
  one_after b false false c n on l h = h
  one_after b false true c n on l h = keep_after b h

  check_after : (boxes : List Box) (c : Corner) (n : ℕ) → After c (those (survives S k) boxes) (check S k boxes true c n)
  unfolding check those
  check_after [] c n = all n
  check_after (b ∷ bs) c n =
      one_after b (eqb n S.budget) (survives S k b) c n (λ s d. check S k bs s d (n + 1)) (those (survives S k) bs) (check_after bs c (n + 1))

  -- ---- up to it
  one_more : {c : Corner} {n boxes : ℕ} {l : List Box} {r : Checked} → Outcome c (n + 1) boxes l r → Outcome c n (suc boxes) l r
  one_more (early i h e) = early i (omega arith) e
  one_more (none i) = none i
  one_more (met b l i h) = met b l i h
  one_more (floor b l i h) = floor b l i h
  one_more (spent b l i) = spent b l i
  one_more (some b l i h) = some b l i h

  first_some : (b : Box) {c : Corner} {n boxes : ℕ} {l : List Box} {r : Checked}
      → T (not (full S k))
      → After (corner S k b) l r
      → Outcome c n boxes (b ∷ l) (keep b r)
  first_some b {l = l} h (spent i) = spent b l i
  first_some b {l = l} h (all i) = some b l i h

  one_first : (b : Box) (over alive : Bool) (c : Corner) (n boxes : ℕ) (on : Bool → Corner → Checked) (l : List Box)
      → (T over → n ≡ S.budget)
      → Outcome c (n + 1) boxes l (on false c)
      → ((d : Corner) → After d l (on true d))
      → Outcome c n (suc boxes) (cond alive (b ∷ l) l) (one_box S k b over alive false c n on)
  unfolding one_box first_survivor
  one_first b true alive c n boxes on l e f g = early n (omega arith) (e tt)
  one_first b false false c n boxes on l e f g = one_more f
  one_first b false true c n boxes on l e f g = go (near S k b) (full S k) (λ t. t) (λ t. t) (λ t. t)
    where
      go : (x y : Bool) → (T x → T (near S k b)) → (T y → T (full S k)) → (T (not y) → T (not (full S k)))
          → Outcome c n (suc boxes) (b ∷ l) (keep b (first_survivor x y (corner S k b) (n + 1) (on true)))
      go true y p q r = met b l (n + 1) (p tt)
      go false true p q r = floor b l (n + 1) (q tt)
      go false false p q r = first_some b (r tt) (g (corner S k b))

  pub check_first : (boxes : List Box) (c : Corner) (n : ℕ) → Outcome c n (length boxes) (those (survives S k) boxes) (check S k boxes false c n)
  unfolding check those
  check_first [] c n = none n
  check_first (b ∷ bs) c n =
      one_first b (eqb n S.budget) (survives S k b) c n (length bs) (λ s d. check S k bs s d (n + 1)) (those (survives S k) bs) (λ t. eqb→eq n S.budget t)
      (check_first bs c (n + 1)) (λ d. check_after bs d (n + 1))
