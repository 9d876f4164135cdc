-- The count of an answer: at least 1 and at most the budget.
use mathlib.Core.Path.{◌≡◌, refl}
use mathlib.Core.Bool.{Bool, true, false}
use mathlib.Core.List.{List, [], ◌∷◌}
use Prim.Native.Nat.{ℕ, zero, suc, ◌+◌, ◌≤◌, ◌<◌}
use native.Mathlib.Omega.{arith}
use borrow.Author.Tests.{eqb-true, eqb-false}
use lib.ListN.{length}
use lib.Dec.{leb, eqb}
use Rattle.rules.specs.declared.Corner.{Corner}
use Rattle.rules.specs.declared.Answer.{Answer}
use Rattle.rules.specs.declared.Answer.TheVariants.{Met, Clear, Spent, Room, Floor, Refused}
use Rattle.rules.specs.Search.{Query, Box, Depths, survives, near, full, corner, Checked, answered, through, keep, first_survivor, one_box, check, split, deeper, halves, if_room, after_level, levels, origin, run}

module _ (S : Query) (some : 0 < S.budget) where
  abbrev pub Counted : Answer → Type 0
  Counted (Met t u v excess n) = (1 ≤ n) × (n ≤ S.budget)
  Counted (Clear n) = (1 ≤ n) × (n ≤ S.budget)
  Counted (Spent t u v excess n) = (1 ≤ n) × (n ≤ S.budget)
  Counted (Room t u v excess n) = (1 ≤ n) × (n ≤ S.budget)
  Counted (Floor t u v excess n) = (1 ≤ n) × (n ≤ S.budget)
  Counted (Refused n) = Unit

  -- a level from the count n on: an answer's, or at least so many as n and its boxes
  abbrev Through : ℕ → Checked → Type 0
  Through n (answered a) = Counted a
  Through n (through m c l) = (n ≤ m) × (m ≤ S.budget)

  keep_through : (n : ℕ) (b : Box) (r : Checked) → Through n r → Through n (keep b r)
  keep_through n b (answered a) h = h
  keep_through n b (through m c l) h = h

  one_through : (k : Depths) (b : Box) (over alive seen : Bool) (c : Corner) (n m : ℕ) (on : Bool → Corner → Checked)
      → eqb n S.budget ≡ over → n ≤ S.budget → n + 1 ≤ m → ((s : Bool) (d : Corner) → n + 1 ≤ S.budget → Through m (on s d)) → Through m (one_box S k b over alive seen c n on)
  unfolding one_box first_survivor
  one_through k b true alive seen c n m on e h l f = let z : n ≡ S.budget = eqb-true n S.budget e in (omega arith, h)
  one_through k b false false seen c n m on e h l f = f seen c (omega (arith, eqb-false n S.budget e))
  one_through k b false true true c n m on e h l f = keep_through m b (on true c) (f true c (omega (arith, eqb-false n S.budget e)))
  one_through k b false true false c n m on e h l f = keep_through m b (first_survivor (near S k b) (full S k) (corner S k b) (n + 1) (on true)) (go (near S k b) (full S k))
    where
      less : n + 1 ≤ S.budget
      less = omega (arith, eqb-false n S.budget e)

      go : (x y : Bool) → Through m (first_survivor x y (corner S k b) (n + 1) (on true))
      go true y = (omega arith, less)
      go false true = (omega arith, less)
      go false false = f true (corner S k b) less

  check_through : (k : Depths) (boxes : List Box) (seen : Bool) (c : Corner) (n : ℕ) → n ≤ S.budget → Through (n + length boxes) (check S k boxes seen c n)
  unfolding check
  check_through k [] seen c n h = (omega arith, h)
  check_through k (b ∷ bs) seen c n h =
      one_through k b (eqb n S.budget) (survives S k b) seen c n (n + length (b ∷ bs)) (λ s d. check S k bs s d (n + 1)) refl h (omega arith)
      (λ s d g. weaken (check S k bs s d (n + 1)) (check_through k bs s d (n + 1) g))
    where
      weaken : (r : Checked) → Through (n + 1 + length bs) r → Through (n + length (b ∷ bs)) r
      weaken (answered a) t = t
      weaken (through m c l) t = (omega (arith, t.0), t.1)

  after_counted : (k : Depths) (go : Depths → List Box → Corner → ℕ → Answer) (n : ℕ) (r : Checked) → 1 ≤ n → Through n r
      → ((k' : Depths) (new : List Box) (c : Corner) (m : ℕ) → 1 ≤ m → m ≤ S.budget → Counted (go k' new c m)) → Counted (after_level S k go r)
  unfolding after_level if_room
  after_counted k go n (answered a) h t f = t
  after_counted k go n (through m c []) h t f = (omega (arith, t.0), t.1)
  after_counted k go n (through m c (b ∷ l)) h t f = room (leb (length new) S.room)
    where
      new : List Box
      new = halves S (deeper (split S k) k) (split S k) (b ∷ l)

      room : (x : Bool) → Counted (if_room x c m (go (deeper (split S k) k) new))
      room true = f (deeper (split S k) k) new c m (omega (arith, t.0)) t.1
      room false = (omega (arith, t.0), t.1)

  levels_counted : (f : ℕ) (k : Depths) (boxes : List Box) (c : Corner) (n : ℕ) → 1 ≤ n + length boxes → n ≤ S.budget → Counted (levels f S k boxes c n)
  unfolding levels
  levels_counted zero k boxes c n h g = tt
  levels_counted (suc f) k boxes c n h g =
      after_counted k (levels f S) (n + length boxes) (check S k boxes false c n) h (check_through k boxes false c n g) (λ k' new c' m p q. levels_counted f k' new c' m (omega arith) q)

  pub run_counted : Counted (run S)
  unfolding run
  run_counted = levels_counted 61 origin (origin ∷ []) (record { t = 0; u = 0; v = 0; excess = 0 }) 0 (omega arith) (omega arith)
