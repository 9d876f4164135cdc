-- One search: from a level on, no answered time is before the recorded one, and no count is less than the level began with.
use mathlib.Core.Path.{◌≡◌, ap, sym, subst}
use mathlib.Core.Bool.{Bool, true, false, not}
use mathlib.Core.List.{List, [], ◌∷◌, map}
use Prim.Native.Nat.{ℕ, zero, suc, ◌+◌, ◌*◌, ◌-◌, ◌^◌, ◌≤◌, ◌<◌}
use native.Mathlib.Nat.{le_trans, le_refl, mul-le-mul_right}
use native.Mathlib.Omega.{arith}
use lib.ListN.{length}
use lib.Dec.{T, leb, eqb, leb→le, nleb→lt}
use Rattle.rules.specs.declared.Corner.{Corner}
use Rattle.rules.specs.declared.Parameter.{Parameter}
use Rattle.rules.specs.declared.Parameter.TheVariants.{InT, InU, InV}
use Rattle.rules.specs.declared.Answer.{Answer}
use Rattle.rules.specs.declared.Answer.TheVariants.{Met, Clear, Spent, Room, Floor, Refused}
use Rattle.rules.specs.Answers.{told}
use Rattle.rules.specs.Search.{Query, Box, Depths, side, low, survives, corner, near, full, Checked, answered, through, keep, first_survivor, one_box, check, those, split, deeper, low_half, high_half, inside, halves, if_room, after_level, levels}
use Rattle.promise.proofs.Before.{before_t}
use Rattle.promise.proofs.Lists.{Every, Ascending, every_weaken, those_every, those_ascending, map_every, merge_every}
use Rattle.promise.proofs.Halves.{double, halves_ascending}
use Rattle.promise.proofs.First.{Outcome, early, none, met, floor, spent, some, check_first}

-- ---- an answer has no time before τ, and counts i or more
abbrev pub Since : ℕ → ℕ → Answer → Type 0
Since τ i (Met t u v e n) = (τ ≤ t) × (i ≤ n)
Since τ i (Clear n) = i ≤ n
Since τ i (Spent t u v e n) = (τ ≤ t) × (i ≤ n)
Since τ i (Room t u v e n) = (τ ≤ t) × (i ≤ n)
Since τ i (Floor t u v e n) = (τ ≤ t) × (i ≤ n)
Since τ i (Refused n) = Unit

pub since_weaken : {τ σ i j : ℕ} (a : Answer) → τ ≤ σ → i ≤ j → Since σ j a → Since τ i a
since_weaken (Met t u v e n) f g h = (le_trans f h.0, le_trans g h.1)
since_weaken (Clear n) f g h = le_trans g h
since_weaken (Spent t u v e n) f g h = (le_trans f h.0, le_trans g h.1)
since_weaken (Room t u v e n) f g h = (le_trans f h.0, le_trans g h.1)
since_weaken (Floor t u v e n) f g h = (le_trans f h.0, le_trans g h.1)
since_weaken (Refused n) f g h = tt

-- so far, where a level's boxes are checked
abbrev pub Reach : ℕ → ℕ → Checked → Type 0
Reach τ i (answered a) = Since τ i a × (i ≤ (told a).count)
Reach τ i (through n c l) = (τ ≤ c.t) × (i ≤ n)

reach_weaken : {τ σ i j : ℕ} (r : Checked) → τ ≤ σ → i ≤ j → Reach σ j r → Reach τ i r
reach_weaken (answered a) f g h = (since_weaken a f g h.0, le_trans g h.1)
reach_weaken (through n c l) f g h = (le_trans f h.0, le_trans g h.1)

pub keep_reach : (τ i : ℕ) (b : Box) (r : Checked) → Reach τ i r → Reach τ i (keep b r)
keep_reach τ i b (answered a) h = h
keep_reach τ i b (through n c l) h = h

-- ---- a box begins at τ or later
abbrev pub Late : Depths → ℕ → Box → Type 0
Late k τ b = τ ≤ low k.t b.t

-- before a level's first survivor every box to come begins at the recorded time or later; after it nothing is recorded in that level
abbrev pub Ahead : Depths → Bool → Corner → List Box → Type 0
Ahead k true c l = Unit
Ahead k false c l = Every (Late k c.t) l

half_low : (k i : ℕ) → low k i ≤ low (k + 1) (2 * i)
half_low k i = go (leb 20 k) (λ t. leb→le 20 k t) (λ t. nleb→lt 20 k t)
  where
    flat : 20 ≤ k → 20 - k ≡ 20 - (k + 1)
    flat h = omega arith

    go : (x : Bool) → (T x → 20 ≤ k) → (T (not x) → k < 20) → low k i ≤ low (k + 1) (2 * i)
    go true f g = subst (λ (s : ℕ). i * s ≤ 2 * i * side (k + 1)) (sym (ap (λ (n : ℕ). 2 ^ n) (flat (f tt)))) (mul-le-mul_right (side (k + 1)) (omega arith))
    go false f g = subst (λ (n : ℕ). low k i ≤ n) (double k i (g tt)) (le_refl (low k i))

low_late : (p : Parameter) (k : Depths) (τ : ℕ) (b : Box) → Late k τ b → Late (deeper p k) τ (low_half p b)
low_late InT k τ b h = le_trans h (half_low k.t b.t)
low_late InU k τ b h = h
low_late InV k τ b h = h

high_late : (p : Parameter) (k : Depths) (τ : ℕ) (b : Box) → Late k τ b → Late (deeper p k) τ (high_half p b)
high_late InT k τ b h = le_trans h (le_trans (half_low k.t b.t) (mul-le-mul_right (side (k.t + 1)) (omega arith)))
high_late InU k τ b h = h
high_late InV k τ b h = h

-- ---- what is known where a level is through
abbrev pub Tidy : Depths → Checked → Type 0
Tidy k (answered a) = Unit
Tidy k (through n c l) = Ascending l × Every (Late k c.t) l

module _ (S : Query) where
  pub halves_late : (p : Parameter) (k : Depths) (τ : ℕ) (l : List Box) → Every (Late k τ) l → Every (Late (deeper p k) τ) (halves S (deeper p k) p l)
  unfolding halves
  halves_late p k τ l h = merge_every (Late (deeper p k) τ) _ _ (half (low_half p) (low_late p k τ)) (half (high_half p) (high_late p k τ))
    where
      half : (f : Box → Box) → ((b : Box) → Late k τ b → Late (deeper p k) τ (f b)) → Every (Late (deeper p k) τ) (those (inside S (deeper p k)) (map f l))
      half f g =
          every_weaken (λ b x. x.0) (those (inside S (deeper p k)) (map f l))
          (those_every (Late (deeper p k) τ) (inside S (deeper p k)) (map f l) (map_every (Late k τ) (Late (deeper p k) τ) f g l h))

  pub check_reach : (k : Depths) (boxes : List Box) (seen : Bool) (c : Corner) (n : ℕ) → Ahead k seen c boxes → Reach c.t n (check S k boxes seen c n)
  unfolding check one_box first_survivor corner
  check_reach k [] seen c n h = (le_refl c.t, le_refl n)
  check_reach k (b ∷ bs) seen c n h = go (eqb n S.budget) (survives S k b) seen h (λ s d g. check_reach k bs s d (n + 1) g)
    where
      on : Bool → Corner → Checked
      on s d = check S k bs s d (n + 1)

      first : (x y : Bool) → c.t ≤ low k.t b.t → ((s : Bool) (d : Corner) → Ahead k s d bs → Reach d.t (n + 1) (on s d))
          → Reach c.t n (first_survivor x y (corner S k b) (n + 1) (on true))
      first true y g f = ((g, omega arith), omega arith)
      first false true g f = ((g, omega arith), omega arith)
      first false false g f = reach_weaken (on true (corner S k b)) g (omega arith) (f true (corner S k b) tt)

      go : (over alive seen : Bool) → Ahead k seen c (b ∷ bs) → ((s : Bool) (d : Corner) → Ahead k s d bs → Reach d.t (n + 1) (on s d))
          → Reach c.t n (one_box S k b over alive seen c n on)
      go true alive seen h f = ((le_refl c.t, le_refl n), le_refl n)
      go false false true h f = reach_weaken (on true c) (le_refl c.t) (omega arith) (f true c tt)
      go false false false h f = reach_weaken (on false c) (le_refl c.t) (omega arith) (f false c h.1)
      go false true true h f = keep_reach c.t n b (on true c) (reach_weaken (on true c) (le_refl c.t) (omega arith) (f true c tt))
      go false true false h f = keep_reach c.t n b (first_survivor (near S k b) (full S k) (corner S k b) (n + 1) (on true)) (first (near S k b) (full S k) h.0 f)

  outcome_tidy : (k : Depths) (c : Corner) (n size : ℕ) (l : List Box) (r : Checked) → Outcome S k c n size l r → Ascending l → Tidy k r
  unfolding corner
  outcome_tidy k c n size l r (early i f e) a = tt
  outcome_tidy k c n size l r (none i) a = (tt, tt)
  outcome_tidy k c n size l r (met b bs i f) a = tt
  outcome_tidy k c n size l r (floor b bs i f) a = tt
  outcome_tidy k c n size l r (spent b bs i) a = tt
  outcome_tidy k c n size l r (some b bs i f) a = (a, (le_refl (low k.t b.t), every_weaken (λ x g. mul-le-mul_right (side k.t) (before_t b x g)) bs a.0))

  pub check_tidy : (k : Depths) (boxes : List Box) (c : Corner) (n : ℕ) → Ascending boxes → Tidy k (check S k boxes false c n)
  check_tidy k boxes c n a =
      outcome_tidy k c n (length boxes) (those (survives S k) boxes) (check S k boxes false c n) (check_first S k boxes c n) (those_ascending (survives S k) boxes a)

  -- ---- the levels
  abbrev pub Goes : (Depths → List Box → Corner → ℕ → Answer) → Type 0
  Goes go = (k : Depths) (boxes : List Box) (c : Corner) (n : ℕ) → Ascending boxes → Every (Late k c.t) boxes → Since c.t n (go k boxes c n)

  pub room_since : (x : Bool) (c : Corner) (n : ℕ) (go : Corner → ℕ → Answer) → Since c.t n (go c n) → Since c.t n (if_room x c n go)
  unfolding if_room
  room_since true c n go h = h
  room_since false c n go h = (le_refl c.t, le_refl n)

  pub after_since : (k : Depths) (r : Checked) (τ i : ℕ) (go : Depths → List Box → Corner → ℕ → Answer) → Reach τ i r → Tidy k r → Goes go → Since τ i (after_level S k go r)
  unfolding after_level
  after_since k (answered a) τ i go h t f = h.0
  after_since k (through n c []) τ i go h t f = h.1
  after_since k (through n c (b ∷ l)) τ i go h t f =
      let p = split S k in
      let new = halves S (deeper p k) p (b ∷ l) in
      since_weaken (if_room (leb (length new) S.room) c n (go (deeper p k) new)) h.0 h.1
      (room_since (leb (length new) S.room) c n (go (deeper p k) new)
      (f (deeper p k) new c n (halves_ascending S k p (b ∷ l) t.0) (halves_late p k c.t (b ∷ l) t.1)))

  pub levels_since : (m : ℕ) → Goes (levels m S)
  unfolding levels
  levels_since zero k boxes c n a h = tt
  levels_since (suc m) k boxes c n a h =
      after_since k (check S k boxes false c n) c.t n (levels m S) (check_reach k boxes false c n h) (check_tidy k boxes c n a) (levels_since m)
