-- Two searches, the second with a budget and room that are each the same or larger: they check the same boxes until the first ends for want of one of them.
use mathlib.Core.Path.{◌≡◌, refl, sym, subst, ◌∙◌}
use mathlib.Core.Logic.{inl, inr}
use mathlib.Core.Bool.{Bool, true, false}
use mathlib.Core.List.{List, [], ◌∷◌}
use Prim.Native.Nat.{ℕ, zero, suc, ◌+◌, ◌-◌, ◌≤◌, ◌<◌}
use native.Mathlib.Nat.{le_refl}
use native.Mathlib.Omega.{arith}
use borrow.Author.Tests.{eqb-false, ne_eqb, leb-true, le-leb}
use lib.ListN.{length, take}
use lib.Dec.{T, leb, eqb, leb→le}
use Rattle.rules.specs.declared.Corner.{Corner}
use Rattle.rules.specs.declared.Parameter.{Parameter}
use Rattle.rules.specs.declared.Answer.{Answer}
use Rattle.rules.specs.declared.Answer.TheVariants.{Met, Clear, Spent, Room, Floor, Refused}
use Rattle.rules.specs.Search.{Query, Box, Depths, survives, least, greatest, over_corners, corner, excess, width, with_count, near, full, Checked, answered, through, keep, first_survivor, one_box, check, spread, split, deeper, inside, halves, if_room, after_level, levels, origin, run}
use Rattle.promise.specs.Why.{Some, Comes, whole, next, counted, WasDiscarded}
use Rattle.promise.proofs.Lists.{Every, Ascending}
use Rattle.promise.proofs.Halves.{halves_ascending}
use Rattle.promise.proofs.More.Since.{Since, Reach, keep_reach, Late, Ahead, Tidy, halves_late, check_reach, check_tidy, Goes, room_since, after_since, levels_since}

-- ---- what the second search may answer, by what the first does
abbrev pub Better : Answer → Answer → Type 0
Better (Met t u v e n) a = a ≡ Met t u v e n
Better (Clear n) a = a ≡ Clear n
Better (Spent t u v e n) a = Since t n a
Better (Room t u v e n) a = Since t n a
Better (Floor t u v e n) a = a ≡ Floor t u v e n
Better (Refused n) a = Unit

better_same : (a : Answer) → Better a a
better_same (Met t u v e n) = refl
better_same (Clear n) = refl
better_same (Spent t u v e n) = (le_refl t, le_refl n)
better_same (Room t u v e n) = (le_refl t, le_refl n)
better_same (Floor t u v e n) = refl
better_same (Refused n) = tt

-- the same question with another budget and room
abbrev pub larger : Query → ℕ → ℕ → Query
larger S budget room =
    record {
      gap = S.gap;
      is_face = S.is_face;
      separation = S.separation;
      tolerance = S.tolerance;
      budget = budget;
      room = room;
      deepest = S.deepest;
      last = S.last;
    }

-- ---- a level, checked by both
abbrev pub Fits : Query → Checked → Type 0
Fits S (answered a) = Unit
Fits S (through n c l) = n ≤ S.budget

-- both come to the same; or the first ends for want of budget, and the second goes on from there
pub data Pair (S : Query) : Checked → Checked → Type 0 where
  same : (r : Checked) → Fits S r → Pair S r r
  less : (d : Corner) (i : ℕ) (r : Checked) → Reach d.t i r → Pair S (answered (with_count Spent d i)) r

keep_fits : (S : Query) (b : Box) (r : Checked) → Fits S r → Fits S (keep b r)
keep_fits S b (answered a) f = tt
keep_fits S b (through n c l) f = f

keep_pair : (S : Query) (b : Box) {r r' : Checked} → Pair S r r' → Pair S (keep b r) (keep b r')
keep_pair S b (same r f) = same (keep b r) (keep_fits S b r f)
keep_pair S b (less d i r h) = less d i (keep b r) (keep_reach d.t i b r h)

module _ (S : Query) (budget room : ℕ) (richer : S.budget ≤ budget) (roomier : S.room ≤ room) where
  abbrev L : Query
  L = larger S budget room

  -- nothing that is asked of a box, and no split, looks at either
  survives_same : (k : Depths) (b : Box) → survives L k b ≡ survives S k b
  unfolding survives least greatest over_corners
  survives_same k b = refl

  near_same : (k : Depths) (b : Box) → near L k b ≡ near S k b
  unfolding near excess width least greatest over_corners
  near_same k b = refl

  corner_same : (k : Depths) (b : Box) → corner L k b ≡ corner S k b
  unfolding corner excess
  corner_same k b = refl

  split_same : (k : Depths) → split L k ≡ split S k
  unfolding split spread
  split_same k = refl

  halves_same : (k : Depths) (p : Parameter) (l : List Box) → halves L k p l ≡ halves S k p l
  unfolding halves inside
  halves_same k p l = refl

  pub check_pair : (k : Depths) (boxes : List Box) (seen : Bool) (c : Corner) (n : ℕ) → n ≤ S.budget → Ahead k seen c boxes
      → Pair S (check S k boxes seen c n) (check L k boxes seen c n)
  unfolding check one_box first_survivor
  check_pair k [] seen c n le h = same (through n c []) le
  check_pair k (b ∷ bs) seen c n le h = over (eqb n S.budget) refl (λ lt s d g. check_pair k bs s d (n + 1) lt g)
    where
      on : Bool → Corner → Checked
      on s d = check S k bs s d (n + 1)

      on' : Bool → Corner → Checked
      on' s d = check L k bs s d (n + 1)

      Next : Type 0
      Next = (s : Bool) (d : Corner) → Ahead k s d bs → Pair S (on s d) (on' s d)

      first : (x y : Bool) → Next
          → Pair S (first_survivor x y (corner S k b) (n + 1) (on true)) (first_survivor x y (corner S k b) (n + 1) (on' true))
      first true y f = same (answered (with_count Met (corner S k b) (n + 1))) tt
      first false true f = same (answered (with_count Floor (corner S k b) (n + 1))) tt
      first false false f = f true (corner S k b) tt

      go : (alive seen : Bool) → Ahead k seen c (b ∷ bs) → Next → Pair S (one_box S k b false alive seen c n on) (one_box L k b false alive seen c n on')
      go false true h f = f true c tt
      go false false h f = f false c h.1
      go true true h f = keep_pair S b (f true c tt)
      go true false h f = rw (near_same k b, corner_same k b) (keep_pair S b (first (near S k b) (full S k) f))

      over : (x : Bool) → eqb n S.budget ≡ x → (n + 1 ≤ S.budget → Next)
          → Pair S (one_box S k b x (survives S k b) seen c n on) (one_box L k b (eqb n budget) (survives L k b) seen c n on')
      over true e f = less c n _ (check_reach L k (b ∷ bs) seen c n h)
      over false e f =
          let lt : n < S.budget = omega (arith, eqb-false n S.budget e) in
          rw (ne_eqb n budget (λ q. omega arith), survives_same k b) (go (survives S k b) seen h (f (omega arith)))

  -- ---- the levels
  module _ (go go' : Depths → List Box → Corner → ℕ → Answer)
      (ih : (k : Depths) (boxes : List Box) (c : Corner) (n : ℕ) → n ≤ S.budget → Ascending boxes → Every (Late k c.t) boxes → Better (go k boxes c n) (go' k boxes c n))
      (goes : Goes L go') where
    room_better : (x x' : Bool) (k : Depths) (new : List Box) (c : Corner) (n : ℕ) → (x ≡ true → x' ≡ true) → Better (go k new c n) (go' k new c n) → Since c.t n (go' k new c n)
        → Better (if_room x c n (go k new)) (if_room x' c n (go' k new))
    unfolding if_room
    room_better true x' k new c n f g h = rw (f refl) g
    room_better false x' k new c n f g h = room_since L x' c n (go' k new) h

    after_better : (k : Depths) (r r' : Checked) → Pair S r r' → Tidy k r' → Better (after_level S k go r) (after_level L k go' r')
    unfolding after_level
    after_better k _ _ (same (answered a) f) t = better_same a
    after_better k _ _ (same (through n c []) f) t = refl
    after_better k _ _ (same (through n c (b ∷ l)) f) t =
        let p = split S k in
        let new = halves S (deeper p k) p (b ∷ l) in
        let a : Ascending new = halves_ascending S k p (b ∷ l) t.0 in
        let h : Every (Late (deeper p k) c.t) new = halves_late S p k c.t (b ∷ l) t.1 in
        rw (split_same k, halves_same (deeper p k) p (b ∷ l))
        (room_better (leb (length new) S.room) (leb (length new) room) (deeper p k) new c n
        (λ e. le-leb (length new) room (omega (arith, leb-true (length new) S.room e)))
        (ih (deeper p k) new c n f a h) (goes (deeper p k) new c n a h))
    after_better k _ _ (less d i r h) t = after_since L k r d.t i go' h t goes

  pub levels_better : (m : ℕ) (k : Depths) (boxes : List Box) (c : Corner) (n : ℕ) → n ≤ S.budget → Ascending boxes → Every (Late k c.t) boxes
      → Better (levels m S k boxes c n) (levels m L k boxes c n)
  unfolding levels
  levels_better zero k boxes c n le a h = tt
  levels_better (suc m) k boxes c n le a h =
      after_better (levels m S) (levels m L) (levels_better m) (levels_since L m) k (check S k boxes false c n) (check L k boxes false c n)
      (check_pair k boxes false c n le h) (check_tidy L k boxes c n a)

  pub run_better : Better (run S) (run L)
  unfolding run
  run_better = levels_better 61 origin (origin ∷ []) (record { t = 0; u = 0; v = 0; excess = 0 }) 0 (omega arith) (tt, tt) (omega arith, tt)

  -- ---- the levels that both come to
  pub record Stands (m : ℕ) (k : Depths) (boxes : List Box) (c : Corner) (n : ℕ) : Type 0 where
    pub within : n ≤ S.budget
    pub ascending : Ascending boxes
    pub late : Every (Late k c.t) boxes
    pub comes : Comes L m k boxes c n

  abbrev Through : Checked → Type 0
  Through (answered a) = ⊥
  Through (through n c l) = Unit

  pair_through : (r r' : Checked) (i : ℕ) (d : Corner) (l : List Box) → Pair S r r' → r ≡ through i d l → (r' ≡ through i d l) × (i ≤ S.budget)
  pair_through _ _ i d l (same r f) e = (e, subst (Fits S) e f)
  pair_through _ _ i d l (less c j r h) e = absurd (subst Through (sym e) tt)

  -- a box that the first discarded, the second did
  pair_counted : (r r' : Checked) → Pair S r r' → counted r ≤ counted r'
  pair_counted _ _ (same r f) = le_refl (counted r)
  pair_counted _ _ (less c i (answered a) h) = h.1
  pair_counted _ _ (less c i (through n d l) h) = h.1

  take_more : (P : Box → Type 0) (i j : ℕ) (l : List Box) → i ≤ j → Some P (take i l) → Some P (take j l)
  take_more P zero j l h w = absurd w
  take_more P (suc i) zero l h w = absurd (omega arith)
  take_more P (suc i) (suc j) [] h w = w
  take_more P (suc i) (suc j) (b ∷ bs) h (inl w) = inl w
  take_more P (suc i) (suc j) (b ∷ bs) h (inr w) = inr (take_more P i j bs (omega arith) w)

  less_more : (i j n : ℕ) → i ≤ j → i - n ≤ j - n
  less_more i j n h = omega arith

  pub comes_too : (m : ℕ) (k : Depths) (boxes : List Box) (c : Corner) (n : ℕ) → Comes S m k boxes c n → Stands m k boxes c n
  comes_too m k boxes c n whole = record { within = omega arith; ascending = (tt, tt); late = (omega arith, tt); comes = whole }
  comes_too m' k' new d' i' (next m k boxes c n i d box rest w e t) =
      let s = comes_too (suc m) k boxes c n w in
      let p = split S k in
      let x = pair_through (check S k boxes false c n) (check L k boxes false c n) i d (box ∷ rest) (check_pair k boxes false c n s.within s.late) e in
      let y : Tidy k (through i d (box ∷ rest)) = subst (Tidy k) x.0 (check_tidy L k boxes c n s.ascending) in
      record {
        within = x.1;
        ascending = halves_ascending S k p (box ∷ rest) y.0;
        late = halves_late S p k d.t (box ∷ rest) y.1;
        comes = again i d box rest s.comes x.0 t;
      }
    where
      again : (i : ℕ) (d : Corner) (box : Box) (rest : List Box) → Comes L (suc m) k boxes c n → check L k boxes false c n ≡ through i d (box ∷ rest)
          → T (leb (length (halves S (deeper (split S k) k) (split S k) (box ∷ rest))) S.room)
          → Comes L m (deeper (split S k) k) (halves S (deeper (split S k) k) (split S k) (box ∷ rest)) d i
      again i d box rest w e t =
          let p = split S k in
          let size = length (halves S (deeper p k) p (box ∷ rest)) in
          let wide : T (leb size room) = rw (le-leb size room (omega (arith, leb→le size S.room t))) tt in
          rw (split_same k, halves_same (deeper p k) p (box ∷ rest)) at (next m k boxes c n i d box rest w e (rw (split_same k, halves_same (deeper p k) p (box ∷ rest)) wide))

  pub discarded_too : (k : Depths) (box : Box) → WasDiscarded S k box → WasDiscarded L k box
  discarded_too k box w =
      let s = comes_too (suc w.more) k w.boxes w.corner w.count w.comes in
      let r = check S k w.boxes false w.corner w.count in
      let r' = check L k w.boxes false w.corner w.count in
      let up : counted r ≤ counted r' = pair_counted r r' (check_pair k w.boxes false w.corner w.count s.within s.late) in
      record {
        more = w.more;
        boxes = w.boxes;
        corner = w.corner;
        count = w.count;
        comes = s.comes;
        checked = take_more (λ b. b ≡ box) _ _ w.boxes (less_more (counted r) (counted r') _ up) w.checked;
        lost = survives_same k box ∙ w.lost;
      }
