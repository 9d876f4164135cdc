-- The search, level by level: what holds of a level holds of the next, and so every answer is kept; 61 levels are enough.
use mathlib.Core.Path.{◌≡◌, refl, sym, ap, ◌∙◌}
use mathlib.Core.Logic.{inl, inr}
use mathlib.Core.Bool.{Bool, true, false, not}
use mathlib.Core.List.{List, [], ◌∷◌}
use Prim.Native.Nat.{ℕ, zero, suc, ◌+◌, ◌*◌, ◌-◌, ◌^◌, ◌≤◌, ◌<◌}
use native.Mathlib.Nat.{le_trans, le_refl, mul_assoc, mul_comm, mul-le-mul_right}
use native.Mathlib.Omega.{arith}
use lib.IntN.{nat_abs}
use lib.Pow.{pow-add}
use lib.ListN.{length}
use lib.Dec.{T, leb}
use Rattle.rules.specs.declared.Corner.{Corner}
use Rattle.rules.specs.declared.Answer.{Answer}
use Rattle.rules.specs.declared.Answer.TheVariants.{Met, Clear, Spent, Room, Floor, Refused}
use Rattle.rules.specs.Numbers.{parts}
use Rattle.rules.specs.declared.Axis.{Axis}
use Rattle.rules.specs.Gap.{Place}
use Rattle.rules.specs.Search.{Query, Box, Depths, side, low, unit, survives, corner, full, Checked, check, those, split, deeper, halves, inside, if_room, after_level, levels, origin, run}
use Rattle.kernel.specs.Ranges.{InGrid}
use Rattle.promise.proofs.Box.{Between, In, HasKernel}
use Rattle.promise.proofs.Survive.{Close, close_survives}
use Rattle.promise.proofs.Lists.{Every, Some, From, Ascending, later_t, every_weaken, some_weaken, those_every, those_some, those_ascending}
use Rattle.promise.proofs.Split.{Shallow, at, split_open, deeper_shallow, sum, deeper_sum}
use Rattle.promise.proofs.Domain.{Domain, low_domain, origin_inside}
use Rattle.promise.proofs.Halves.{halves_ascending, halves_grid, halves_some}
use Rattle.promise.proofs.First.{Outcome, early, none, met, floor, spent, some, check_first}
use Rattle.promise.proofs.Corner.{low_size, near_excess}

-- ---- what holds of an answer
module _ (S : Query) where
  -- in the finest sides
  abbrev pub Sides : ℕ → Type 0
  Sides n = (m : ℕ) × (n ≡ m * side S.deepest)

  -- the low corner of a box of the search, with the excess there
  pub record Cornered (t u v excess : ℕ) : Type 0 where
    pub depths : Depths
    pub index : Box
    pub shallow : Shallow S depths
    pub grid : InGrid depths index
    pub is : corner S depths index ≡ record { t = t; u = u; v = v; excess = excess }

  pub record Moment (t u v excess : ℕ) : Type 0 where
    pub no_earlier : (m : Place) → Domain S m → Close S m → t * m.q ≤ m.a * parts
    pub domain : Domain S (record { q = parts; a = t; b = u; c = v })
    pub size : (axis : Axis) → nat_abs (S.gap axis parts t u v) ≤ (S.separation axis + excess) * unit
    pub sides : Sides t × (Sides u × Sides v)
    pub cornered : Cornered t u v excess

  abbrev pub Kept : Answer → Type 0
  Kept (Met t u v excess n) = Moment t u v excess × (excess ≤ S.tolerance)
  Kept (Clear n) = (m : Place) → Domain S m → Close S m → ⊥
  Kept (Spent t u v excess n) = Moment t u v excess
  Kept (Room t u v excess n) = Moment t u v excess
  Kept (Floor t u v excess n) = Moment t u v excess
  Kept (Refused n) = ⊥

  abbrev pub Recorded : Corner → Type 0
  Recorded c = Moment c.t c.u c.v c.excess

-- ---- what holds of a level: every place that is close to contact lies in one of its boxes
pub record Level (S : Query) (k : Depths) (boxes : List Box) : Type 0 where
  pub shallow : Shallow S k
  pub ascending : Ascending boxes
  pub grid : Every (λ b. InGrid k b × T (inside S k b)) boxes
  pub cover : (m : Place) → Domain S m → Close S m → Some (λ b. In k b m) boxes

module _ (S : Query) (H : HasKernel S) (deep : S.deepest ≤ 20) where
  -- its survivors will do
  survivors : (k : Depths) (boxes : List Box) → Level S k boxes → Level S k (those (survives S k) boxes)
  survivors k boxes L =
      record {
        shallow = L.shallow;
        ascending = those_ascending (survives S k) boxes L.ascending;
        grid = every_weaken (λ b h. h.0) (those (survives S k) boxes) (those_every (λ b. InGrid k b × T (inside S k b)) (survives S k) boxes L.grid);
        cover = λ m d close. those_some (λ b. In k b m) (survives S k) boxes (some_weaken (λ b w. (w, close_survives S H k b m d.positive w close)) boxes (L.cover m d close));
      }

  alive : (k : Depths) (boxes : List Box) → Level S k boxes → Every (λ b. T (survives S k b)) (those (survives S k) boxes)
  alive k boxes L = every_weaken (λ b h. h.1) (those (survives S k) boxes) (those_every (λ b. InGrid k b × T (inside S k b)) (survives S k) boxes L.grid)

  -- the low corner of the first box
  not_before : (k : Depths) (n : ℕ) (m : Place) (l : List Box) → From n l → Some (λ b. In k b m) l → low k.t n * m.q ≤ m.a * parts
  not_before k n m [] f x'' = elim x'' [ ]
  not_before k n m (b ∷ bs) f (inl w) =
      le_trans (mul-le-mul_right m.q (mul-le-mul_right (side k.t) f.0)) (omega (arith, w.t.above, mul_comm m.q (low k.t b.t), mul_comm parts m.a))
  not_before k n m (b ∷ bs) f (inr w) = not_before k n m bs f.1 w

  -- its ends are whole numbers of the finest sides
  low_sides : {k : ℕ} (i : ℕ) → k ≤ S.deepest → Sides S (low k i)
  low_sides {k} i h =
      let e : 20 - k ≡ (S.deepest - k) + (20 - S.deepest) = omega (arith, deep) in
      (i * 2 ^ (S.deepest - k), ap (λ (n : ℕ). i * n) (ap (λ (n : ℕ). 2 ^ n) e ∙ pow-add 2 (S.deepest - k) (20 - S.deepest)) ∙ sym (mul_assoc i (2 ^ (S.deepest - k)) (side S.deepest)))

  first_recorded : (k : Depths) (b : Box) (l : List Box) → Level S k (b ∷ l) → Recorded S (corner S k b)
  unfolding corner
  first_recorded k b l L =
      record {
        no_earlier = λ m d close. not_before k b.t m (b ∷ l) (le_refl b.t, later_t b l L.ascending.0) (L.cover m d close);
        domain = low_domain S k b deep L.shallow L.grid.0.0 L.grid.0.1;
        size = low_size S k b;
        sides = (low_sides b.t L.shallow.t, (low_sides b.u L.shallow.u, low_sides b.v L.shallow.v));
        cornered = record { depths = k; index = b; shallow = L.shallow; grid = L.grid.0.0; is = refl };
      }

  -- the level after it
  next_level : (k : Depths) (l : List Box) → T (not (full S k)) → Level S k l → Level S (deeper (split S k) k) (halves S (deeper (split S k) k) (split S k) l)
  next_level k l nf L =
      record {
        shallow = deeper_shallow S k L.shallow nf (split S k) open';
        ascending = halves_ascending S k (split S k) l L.ascending;
        grid = halves_grid S k (split S k) l (every_weaken (λ b h. h.0) l L.grid);
        cover = λ m d close. halves_some S k (split S k) l m d (le_trans open' deep) (L.cover m d close);
      }
    where
      open' : at (split S k) k < S.deepest
      open' = split_open S k L.shallow nf

  room_kept : (x : Bool) (c : Corner) (n : ℕ) (go : Corner → ℕ → Answer) → Recorded S c → Kept S (go c n) → Kept S (if_room x c n go)
  unfolding if_room
  room_kept true c n go h g = g
  room_kept false c n go h g = h

  -- l are the survivors; `first`: a corner is recorded, where the budget ends before the first of them; `next`: the levels after this one
  after_kept : (k : Depths) (c : Corner) (n boxes : ℕ) (l : List Box) (r : Checked) (go : Depths → List Box → Corner → ℕ → Answer)
      → Outcome S k c n boxes l r
      → Level S k l
      → Every (λ b. T (survives S k b)) l
      → ((i : ℕ) → i < n + boxes → i ≡ S.budget → Recorded S c)
      → ((k' : Depths) (new : List Box) (c' : Corner) (n' : ℕ) → Level S k' new → Recorded S c' → sum k' ≡ sum k + 1 → Kept S (go k' new c' n'))
      → Kept S (after_level S k go r)
  unfolding after_level corner
  after_kept k c n boxes l r go (early i h e) L A first next = first i h e
  after_kept k c n boxes l r go (none i) L A first next = L.cover
  after_kept k c n boxes l r go (met b bs i h) L A first next = (first_recorded k b bs L, near_excess S k b A.0 h)
  after_kept k c n boxes l r go (floor b bs i h) L A first next = first_recorded k b bs L
  after_kept k c n boxes l r go (spent b bs i) L A first next = first_recorded k b bs L
  after_kept k c n boxes l r go (some b bs i h) L A first next =
      room_kept (leb (length new) S.room) (corner S k b) i (go (deeper (split S k) k) new) (first_recorded k b bs L)
      (next (deeper (split S k) k) new (corner S k b) i (next_level k (b ∷ bs) h L) (first_recorded k b bs L) (deeper_sum (split S k) k))
    where
      new : List Box
      new = halves S (deeper (split S k) k) (split S k) (b ∷ bs)

  levels_kept : (f : ℕ) (k : Depths) (boxes : List Box) (c : Corner) (n : ℕ)
      → 3 * S.deepest < f + sum k
      → Level S k boxes
      → ((i : ℕ) → i < n + length boxes → i ≡ S.budget → Recorded S c)
      → Kept S (levels f S k boxes c n)
  unfolding levels
  levels_kept zero k boxes c n fuel L first = absurd (omega (arith, L.shallow.t, L.shallow.u, L.shallow.v))
  levels_kept (suc f) k boxes c n fuel L first =
      after_kept k c n (length boxes) (those (survives S k) boxes) (check S k boxes false c n) (levels f S)
      (check_first S k boxes c n) (survivors k boxes L) (alive k boxes L) first
      (λ k' new c' n' L' h e. levels_kept f k' new c' n' (omega arith) L' (λ i p q. h))

  -- ---- level 0
  whole : (q a : ℕ) → a ≤ q → Between q 0 0 a
  whole q a h = record { above = omega arith; under = omega arith }

  level_0 : Level S origin (origin ∷ [])
  level_0 =
      record {
        shallow = record { t = omega arith; u = omega arith; v = omega arith };
        ascending = (tt, tt);
        grid = ((record { t = omega arith; u = omega arith; v = omega arith }, origin_inside S), tt);
        cover = λ m d close. inl (record { t = whole m.q m.a d.t; u = whole m.q m.b d.u; v = whole m.q m.c d.v });
      }

  pub run_kept : 0 < S.budget → Kept S (run S)
  unfolding run
  run_kept h = levels_kept 61 origin (origin ∷ []) (record { t = 0; u = 0; v = 0; excess = 0 }) 0 (omega arith) level_0 (λ i p e. absurd (omega arith))
