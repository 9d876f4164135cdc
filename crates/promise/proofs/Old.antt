-- What the old rules gave, the search of a record with cap 0 gives, and with one separation that of three equal ones: OldRules' laws. Assumes nothing.
use Prim.Native.Nat.{ℕ, zero, suc, ◌+◌, ◌*◌, ◌-◌, ◌≤◌, max}
use mathlib.Core.Path.{◌≡◌, refl, ap, ◌∙◌}
use mathlib.Core.Bool.{Bool, true, false, not, cond, ◌&&◌, ◌||◌, and-true}
use mathlib.Core.List.{List, [], ◌∷◌, map}
use native.Mathlib.Nat.{le_trans}
use borrow.Author.Tests.{le-leb}
use native.Mathlib.Omega.{arith}
use lib.IntN.{pos, neg_ℤ, nat_abs}
use lib.Signed.{le_z}
use lib.ListN.{length}
use lib.Dec.{leb, eqb}
use Rattle.rules.specs.declared.Record.{Record}
use Rattle.rules.specs.declared.Corner.{Corner}
use Rattle.rules.specs.declared.Parameter.{Parameter}
use Rattle.rules.specs.Numbers.{limits_of, parts, is_separation, is_cap, last_moment}
use Rattle.rules.specs.declared.Axis.{Axis}
use Rattle.rules.specs.declared.Axis.TheVariants.{X, Y, Z}
use Rattle.rules.specs.Gap.{separation_on}
use Rattle.rules.specs.Refusals.{first, search_refusal}
use Rattle.rules.specs.Search.{Query, query, Box, Depths, low, unit, least, greatest, on_all, largest, width, round_up, excess, corner, near, survives, Checked, keep, first_survivor, full, one_box, check, those, merge, split, deeper, low_half, high_half, inside, halves, if_room, after_level, levels, run, origin, unless, search}
use Rattle.rules.specs.QueryFile.{word, record_by, record_at}
use Rattle.promise.specs.OldRules.{old_survives, old_excess, old_corner, old_near, old_one_box, old_check, on_face, all_halves, old_after_level, old_levels, old_run, uncapped_refusal, uncapped_search, old_refusal, old_search, Cap0AsBefore, ThreeEqual, Edition1AsBefore}
use Rattle.kernel.specs.Ranges.{InGrid, editions_deep}
use Rattle.promise.proofs.Lists.{Every, every_weaken, those_every, map_every}
use Rattle.promise.proofs.Split.{Shallow, split_open, deeper_shallow}
use Rattle.promise.proofs.Domain.{low_parts}
use Rattle.promise.proofs.Halves.{low_grid, high_grid, halves_grid}
use Rattle.promise.proofs.First.{Outcome, early, none, met, floor, spent, some, check_first}

-- the largest of three numbers less one is the largest, less it
largest_less : (f : Axis → ℕ) (m : ℕ) → largest (λ axis. f axis - m) ≡ largest f - m
largest_less f m = ap (max (f X - m)) (less (f Y) (f Z)) ∙ less (f X) (max (f Y) (f Z))
  where
    less : (x y : ℕ) → max (x - m) (y - m) ≡ max x y - m
    less x y = omega arith

-- ---- the whole step: no half is beyond it
module _ (q : Query) (deep : q.deepest ≤ 20) (whole : q.last ≡ parts) where
  inside_old : (k : Depths) (b : Box) → k.t ≤ 20 → InGrid k b → inside q k b ≡ on_face q k b
  unfolding inside on_face
  inside_old k b h g =
      ap (λ (x : Bool). x && (not q.is_face || leb (low k.u b.u + low k.v b.v) parts))
      (ap (λ (n : ℕ). leb (low k.t b.t) n) whole ∙ le-leb (low k.t b.t) parts (low_parts k.t b.t h g.t))

  those_old : (k : Depths) (l : List Box) → k.t ≤ 20 → Every (InGrid k) l → those (inside q k) l ≡ those (on_face q k) l
  unfolding those
  those_old k [] h g = refl
  those_old k (b ∷ bs) h g = λ i. cond (inside_old k b h g.0 i) (b ∷ those_old k bs h g.1 i) (those_old k bs h g.1 i)

  halves_old : (p : Parameter) (k : Depths) (l : List Box) → (deeper p k).t ≤ 20 → Every (InGrid k) l → halves q (deeper p k) p l ≡ all_halves q (deeper p k) p l
  unfolding halves all_halves
  halves_old p k l h g =
      λ i. merge
      (those_old (deeper p k) (map (low_half p) l) h (map_every (InGrid k) (InGrid (deeper p k)) (low_half p) (λ b. low_grid p k b) l g) i)
      (those_old (deeper p k) (map (high_half p) l) h (map_every (InGrid k) (InGrid (deeper p k)) (high_half p) (λ b. high_grid p k b) l g) i)

  -- l are the survivors; `next`: the levels after this one
  after_old : (m : ℕ) (k : Depths) (c : Corner) (n boxes : ℕ) (l : List Box) (r : Checked) → Outcome q k c n boxes l r → Shallow q k → Every (InGrid k) l
      → ((k' : Depths) (new : List Box) (c' : Corner) (n' : ℕ) → Shallow q k' → Every (InGrid k') new → levels m q k' new c' n' ≡ old_levels q (check q) m k' new c' n')
      → after_level q k (levels m q) r ≡ old_after_level q k (old_levels q (check q) m) r
  unfolding after_level old_after_level
  after_old m k c n boxes l r (early i h f) s g next = refl
  after_old m k c n boxes l r (none i) s g next = refl
  after_old m k c n boxes l r (met b bs i h) s g next = refl
  after_old m k c n boxes l r (floor b bs i h) s g next = refl
  after_old m k c n boxes l r (spent b bs i) s g next = refl
  after_old m k c n boxes l r (some b bs i h) s g next =
      (λ j. if_room (leb (length new) q.room) (corner q k b) i (λ c' n'. next (deeper p k) new c' n' still grid j))
      ∙ ap (λ (bs' : List Box). if_room (leb (length bs') q.room) (corner q k b) i (old_levels q (check q) m (deeper p k) bs')) (halves_old p k (b ∷ bs) (le_trans still.t deep) g)
    where
      p : Parameter
      p = split q k

      new : List Box
      new = halves q (deeper p k) p (b ∷ bs)

      still : Shallow q (deeper p k)
      still = deeper_shallow q k s h p (split_open q k s h)

      grid : Every (InGrid (deeper p k)) new
      grid = every_weaken (λ b x. x.0) new (halves_grid q k p (b ∷ bs) g)

  levels_old : (m : ℕ) (k : Depths) (boxes : List Box) (c : Corner) (n : ℕ) → Shallow q k → Every (InGrid k) boxes → levels m q k boxes c n ≡ old_levels q (check q) m k boxes c n
  unfolding levels old_levels
  levels_old zero k boxes c n s g = refl
  levels_old (suc m) k boxes c n s g =
      after_old m k c n (length boxes) (those (survives q k) boxes) (check q k boxes false c n) (check_first q k boxes c n) s
      (every_weaken (λ b x. x.0) (those (survives q k) boxes) (those_every (InGrid k) (survives q k) boxes g))
      (λ k' new c' n' s' g'. levels_old m k' new c' n' s' g')

  run_old : run q ≡ old_run q (check q)
  unfolding run old_run
  run_old =
      levels_old 61 origin (origin ∷ []) (record { t = 0; u = 0; v = 0; excess = 0 }) 0
      (record { t = omega arith; u = omega arith; v = omega arith }) (record { t = omega arith; u = omega arith; v = omega arith }, tt)

-- ---- a question whose three separations are d
module _ (q : Query) (d : ℕ) (e : (axis : Axis) → q.separation axis ≡ d) where
  survives_old : (k : Depths) (box : Box) → survives q k box ≡ old_survives q d k box
  unfolding survives old_survives
  survives_old k box = λ i. on_all (λ axis. le_z (least q k box axis) (pos (e axis i * unit)) && le_z (neg_ℤ (pos (e axis i * unit))) (greatest q k box axis))

  excess_old : (k : Depths) (box : Box) → excess q k box ≡ old_excess q d k box
  unfolding excess old_excess
  excess_old k box =
      let size : Axis → ℕ = λ axis. nat_abs (q.gap axis parts (low k.t box.t) (low k.u box.u) (low k.v box.v)) in
      (λ i. round_up (largest (λ axis. size axis - e axis i * unit))) ∙ ap round_up (largest_less size (d * unit))

  corner_old : (k : Depths) (box : Box) → corner q k box ≡ old_corner q d k box
  unfolding corner old_corner
  corner_old k box = λ i. record { t = low k.t box.t; u = low k.u box.u; v = low k.v box.v; excess = excess_old k box i }

  near_old : (k : Depths) (box : Box) → near q k box ≡ old_near q d k box
  unfolding near old_near
  near_old k box = λ i. eqb (excess_old k box i) 0 || leb (width q k box) (q.tolerance * unit)

  one_old : (k : Depths) (box : Box) (stop alive seen : Bool) (c : Corner) (n : ℕ) (on on' : Bool → Corner → Checked) → ((s : Bool) (b : Corner) → on s b ≡ on' s b)
      → one_box q k box stop alive seen c n on ≡ old_one_box q d k box stop alive seen c n on'
  unfolding one_box old_one_box
  one_old k box true alive seen c n on on' p = refl
  one_old k box false false seen c n on on' p = p seen c
  one_old k box false true true c n on on' p = ap (keep box) (p true c)
  one_old k box false true false c n on on' p = λ i. keep box (first_survivor (near_old k box i) (full q k) (corner_old k box i) (n + 1) (λ b. p true b i))

  check_old : (k : Depths) (boxes : List Box) (seen : Bool) (c : Corner) (n : ℕ) → check q k boxes seen c n ≡ old_check q d k boxes seen c n
  unfolding check old_check
  check_old k [] seen c n = refl
  check_old k (box ∷ rest) seen c n =
      ap (λ (alive : Bool). one_box q k box (eqb n q.budget) alive seen c n (λ s b. check q k rest s b (n + 1))) (survives_old k box)
      ∙ one_old k box (eqb n q.budget) (old_survives q d k box) seen c n _ _ (λ s b. check_old k rest s b (n + 1))

-- ---- a record with cap 0
module _ (r : Record) (words : ℕ) (cap : r.cap ≡ 0) where
  cap_old : is_cap r.cap ≡ true
  cap_old = ap is_cap cap

  flags_old : (b : Bool) → (b && eqb r.cap 0) ≡ b
  flags_old b = ap (λ (n : ℕ). b && eqb n 0) cap ∙ and-true b

  pub refusal_before : search_refusal r words ≡ uncapped_refusal r words
  unfolding search_refusal uncapped_refusal first
  refusal_before = rw (cap_old, flags_old (leb r.flags 1 && eqb r.byte2 0 && eqb r.byte3 0))

  pub search_before : search r words ≡ uncapped_search r words
  unfolding search uncapped_search
  search_before = λ i. unless (refusal_before i) (run_old (query r words) (editions_deep (eqb r.edition 3)) (ap last_moment cap) i)

pub cap_0_as_before : Cap0AsBefore
cap_0_as_before r words cap = search_before r words cap

-- ---- and with three equal separations
module _ (r : Record) (d words : ℕ) (x : r.dx ≡ d) (y : r.dy ≡ d) (z : r.dz ≡ d) (cap : r.cap ≡ 0) (limits : limits_of r.edition ≡ limits_of 1) where
  separation_old : (axis : Axis) → separation_on r axis ≡ d
  separation_old X = x
  separation_old Y = y
  separation_old Z = z

  three : (b : Bool) → (b && b && b) ≡ b
  three true = refl
  three false = refl

  range_old : (is_separation r.dx && is_separation r.dy && is_separation r.dz) ≡ is_separation d
  range_old = (λ i. is_separation (x i) && is_separation (y i) && is_separation (z i)) ∙ three (is_separation d)

  refusal_old : uncapped_refusal r words ≡ old_refusal r d words
  unfolding uncapped_refusal old_refusal first
  refusal_old = rw (limits, flags_old r words cap (leb r.flags 1 && eqb r.byte2 0 && eqb r.byte3 0), range_old)

  search_old : search r words ≡ old_search r d words
  unfolding uncapped_search old_search
  search_old =
      search_before r words cap
      ∙ λ i. unless (refusal_old i) (old_run (query r words) (λ k boxes seen c n. check_old (query r words) d separation_old k boxes seen c n i))

pub three_equal : ThreeEqual
three_equal r d words x y z cap limits = search_old r d words x y z cap limits

pub edition_1_as_before : Edition1AsBefore
unfolding record_by
edition_1_as_before s at words = search_old (record_at 1 s at) (word s (at + 8)) words refl refl refl refl refl
