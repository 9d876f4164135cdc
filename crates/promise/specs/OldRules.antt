-- Document 01 as it stood before document 02, R-7 (no cap) and before R-4 (one separation d for all axes). It stands here for the laws at the end of this page, and
-- nowhere else; proofs/Old.antt proves them. What R-4 and R-7 left alone is cited from `rules`.
use Rattle.std.specs.Prelude.{ℕ, zero, suc, ◌+◌, ◌*◌, ◌-◌, ◌≡◌, Bool, true, false, not, ◌&&◌, ◌||◌, List, [], ◌∷◌, map, pos, neg_ℤ, nat_abs, length, leb, eqb}
use Rattle.std.specs.Int.Signed.{le_z}
use Rattle.rules.specs.declared.Record.{Record}
use Rattle.rules.specs.declared.Corner.{Corner}
use Rattle.rules.specs.declared.Parameter.{Parameter}
use Rattle.rules.specs.declared.Answer.{Answer}
use Rattle.rules.specs.declared.Answer.TheVariants.{Clear, Spent, Refused}
use Rattle.rules.specs.Numbers.{limits_of, parts, is_coordinate, is_separation, is_tolerance, is_budget, is_queue}
use Rattle.rules.specs.Refusals.{first, every}
use Rattle.rules.specs.Search.{Query, query, Box, Depths, low, unit, least, greatest, on_all, largest, width, round_up, with_count, Checked, answered, through, keep, first_survivor, full, check, split, deeper, low_half, high_half, those, merge, if_room, origin, unless, search}
use Rattle.rules.specs.QueryFile.{word, record_at}

-- ---- no cap: the levels of a question q

-- how the boxes of a level are checked
abbrev pub Checks : Type 0
Checks = Depths → List Box → Bool → Corner → ℕ → Checked

module _ (q : Query) where
  -- "For vertex-face a half whose low u plus low v exceeds 1 is dropped and never counted; equal to 1 stays."
  unfoldable pub on_face : Depths → Box → Bool
  on_face k box = not q.is_face || leb (low k.u box.u + low k.v box.v) parts

  unfoldable pub all_halves : Depths → Parameter → List Box → List Box
  all_halves k p boxes = merge (those (on_face k) (map (low_half p) boxes)) (those (on_face k) (map (high_half p) boxes))

  unfoldable pub old_after_level : Depths → (Depths → List Box → Corner → ℕ → Answer) → Checked → Answer
  old_after_level k go (answered a) = a
  old_after_level k go (through n c []) = Clear n
  old_after_level k go (through n c (box ∷ rest)) =
      let p : Parameter = split q k in
      let new : List Box = all_halves (deeper p k) p (box ∷ rest) in
      if_room (leb (length new) q.room) c n (go (deeper p k) new)

  unfoldable pub old_levels : Checks → ℕ → Depths → List Box → Corner → ℕ → Answer
  old_levels checks zero k boxes c n = Refused 0
  old_levels checks (suc m) k boxes c n = old_after_level k (old_levels checks m) (checks k boxes false c n)

  unfoldable pub old_run : Checks → Answer
  old_run checks = old_levels checks 61 origin (origin ∷ []) (record { t = 0; u = 0; v = 0; excess = 0 }) 0

-- ---- the search of a record before R-7: rows 1 to 7, "2 also for a word at 28 that isn't zero", and no cap
unfoldable pub uncapped_refusal : Record → ℕ → ℕ
uncapped_refusal r words =
    first
    (record { number = 1; due = not (eqb r.kind 1 || eqb r.kind 2) }
    ∷ record { number = 2; due = not (leb r.flags 1 && eqb r.byte2 0 && eqb r.byte3 0 && eqb r.cap 0) }
    ∷ record { number = 3; due = not (every (is_coordinate (limits_of r.edition)) r.points) }
    ∷ record { number = 4; due = not (is_separation r.dx && is_separation r.dy && is_separation r.dz) }
    ∷ record { number = 5; due = not (is_tolerance (limits_of r.edition) r.tolerance) }
    ∷ record { number = 6; due = not (is_budget r.budget) }
    ∷ record { number = 7; due = not (is_queue words) }
    ∷ [])

unfoldable pub uncapped_search : Record → ℕ → Answer
uncapped_search r words = unless (uncapped_refusal r words) (old_run (query r words) (check (query r words)))

-- ---- a question q with one separation d: q's own separations are not looked at
module _ (q : Query) (d : ℕ) where
  -- "The box survives when m is at most d and M at least -d on all three axes."
  unfoldable pub old_survives : Depths → Box → Bool
  old_survives k box = on_all (λ axis. le_z (least q k box axis) (pos (d * unit)) && le_z (neg_ℤ (pos (d * unit))) (greatest q k box axis))

  -- "The gap is the largest of |Fx|, |Fy|, |Fz|."
  abbrev pub old_gap : ℕ → ℕ → ℕ → ℕ
  old_gap a b c = largest (λ axis. nat_abs (q.gap axis parts a b c))

  -- "Its excess is gap minus d at that corner, zero if negative, rounded up to a whole unit."
  unfoldable pub old_excess : Depths → Box → ℕ
  old_excess k box = round_up (old_gap (low k.t box.t) (low k.u box.u) (low k.v box.v) - d * unit)

  unfoldable pub old_corner : Depths → Box → Corner
  old_corner k box = record { t = low k.t box.t; u = low k.u box.u; v = low k.v box.v; excess = old_excess k box }

  -- "excess 0, or width at most the tolerance"
  unfoldable pub old_near : Depths → Box → Bool
  old_near k box = eqb (old_excess k box) 0 || leb (width q k box) (q.tolerance * unit)

  -- one box, and a level's boxes from first to last, as `one_box` and `check` of rules
  unfoldable pub old_one_box : Depths → Box → Bool → Bool → Bool → Corner → ℕ → (Bool → Corner → Checked) → Checked
  old_one_box k box true alive seen c n on = answered (with_count Spent c n)
  old_one_box k box false false seen c n on = on seen c
  old_one_box k box false true true c n on = keep box (on true c)
  old_one_box k box false true false c n on = keep box (first_survivor (old_near k box) (full q k) (old_corner k box) (n + 1) (on true))

  unfoldable pub old_check : Depths → List Box → Bool → Corner → ℕ → Checked
  old_check k [] seen c n = through n c []
  old_check k (box ∷ rest) seen c n =
      old_one_box k box (eqb n q.budget) (old_survives k box) seen c n (λ s e. old_check k rest s e (n + 1))

-- ---- the search of a record with one separation and no cap: those of r are not looked at

-- rows 1 to 7 of document 01's table
unfoldable pub old_refusal : Record → ℕ → ℕ → ℕ
old_refusal r d words =
    first
    (record { number = 1; due = not (eqb r.kind 1 || eqb r.kind 2) }
    ∷ record { number = 2; due = not (leb r.flags 1 && eqb r.byte2 0 && eqb r.byte3 0) }
    ∷ record { number = 3; due = not (every (is_coordinate (limits_of 1)) r.points) }
    ∷ record { number = 4; due = not (is_separation d) }
    ∷ record { number = 5; due = not (is_tolerance (limits_of 1) r.tolerance) }
    ∷ record { number = 6; due = not (is_budget r.budget) }
    ∷ record { number = 7; due = not (is_queue words) }
    ∷ [])

unfoldable pub old_search : Record → ℕ → ℕ → Answer
old_search r d words = unless (old_refusal r d words) (old_run (query r words) (old_check (query r words) d))

-- ---- "0 means the whole step" (document 02, R-7)

-- a record with cap 0, of any edition, is answered as the rules before R-7 answered it
abbrev pub Cap0AsBefore : Type 0
Cap0AsBefore = (r : Record) (words : ℕ) → r.cap ≡ 0 → search r words ≡ uncapped_search r words

-- ---- "An edition 1 record means three equal separations." (document 02, R-4)

-- a record with three equal separations and cap 0 is answered as the old rules answer it with that one
abbrev pub ThreeEqual : Type 0
ThreeEqual = (r : Record) (d words : ℕ) → r.dx ≡ d → r.dy ≡ d → r.dz ≡ d → r.cap ≡ 0 → limits_of r.edition ≡ limits_of 1 → search r words ≡ old_search r d words

-- so is an edition 1 record wherever it stands, with its "separation (8)"
abbrev pub Edition1AsBefore : Type 0
Edition1AsBefore = (s : List ℕ) (at words : ℕ) → search (record_at 1 s at) words ≡ old_search (record_at 1 s at) (word s (at + 8)) words
