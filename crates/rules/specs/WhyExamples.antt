-- Worked rows of document 02, R-8, of the written rules: points at the berth examples, and what rules them out.
use Rattle.std.specs.Prelude.{ℕ, ◌≡◌, refl, List, [], ◌∷◌, ◌++◌, map, ℤ, pos}
use Rattle.rules.specs.declared.Record.{Record}
use Rattle.rules.specs.declared.Three.{Three}
use Rattle.rules.specs.declared.Axis.{Axis}
use Rattle.rules.specs.declared.Axis.TheVariants.{X, Y, Z}
use Rattle.rules.specs.declared.Side.{Side}
use Rattle.rules.specs.declared.Side.TheVariants.{Below, Above}
use Rattle.rules.specs.declared.Ruling.{Ruling}
use Rattle.rules.specs.declared.Ruling.TheVariants.{Discarded, Refused}
use Rattle.rules.specs.Gap.{moving, vertex_face, edge_edge, gap_on, negate_from, sided}
use Rattle.rules.specs.Refusals.{first, every, search_refusal}
use Rattle.rules.specs.Search.{search, run, levels, after_level, if_room, halves, merge, take_in, not_after, those, inside, split, winner, spread, check, one_box, near, first_survivor, corner, excess, width, survives, least, greatest, over_corners, unless}
use Rattle.rules.specs.Why.{in_domain, is_before, goes_up, holding, miss_on, missed, descend, why_refusal, unless_why, why_search, why_queue_after, told_why}
use Rattle.rules.specs.Berth.{asked, apartly, minus, point, T, p_t, still, past_t, edges, below_flag, ranged, far_falling, up_to}

pub record Row : Type 0 where
  pub query : Record
  pub words : ℕ
  pub at : Three
  pub answer : Ruling

abbrev pub row : Record → ℕ → ℕ → ℕ → ℕ → Ruling → Row
row q n t u v a = record { query = q; words = n; at = record { t = t; u = u; v = v }; answer = a }

-- columns: level, depths, box, axis, side
abbrev pub named : ℕ → ℕ → ℕ → ℕ → ℕ → ℕ → ℕ → Axis → Side → Ruling
named level kt ku kv t u v axis side =
    Discarded (record { level = level; depths = record { t = kt; u = ku; v = kv }; index = record { t = t; u = u; v = v }; axis = axis; side = side })

-- P with T: MET 262144 with a tolerance of 999, MET 516096 with one of 16; SPENT 458752 where the budget ends inside a level
abbrev pub first_case : Record
first_case = asked 1 0 0 999 1000 p_t

abbrev pub fine_case : Record
fine_case = asked 1 0 0 16 1000 p_t

abbrev pub spent_case : Record
spent_case = asked 1 0 0 100 30 p_t

-- a point that stands still by T; (150,150,0) is the CLEAR of count 10
abbrev pub beside : ℤ → ℤ → ℤ → Record
beside x y z = asked 1 0 0 16 1000 (still (point x y z ++ T))

abbrev pub clear_case : Record
clear_case = beside (pos 150) (pos 150) (pos 0)

-- P rising to 200 below T, with a separation of 199 in z
abbrev pub rising : Record
rising = apartly 1 0 0 199 999 0 (past_t (point (pos 0) (pos 0) (minus 1000)) (point (pos 0) (pos 0) (minus 200)))

-- the edges that cross, without a separation: MET 458752
abbrev pub edge_case : Record
edge_case = asked 2 0 0 16 1000 edges

abbrev pub rows : List Row
rows =
    row first_case 4096 0 0 0 (named 2 2 0 0 0 0 0 Z Above)
    ∷ row first_case 4096 262143 524288 524288 (named 2 2 0 0 0 0 0 Z Above)
    ∷ row first_case 4096 262144 0 0 (Refused 24)
    ∷ row first_case 4096 0 524288 524289 (Refused 23)
    ∷ row first_case 4096 1048577 0 0 (Refused 23)
    ∷ row first_case 4096 4294967295 1 0 (Refused 23)
    ∷ row first_case 1 1048577 0 0 (Refused 7)
    ∷ row first_case 2 0 0 0 (Refused 24)
    ∷ row fine_case 4096 500000 0 0 (named 10 5 3 2 15 0 0 X Above)
    ∷ row fine_case 4096 516095 229376 229376 (named 15 7 4 4 62 3 3 Z Above)
    ∷ row spent_case 4096 393215 0 0 (named 3 3 0 0 2 0 0 Z Above)
    ∷ row spent_case 4096 393216 0 0 (named 6 4 1 1 6 0 0 Z Above)
    ∷ row spent_case 4096 458751 262144 262144 (named 6 4 1 1 6 0 0 Z Above)
    ∷ row clear_case 4096 0 0 0 (named 1 0 1 0 0 0 0 X Above)
    ∷ row clear_case 4096 1048576 1048576 0 (named 2 0 1 1 0 1 0 Y Above)
    ∷ row clear_case 4096 0 524288 524288 (named 7 0 4 3 0 8 4 X Above)
    ∷ row clear_case 4096 0 524287 524288 (named 1 0 1 0 0 0 0 X Above)
    ∷ row clear_case 4096 524288 655360 393216 (named 2 0 1 1 0 1 0 Y Above)
    ∷ row clear_case 4096 0 1048576 1 (Refused 23)
    ∷ row (beside (minus 101) (pos 0) (pos 7)) 4096 0 0 0 (named 0 0 0 0 0 0 0 X Below)
    ∷ row (beside (minus 101) (pos 0) (pos 7)) 4096 1048576 524288 524288 (named 0 0 0 0 0 0 0 X Below)
    ∷ row (beside (minus 101) (pos 301) (minus 7)) 4096 0 0 0 (named 0 0 0 0 0 0 0 X Below)
    ∷ row (beside (pos 0) (pos 301) (minus 7)) 4096 0 0 0 (named 0 0 0 0 0 0 0 Y Above)
    ∷ row rising 4096 1048576 0 1048576 (named 0 0 0 0 0 0 0 Z Below)
    ∷ row edge_case 4096 262144 524288 524288 (named 7 3 2 2 2 2 2 Z Above)
    ∷ row edge_case 4096 393215 1048576 0 (named 5 2 2 1 1 3 0 X Above)
    ∷ row (asked 1 0 0 999 1000 below_flag) 4096 0 0 0 (named 0 0 0 0 0 0 0 Y Above)
    ∷ row (asked 1 1 0 999 1000 below_flag) 4096 0 0 0 (Refused 24)
    ∷ row (ranged 3 999 p_t) 4096 262143 524288 524288 (named 2 2 0 0 0 0 0 Z Above)
    ∷ row (ranged 3 1048576 (far_falling 2097152)) 4096 0 0 0 (named 4 2 1 1 0 0 0 Z Above)
    ∷ row (ranged 3 1048576 (far_falling 2097152)) 4096 262143 0 524288 (named 4 2 1 1 0 0 1 Z Above)
    ∷ row (ranged 3 1048576 (far_falling 2097152)) 4096 262144 0 0 (Refused 24)
    ∷ row (ranged 2 1048576 (far_falling 2097152)) 4096 0 0 0 (Refused 3)
    -- up to the cap a point of a CLEAR has its box; beyond it, 23 (document 02, R-7)
    ∷ row (up_to 999 1000 262143) 4096 0 0 0 (named 2 2 0 0 0 0 0 Z Above)
    ∷ row (up_to 999 1000 262143) 4096 262143 0 0 (named 2 2 0 0 0 0 0 Z Above)
    ∷ row (up_to 999 1000 262143) 4096 262144 0 0 (Refused 23)
    ∷ row (up_to 100 1000 262144) 4096 262143 0 0 (named 2 2 0 0 0 0 0 Z Above)
    ∷ row (up_to 100 1000 262144) 4096 262144 0 0 (named 3 3 0 0 2 0 0 Z Above)
    ∷ row (up_to 100 1000 262144) 4096 262145 0 0 (Refused 23)
    ∷ row (up_to 999 1000 1048577) 1 0 0 0 (Refused 22)
    ∷ []

pub why_rows : map (λ (r : Row). why_search r.query r.words r.at) rows ≡ map (λ (r : Row). r.answer) rows
unfolding why_search unless_why why_refusal in_domain is_before descend missed miss_on holding goes_up search run levels after_level if_room halves merge take_in not_after those inside split winner spread check one_box near first_survivor corner excess width survives least greatest over_corners unless first every search_refusal moving vertex_face edge_edge gap_on negate_from sided
why_rows = refl

-- the nine numbers of three answers, and none of a refusal
pub told_rows :
    map told_why (named 10 5 3 2 15 0 0 X Above ∷ named 2 0 1 1 0 1 0 Y Above ∷ named 3 3 0 0 2 0 0 Z Below ∷ Refused 24 ∷ [])
    ≡ (10 ∷ 5 ∷ 3 ∷ 2 ∷ 15 ∷ 0 ∷ 0 ∷ 0 ∷ 1 ∷ [])
    ∷ (2 ∷ 0 ∷ 1 ∷ 1 ∷ 0 ∷ 1 ∷ 0 ∷ 1 ∷ 1 ∷ [])
    ∷ (3 ∷ 3 ∷ 0 ∷ 0 ∷ 2 ∷ 0 ∷ 0 ∷ 2 ∷ 0 ∷ [])
    ∷ []
    ∷ []
told_rows = refl

-- a queue of two words after an answer, 24, 23 and 7
pub queue_rows :
    map (λ (n : ℕ). why_queue_after n (5 ∷ 9 ∷ [])) (0 ∷ 24 ∷ 23 ∷ 7 ∷ [])
    ≡ (0 ∷ 0 ∷ []) ∷ (0 ∷ 0 ∷ []) ∷ (5 ∷ 9 ∷ []) ∷ (5 ∷ 9 ∷ []) ∷ []
unfolding why_queue_after
queue_rows = refl
