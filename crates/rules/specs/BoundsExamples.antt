-- Document 02, R-9: worked examples of the bounds, of the walk's refusals and of replacing, over a leaning triangle S whose fourth corner is 200, 0, 50.
use Rattle.std.specs.Prelude.{ℕ, zero, suc, ◌+◌, ◌*◌, ◌≡◌, refl, List, [], ◌∷◌, ◌++◌, map, ℤ, pos, ◌+ℤ◌}
use Rattle.rules.specs.declared.BodyAnswer.{BodyAnswer}
use Rattle.rules.specs.declared.BodyAnswer.TheVariants.{Clear, Refused}
use Rattle.rules.specs.Gap.{moving, vertex_face, edge_edge, gap_on, negate_from, sided}
use Rattle.rules.specs.Refusals.{first, every, search_refusal}
use Rattle.rules.specs.Search.{search, run, levels, after_level, if_room, halves, merge, take_in, not_after, those, inside, split, winner, spread, check, one_box, near, first_survivor, corner, excess, width, survives, least, greatest, over_corners, unless}
use Rattle.rules.specs.QueryFile.{put}
use Rattle.rules.specs.Berth.{minus, point, T}
use Rattle.rules.specs.Bodies.{Body, ask_of, asked_from, each_from, queries_of, first_refused, body_refusal, counted, is_less, sum_of, heard, cap_of, capped, is_over, hear_next, hear_all, body_unless, body_search}
use Rattle.rules.specs.BodyExamples.{moves, terms}
use Rattle.rules.specs.Bounds.{over_triangles, bounds_to, bounds_of, bounds_refusal, are_same, walk_refusal, walk_search, replaced, mended, replace_refusal}

-- S moved by x along x
abbrev pub S : ℤ → List ℤ
S x = point x (pos 0) (pos 0) ++ point (pos 100 +ℤ x) (pos 0) (pos 0) ++ point (pos 100 +ℤ x) (pos 0) (pos 50)

abbrev pub still : ℕ → List ℤ → Body
still n s = moves n s s

abbrev pub one : Body
one = still 1 (S (pos 0))

-- S, and its last corner moved to the left: the fourth corner's place at the end counts, too
abbrev pub turns : Body
turns = moves 1 (S (pos 0)) (point (pos 0) (pos 0) (pos 0) ++ point (pos 100) (pos 0) (pos 0) ++ point (minus 300) (pos 0) (pos 50))

-- from one end of the range to the other
abbrev pub widest : Body
widest = still 1 (corner_at_lem (minus 1048576) ++ corner_at_lem (pos 1048576) ++ corner_at_lem (pos 1048576))
  where
    corner_at_lem : ℤ → List ℤ
    corner_at_lem x = point x x x

-- n copies of S, 300 apart, copy m first
unfoldable pub copies : ℕ → ℕ → List ℤ
copies m zero = []
copies m (suc n) = S (pos (300 * m)) ++ copies (m + 1) n

abbrev pub row_of_33 : Body
row_of_33 = still 33 (copies 0 33)

-- S, moved by 9,999 along y at the start
abbrev pub aside_at_start : List ℤ
aside_at_start = point (pos 0) (pos 9999) (pos 0) ++ point (pos 100) (pos 9999) (pos 0) ++ point (pos 100) (pos 9999) (pos 50) ++ S (pos 0)

abbrev pub two_blocks : List ℤ
two_blocks = point (pos 0) (pos 0) (pos 0) ++ point (pos 9500) (pos 0) (pos 50) ++ point (pos 9600) (pos 0) (pos 0) ++ point (pos 9800) (pos 0) (pos 50)

pub bounds_examples : map bounds_of (still 1 T ∷ one ∷ turns ∷ widest ∷ row_of_33 ∷ [])
    ≡ (point (minus 100) (minus 100) (pos 0) ++ point (pos 300) (pos 300) (pos 0))
    ∷ (point (pos 0) (pos 0) (pos 0) ++ point (pos 200) (pos 0) (pos 50))
    ∷ (point (minus 300) (pos 0) (pos 0) ++ point (pos 200) (pos 0) (pos 50))
    ∷ (point (minus 1048576) (minus 1048576) (minus 1048576) ++ point (pos 3145728) (pos 3145728) (pos 3145728))
    ∷ two_blocks
    ∷ []
unfolding bounds_to over_triangles copies
bounds_examples = refl

-- triangle 32 replaced: the second block alone is worked out again
pub replaced_example : mended (replaced row_of_33 32 aside_at_start) 32 two_blocks
    ≡ point (pos 0) (pos 0) (pos 0) ++ point (pos 9500) (pos 0) (pos 50) ++ point (pos 0) (pos 0) (pos 0) ++ point (pos 200) (pos 9999) (pos 50)
unfolding put bounds_to over_triangles copies
replaced_example = refl

-- ---- the walk

-- a small triangle at x
abbrev pub small_at : ℤ → Body
small_at x = still 1 (point x (pos 0) (pos 0) ++ point (x +ℤ pos 4) (pos 0) (pos 0) ++ point x (pos 3) (pos 0))

pub record WalkRow : Type 0 where
  pub dx : ℕ
  pub a : Body
  pub of_a : List ℤ
  pub of_b : List ℤ
  pub words : ℕ
  pub answer : BodyAnswer

abbrev pub exact : ℕ → ℤ → ℕ → WalkRow
exact dx x sum = record { dx = dx; a = small_at x; of_a = bounds_of (small_at x); of_b = bounds_of one; words = 4096; answer = Clear sum }

-- B's greatest x one less than it is
abbrev pub damaged : List ℤ
damaged = point (pos 0) (pos 0) (pos 0) ++ point (pos 199) (pos 0) (pos 50)

abbrev pub refuses : Body → ℕ → ℕ → WalkRow
refuses a words number = record { dx = 0; a = a; of_a = bounds_of a; of_b = damaged; words = words; answer = Refused number }

abbrev pub walk_rows : List WalkRow
walk_rows =
    -- B is S: asked where the bounds touch, and where they are no further apart than the separation; else fifteen checks
    exact 0 (pos 190) 23
    ∷ exact 0 (pos 200) 19
    ∷ exact 0 (pos 201) 15
    ∷ exact 1 (pos 201) 19
    ∷ exact 2 (pos 203) 15
    -- 27, behind the queries' own and 21
    ∷ refuses (small_at (pos 190)) 4096 27
    ∷ refuses (small_at (pos 190)) 1 7
    ∷ refuses (moves 0 [] []) 1 21
    ∷ []

pub walk_examples : map (λ (r : WalkRow). walk_search (terms r.dx 0 0 16) r.a r.of_a one r.of_b r.words) walk_rows ≡ map (λ (r : WalkRow). r.answer) walk_rows
unfolding walk_search walk_refusal are_same bounds_to over_triangles body_search body_unless body_refusal queries_of each_from asked_from ask_of first_refused hear_all hear_next is_over capped cap_of heard counted is_less sum_of search run levels after_level if_room halves merge take_in not_after those inside split winner spread check one_box near first_survivor corner excess width survives least greatest over_corners unless first every search_refusal moving vertex_face edge_edge gap_on negate_from sided
walk_examples = refl

-- ---- refusals

-- S at both moments, one coordinate of it out of range
abbrev pub outside : List ℤ
outside = point (pos 0) (pos 0) (pos 0) ++ point (pos 1048577) (pos 0) (pos 0) ++ point (pos 100) (pos 0) (pos 50) ++ S (pos 0)

-- edition 3 has the longer range; lists of five and of six numbers
pub refused_examples : (bounds_refusal 2 (moves 1 outside (S (pos 0))) ∷ bounds_refusal 2 (moves 1 (S (pos 0)) (S (pos 1048477))) ∷ bounds_refusal 3 (moves 1 (S (pos 0)) (S (pos 1048477))) ∷ bounds_refusal 2 one ∷ [])
    ≡ 21 ∷ 3 ∷ 0 ∷ 0 ∷ []
unfolding bounds_refusal first every
refused_examples = refl

abbrev pub six : List ℤ
six = bounds_of one

abbrev pub five : List ℤ
five = point (pos 0) (pos 0) (pos 0) ++ pos 200 ∷ pos 0 ∷ []

pub replace_refused : (replace_refusal 2 one six 1 (S (pos 0)) ∷ replace_refusal 2 one six 1 outside ∷ replace_refusal 2 one five 0 outside ∷ replace_refusal 3 one five 0 outside ∷ replace_refusal 2 one six 0 aside_at_start ∷ [])
    ≡ 21 ∷ 13 ∷ 3 ∷ 27 ∷ 0 ∷ []
unfolding replace_refusal first every put bounds_to over_triangles
replace_refused = refl
