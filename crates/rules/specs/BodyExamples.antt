-- Document 02, R-6: worked examples of the written rules, over the face T of document 01's berth and two triangles more.
use Rattle.std.specs.Prelude.{ℕ, ◌≡◌, refl, List, [], ◌∷◌, ◌++◌, map, ℤ, pos}
use Rattle.rules.specs.declared.Terms.{Terms}
use Rattle.rules.specs.declared.BodyAnswer.{BodyAnswer}
use Rattle.rules.specs.declared.BodyAnswer.TheVariants.{Clear, Least, Refused}
use Rattle.rules.specs.Gap.{moving, vertex_face, edge_edge, gap_on, negate_from, sided}
use Rattle.rules.specs.Refusals.{first, every, search_refusal}
use Rattle.rules.specs.Search.{search, run, levels, after_level, if_room, halves, merge, take_in, not_after, those, inside, split, winner, spread, check, one_box, near, first_survivor, corner, excess, width, survives, least, greatest, over_corners, unless}
use Rattle.rules.specs.Berth.{minus, point}
use Rattle.rules.specs.Bodies.{Body, ask_of, asked_from, each_from, queries_of, first_refused, body_refusal, counted, is_less, sum_of, heard, cap_of, capped, is_over, hear_next, hear_all, body_unless, body_search}

-- T at a height
abbrev pub level : ℤ → List ℤ
level z = point (minus 100) (minus 100) z ++ point (pos 300) (minus 100) z ++ point (minus 100) (pos 300) z

-- T moved by 500, 520, 30: on each axis it is then 100, 120, 30 from the square that T is half of
abbrev pub aside : List ℤ
aside = point (pos 400) (pos 420) (pos 30) ++ point (pos 800) (pos 420) (pos 30) ++ point (pos 400) (pos 820) (pos 30)

-- a body of n triangles
abbrev pub moves : ℕ → List ℤ → List ℤ → Body
moves n start end = record { count = n; start = start; end = end }

-- separations, tolerance, and a budget of 1,000
abbrev pub terms : ℕ → ℕ → ℕ → ℕ → Terms
terms dx dy dz tolerance = record { dx = dx; dy = dy; dz = dz; tolerance = tolerance; budget = 1000; edition = 2 }

abbrev pub touching : ℕ → Terms
touching = terms 0 0 0

pub record BodyRow : Type 0 where
  pub terms : Terms
  pub a : Body
  pub b : Body
  pub answer : BodyAnswer

abbrev pub row : Terms → Body → Body → BodyAnswer → BodyRow
row w a b answer = record { terms = w; a = a; b = b; answer = answer }

abbrev pub quay : Body
quay = moves 1 (level (pos 0)) (level (pos 0))

-- a quay of two triangles, the first of them far below
abbrev pub steps : Body
steps = moves 2 (level (minus 5000) ++ level (pos 0)) (level (minus 5000) ++ level (pos 0))

abbrev pub falls : Body
falls = moves 1 (level (pos 1000)) (level (minus 1000))

-- two that stand still, the second of them in the way of what rises
abbrev pub stands : Body
stands = moves 2 (level (pos 5000) ++ level (pos 1000)) (level (pos 5000) ++ level (pos 1000))

abbrev pub rises : Body
rises = moves 1 (level (pos 0)) (level (pos 2000))

-- a wide triangle, and one that stands upright on it on its first corner
abbrev pub wide : List ℤ
wide = point (pos 0) (pos 0) (pos 0) ++ point (pos 1000) (pos 0) (pos 0) ++ point (pos 0) (pos 1000) (pos 0)

abbrev pub spike : List ℤ
spike = point (pos 200) (pos 200) (pos 0) ++ point (pos 200) (pos 200) (pos 500) ++ point (pos 210) (pos 200) (pos 500)

-- a small triangle at a height, and one that falls through the quay with it
abbrev pub small : ℤ → List ℤ
small z = point (pos 0) (pos 0) z ++ point (pos 50) (pos 0) z ++ point (pos 0) (pos 50) z

abbrev pub drops : Body
drops = moves 1 (small (pos 1000)) (small (minus 1000))

-- and a second one, 600 lower
abbrev pub drop_two : Body
drop_two = moves 2 (small (pos 1000) ++ small (pos 400)) (small (minus 1000) ++ small (minus 1600))

-- a quay of two triangles, the first of them aside
abbrev pub two_quays : Body
two_quays = moves 2 (away ++ level (pos 0)) (away ++ level (pos 0))
  where
    away : List ℤ
    away = point (pos 4900) (minus 100) (pos 0) ++ point (pos 5300) (minus 100) (pos 0) ++ point (pos 4900) (pos 300) (pos 0)

abbrev pub besides : Body
besides = moves 1 aside aside

-- columns of `row`: terms, A, B, then the answer
abbrev pub body_rows : List BodyRow
body_rows =
    -- it stays above: each of the fifteen is clear at its first box
    row (touching 999) (moves 1 (level (pos 1000)) (level (pos 1))) quay (Clear 15)
    -- it falls through: the first query goes as the berth's first case, each other as that case with the cap 262144 (document 02, R-7)
    ∷ row (touching 999) falls quay (Least 262144 0 0 1 1 500 61)
    -- the pair that is far apart counts too; the second pair's first query answers time 0, and that ends the walk (document 02, R-7)
    ∷ row (touching 2000) falls steps (Least 0 0 1 1 1 1000 16)
    -- the same of A's triangles, and of a B that moves
    ∷ row (touching 999) stands rises (Least 262144 1 0 1 1 500 76)
    -- each separation on its own axis: one unit less on any of them is clear
    ∷ row (terms 100 120 30 2000) besides quay (Least 0 0 0 1 1 400 1)
    ∷ row (terms 99 120 30 2000) besides quay (Clear 15)
    ∷ row (terms 100 119 30 2000) besides quay (Clear 15)
    ∷ row (terms 100 120 29 2000) besides quay (Clear 15)
    -- a corner of B stands on A, and A's corners are away from it: the first of B's corners is asked fourth
    ∷ row (touching 2000) (moves 1 wide wide) (moves 1 spike spike) (Least 0 0 0 4 1 200 4)
    -- each query up to the least time so far (document 02, R-7): an equal time does not take over, a lesser one does, and 0 ends the walk inside the pair
    ∷ row (touching 999) drops quay (Least 262144 0 0 1 1 500 34)
    ∷ row (touching 100) drops quay (Least 491520 0 0 1 1 100 113)
    ∷ row (touching 100) drop_two quay (Least 196608 1 0 1 1 100 196)
    ∷ row (terms 0 0 500 999) drops quay (Least 0 0 0 1 1 500 4)
    ∷ row (terms 0 0 500 999) drops two_quays (Least 0 0 1 1 1 500 19)
    -- 21 before the queries' own
    ∷ row (touching 15) falls (moves 2 (level (pos 0)) (level (pos 0))) (Refused 21)
    ∷ row (touching 15) falls quay (Refused 5)
    ∷ []

pub body_examples : map (λ (r : BodyRow). body_search r.terms r.a r.b 4096) body_rows ≡ map (λ (r : BodyRow). r.answer) body_rows
unfolding body_search body_unless body_refusal queries_of each_from asked_from ask_of first_refused hear_all hear_next is_over capped cap_of heard counted is_less sum_of search run levels after_level if_room halves merge take_in not_after those inside split winner spread check one_box near first_survivor corner excess width survives least greatest over_corners unless first every search_refusal moving vertex_face edge_edge gap_on negate_from sided
body_examples = refl
