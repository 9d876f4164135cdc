-- The promises of two bodies say enough: an answer that needs no search is ruled out. And no more than is so, by examples over the berth's face.
use mathlib.Core.Path.{◌≡◌, refl}
use Prim.Native.Nat.{ℕ, ◌+◌, ◌*◌, ◌≤◌, ◌<◌}
use native.Mathlib.Omega.{arith}
use lib.IntN.{pos}
use Rattle.rules.specs.declared.Record.{Record}
use Rattle.rules.specs.declared.Terms.{Terms}
use Rattle.rules.specs.declared.BodyAnswer.{BodyAnswer}
use Rattle.rules.specs.declared.BodyAnswer.TheVariants.{Clear, Least, Refused}
use Rattle.rules.specs.Numbers.{parts}
use Rattle.rules.specs.declared.Axis.TheVariants.{X, Y, Z}
use Rattle.rules.specs.Gap.{Place, OnBodies, Contact, moving, vertex_face, edge_edge, gap_on, negate_from, sided}
use Rattle.rules.specs.Refusals.{first, every, search_refusal}
use Rattle.rules.specs.Search.{search, run, levels, after_level, if_room, halves, merge, take_in, not_after, those, inside, split, winner, spread, check, one_box, near, first_survivor, corner, excess, width, survives, least, greatest, over_corners, unless}
use Rattle.rules.specs.Bodies.{Body, ask_of, asked_from, each_from, queries_of, first_refused, body_refusal, counted, is_less, sum_of, heard, cap_of, capped, is_over, hear_next, hear_all, body_unless, body_search}
use Rattle.rules.specs.BodyExamples.{level, moves, touching, quay, falls}
use Rattle.promise.specs.Bodies.{C1, Way, vertex_face_lem, way, NotBefore, BodiesPromised}

abbrev at : ℕ → ℕ → ℕ → ℕ → Place
at q a b c = record { q = q; a = a; b = b; c = c }

-- corner 1 of A's triangle i with face B
abbrev asks : Body → ℕ → Record
asks a i = ask_of (touching 999) a quay i 0 (way (vertex_face_lem C1))

here : (r : Record) (m : Place) → 0 < m.q → m.a ≤ m.q → m.b + m.c ≤ m.q → OnBodies r m
here r m q t f = record { positive = q; t = t; u = omega arith; v = omega arith; face = λ _. f }

-- ---- enough: the fall meets the quay at t = 1/2, so it is not CLEAR whatever is asked
pub not_always_clear : (words n : ℕ) → BodiesPromised (touching 999) falls quay words (Clear n) → ⊥
unfolding ask_of gap_on vertex_face edge_edge moving negate_from sided
not_always_clear words n p = p.no_contact 0 0 (omega arith) (omega arith) (vertex_face_lem C1) (at 2 1 0 0) (here _ _ (omega arith) (omega arith) (omega arith)) contact
  where
    contact : Contact (asks falls 0) (at 2 1 0 0)
    contact X = omega arith
    contact Y = omega arith
    contact Z = omega arith

-- ---- no more

-- a quay on a quay, and one that stays above it
abbrev above : Body
above = moves 1 (level (pos 1000)) (level (pos 1))

rows : (Least 0 0 0 1 1 0 1 ≡ body_search (touching 999) quay quay 4096) × (Clear 15 ≡ body_search (touching 999) above quay 4096)
unfolding body_search body_unless body_refusal queries_of each_from asked_from ask_of first_refused hear_all hear_next is_over capped cap_of heard counted is_less sum_of search run levels after_level if_room halves merge take_in not_after those inside split winner spread check one_box near first_survivor corner excess width survives least greatest over_corners unless first every search_refusal moving vertex_face edge_edge gap_on negate_from sided
rows = (refl, refl)

-- what would be promised of every contact of triangles that are let in, by number and count
abbrev pub OfEvery : (ℕ → ℕ → Type 0) → (BodyAnswer → Place → Type 0) → Type 0
OfEvery letIn after =
    (w : Terms) (a b : Body) (words : ℕ) (x : BodyAnswer) → x ≡ body_search w a b words → (i j : ℕ) → letIn i a.count → letIn j b.count
    → (k : Way) (m : Place) → OnBodies (ask_of w a b i j (way k)) m → Contact (ask_of w a b i j (way k)) m → after x m

-- a contact may come at the answered time itself
abbrev pub Later : BodyAnswer → Place → Type 0
Later (Clear sum) m = ⊥
Later (Least t i j query word over sum) m = t * m.q < m.a * parts
Later (Refused number) m = Unit {0}

pub not_strictly_earlier : OfEvery ◌<◌ Later → ⊥
unfolding ask_of gap_on vertex_face edge_edge moving negate_from sided
not_strictly_earlier f =
    omega (arith, f (touching 999) quay quay 4096 (Least 0 0 0 1 1 0 1) rows.0 0 0 (omega arith) (omega arith) (vertex_face_lem C1) (at 2 0 0 0) (here _ _ (omega arith) (omega arith) (omega arith)) contact)
  where
    contact : Contact (asks quay 0) (at 2 0 0 0)
    contact X = omega arith
    contact Y = omega arith
    contact Z = omega arith

-- past the last triangle there is no position, and a contact there may come under CLEAR
pub not_past_the_last : OfEvery ◌≤◌ NotBefore → ⊥
unfolding ask_of gap_on vertex_face edge_edge moving negate_from sided
not_past_the_last f =
    f (touching 999) above quay 4096 (Clear 15) rows.1 1 0 (omega arith) (omega arith) (vertex_face_lem C1) (at 4 0 1 1) (here _ _ (omega arith) (omega arith) (omega arith)) contact
  where
    contact : Contact (asks above 1) (at 4 0 1 1)
    contact X = omega arith
    contact Y = omega arith
    contact Z = omega arith
