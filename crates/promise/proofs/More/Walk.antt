-- What R-5 does not promise: a walk over two bodies, whose queries take the least time so far as their cap (R-7), can answer an earlier time with a larger budget.
-- A first query that answers with more hands its time on as a cap, and under that cap a later one can end for want of room at an earlier time.
use mathlib.Core.Path.{◌≡◌, refl}
use mathlib.Core.List.{List, ◌++◌}
use Prim.Native.Nat.{ℕ, ◌≤◌}
use native.Mathlib.Omega.{arith}
use lib.IntN.{ℤ, pos}
use Rattle.rules.specs.declared.Terms.{Terms}
use Rattle.rules.specs.declared.BodyAnswer.{BodyAnswer}
use Rattle.rules.specs.declared.BodyAnswer.TheVariants.{Clear, Least, Refused}
use Rattle.rules.specs.Gap.{moving, vertex_face, edge_edge, gap_on, negate_from, sided}
use Rattle.rules.specs.Refusals.{first, every, search_refusal}
use Rattle.rules.specs.Search.{search, run, levels, after_level, if_room, halves, merge, take_in, not_after, those, inside, split, winner, spread, check, one_box, near, first_survivor, corner, excess, width, survives, least, greatest, over_corners, unless}
use Rattle.rules.specs.Berth.{minus, point}
use Rattle.rules.specs.Bodies.{Body, ask_of, asked_from, each_from, queries_of, first_refused, body_refusal, counted, is_less, sum_of, heard, cap_of, capped, is_over, hear_next, hear_all, body_unless, body_search}

-- a triangle that falls past another
abbrev falls : Body
falls =
    record {
      count = 1;
      start = point (pos 190) (pos 101) (pos 288) ++ point (pos 142) (pos 246) (pos 291) ++ point (pos 5) (pos 225) (pos 199);
      end = point (minus 16) (minus 207) (minus 238) ++ point (minus 64) (minus 62) (minus 235) ++ point (minus 201) (minus 83) (minus 327);
    }

abbrev stays : Body
stays = record { count = 1; start = still; end = still }
  where
    still : List ℤ
    still = point (minus 4) (pos 43) (minus 58) ++ point (minus 54) (minus 96) (pos 66) ++ point (pos 41) (pos 94) (minus 72)

abbrev with_budget_lem : ℕ → Terms
with_budget_lem budget = record { dx = 25; dy = 10; dz = 0; tolerance = 16; budget = budget; edition = 2 }

pub record Walks : Type 0 where
  pub five : Least 262144 0 0 2 3 218 60 ≡ body_search (with_budget_lem 5) falls stays 6
  pub ten : Least 0 0 0 2 4 349 12 ≡ body_search (with_budget_lem 10) falls stays 6

pub walks : Walks
unfolding body_search body_unless body_refusal queries_of each_from asked_from ask_of first_refused hear_all hear_next is_over capped cap_of heard counted is_less sum_of search run levels after_level if_room halves merge take_in not_after those inside split winner spread check one_box near first_survivor corner excess width survives least greatest over_corners unless first every search_refusal moving vertex_face edge_edge gap_on negate_from sided
walks = record { five = refl; ten = refl }

-- no answered time is an earlier one
abbrev pub WalkNotSooner : BodyAnswer → BodyAnswer → Type 0
WalkNotSooner (Least t a b query word excess sum) (Least t' a' b' query' word' excess' sum') = t ≤ t'
WalkNotSooner (Least t a b query word excess sum) (Clear sum') = Unit
WalkNotSooner (Least t a b query word excess sum) (Refused number) = Unit
WalkNotSooner (Clear sum) x = Unit
WalkNotSooner (Refused number) x = Unit

-- the terms with another budget
abbrev pub raised : Terms → ℕ → Terms
raised w budget = record { dx = w.dx; dy = w.dy; dz = w.dz; tolerance = w.tolerance; budget = budget; edition = w.edition }

of_these : (x y x' y' : BodyAnswer) → x ≡ x' → y ≡ y' → WalkNotSooner x' y' → WalkNotSooner x y
of_these x y x' y' e f h = rw (e, f) h

pub not_of_the_walk : ((w : Terms) (budget words : ℕ) (a b : Body) → w.budget ≤ budget → budget ≤ 1_000_000 → WalkNotSooner (body_search w a b words) (body_search (raised w budget) a b words)) → ⊥
not_of_the_walk f = let h : 262144 ≤ 0 = now in omega arith
  where
    now : WalkNotSooner (Least 262144 0 0 2 3 218 60) (Least 0 0 0 2 4 349 12)
    now = of_these _ _ _ _ walks.five walks.ten (f (with_budget_lem 5) 10 6 falls stays (omega arith) (omega arith))
