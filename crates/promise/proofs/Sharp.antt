-- The promises say enough: the answers that need no search are ruled out. And no more than is so: berth examples reach each of them.
use mathlib.Core.Path.{◌≡◌, refl}
use mathlib.Core.List.{◌++◌}
use Prim.Native.Nat.{ℕ, ◌*◌, ◌-◌, ◌≤◌, ◌<◌}
use native.Mathlib.Omega.{arith}
use lib.IntN.{pos}
use lib.Dec.{T}
use Rattle.rules.specs.declared.Record.{Record}
use Rattle.rules.specs.declared.Answer.{Answer}
use Rattle.rules.specs.declared.Answer.TheVariants.{Met, Clear}
use Rattle.rules.specs.declared.Told.{Told}
use Rattle.rules.specs.Numbers.{parts}
use Rattle.rules.specs.Answers.{told, has_moment}
use Rattle.rules.specs.declared.Axis.TheVariants.{X, Y, Z}
use Rattle.rules.specs.Gap.{Place, OnBodies, Contact, moving, vertex_face, edge_edge, gap_on, negate_from, sided}
use Rattle.rules.specs.Refusals.{first, every, search_refusal}
use Rattle.rules.specs.Search.{search, run, levels, after_level, if_room, halves, merge, take_in, not_after, those, inside, split, winner, spread, check, one_box, near, first_survivor, corner, excess, width, survives, least, greatest, over_corners, unless}
use Rattle.rules.specs.Berth.{asked, up_to, minus, point, past_t, still, below_flag, falling, T as face, p_t}
use Rattle.promise.specs.Promise.{answered, Within, Promised}

abbrev at : ℕ → ℕ → ℕ → ℕ → Place
at q a b c = record { q = q; a = a; b = b; c = c }

-- ---- enough

-- the first berth example: the point meets the face at t = 1/2, u = v = 1/4
abbrev falls : Record
falls = asked 1 0 0 999 1000 p_t

meets : OnBodies falls (at 4 2 1 1)
meets = record { positive = omega arith; t = omega arith; u = omega arith; v = omega arith; face = λ _. omega arith }

meets_contact : Contact falls (at 4 2 1 1)
unfolding gap_on vertex_face edge_edge moving negate_from sided
meets_contact X = omega arith
meets_contact Y = omega arith
meets_contact Z = omega arith

-- not CLEAR whatever is asked
pub not_always_clear : (n : ℕ) → Promised falls (told (Clear n)) → ⊥
not_always_clear n p = p.clear_is_clear refl (at 4 2 1 1) meets (omega arith) meets_contact

-- not MET at 0 whatever is asked
pub not_always_met : (e n : ℕ) → Promised falls (told (Met 0 0 0 e n)) → ⊥
unfolding gap_on vertex_face edge_edge moving negate_from sided
not_always_met e n p = omega (arith, (p.there tt).1 Z, p.within_tolerance refl)

-- ---- no more

-- four berth examples: the excess is the tolerance; the point touches the face from the start; it lies beside the face; it ends a unit too far from it
abbrev narrow : Record
narrow = asked 1 0 0 1000 1000 p_t

abbrev touching : Record
touching = asked 1 1 0 999 1000 below_flag

abbrev beside : Record
beside = asked 1 0 0 16 1000 (still (point (pos 150) (pos 150) (pos 0) ++ face))

abbrev short : Record
short = asked 1 0 199 999 1000 (falling (pos 200))

rows : (Met 0 0 0 1000 2 ≡ search narrow 4096) × (Met 0 0 0 0 1 ≡ search touching 4096) × (Clear 10 ≡ search beside 4096) × (Clear 1 ≡ search short 4096)
unfolding search run levels after_level if_room halves merge take_in not_after those inside split winner spread check one_box near first_survivor corner excess width survives least greatest over_corners unless first every search_refusal moving vertex_face edge_edge gap_on negate_from sided
rows = (refl, refl, refl, refl)

-- what would be promised of every answer of the search
abbrev pub OfEvery : (Record → Told → Type 0) → Type 0
OfEvery P = (r : Record) (words : ℕ) (a : Answer) → a ≡ search r words → P r (told a)

-- a contact may come at the answered moment itself
pub not_strictly_earlier : OfEvery (λ r a. T (has_moment a) → (m : Place) → OnBodies r m → Contact r m → a.t * m.q < m.a * parts) → ⊥
unfolding gap_on vertex_face edge_edge moving negate_from sided
not_strictly_earlier f = omega (arith, f touching 4096 (Met 0 0 0 0 1) rows.1 tt (at 1 0 0 0) here contact)
  where
    here : OnBodies touching (at 1 0 0 0)
    here = record { positive = omega arith; t = omega arith; u = omega arith; v = omega arith; face = λ _. omega arith }

    contact : Contact touching (at 1 0 0 0)
    contact X = omega arith
    contact Y = omega arith
    contact Z = omega arith

-- under CLEAR the bodies may come within a unit of contact
pub not_by_a_unit : OfEvery (λ r a. a.word ≡ 2 → (m : Place) → OnBodies r m → Within r 1 m → ⊥) → ⊥
unfolding gap_on vertex_face edge_edge moving negate_from sided
not_by_a_unit f = f short 4096 (Clear 1) rows.3 refl (at 4 4 1 1) here one_off
  where
    here : OnBodies short (at 4 4 1 1)
    here = record { positive = omega arith; t = omega arith; u = omega arith; v = omega arith; face = λ _. omega arith }

    one_off : Within short 1 (at 4 4 1 1)
    one_off X = omega arith
    one_off Y = omega arith
    one_off Z = omega arith

-- one unit less than the excess may be too little
pub not_less_excess : OfEvery (λ r a. T (has_moment a) → Within r (a.excess - 1) (answered a)) → ⊥
unfolding gap_on vertex_face edge_edge moving negate_from sided
not_less_excess f = omega (arith, f narrow 4096 (Met 0 0 0 1000 2) rows.0 tt Z)

-- and MET's excess may be the tolerance
pub not_less_tolerance : OfEvery (λ r a. a.word ≡ 1 → a.excess < r.tolerance) → ⊥
not_less_tolerance f = omega (arith, f narrow 4096 (Met 0 0 0 1000 2) rows.0 refl)

-- in the cube but off the face, at u = v = 5/8, there may be contact under CLEAR
pub not_off_the_face : OfEvery (λ r a. a.word ≡ 2 → (m : Place) → 0 < m.q → m.a ≤ m.q → m.b ≤ m.q → m.c ≤ m.q → Contact r m → ⊥) → ⊥
unfolding gap_on vertex_face edge_edge moving negate_from sided
not_off_the_face f = f beside 4096 (Clear 10) rows.2 refl (at 8 0 5 5) (omega arith) (omega arith) (omega arith) (omega arith) contact
  where
    contact : Contact beside (at 8 0 5 5)
    contact X = omega arith
    contact Y = omega arith
    contact Z = omega arith

-- ---- caps (document 02, R-7)

-- it comes to the face two parts after the cap 262,143, and that is CLEAR: up to 262,144, the next line of the grid, it is above
abbrev late : Record
late =
    record { kind = 1; flags = 0; byte2 = 0; byte3 = 0; id = 1; dx = 0; dy = 0; dz = 0; tolerance = 16; budget = 1000; cap = 262143; edition = 2; points = past_t (point (pos 0) (pos 0) (pos 262145)) (point (pos 0) (pos 0) (minus 786431)) }

late_row : Clear 3 ≡ search late 4096
unfolding search run levels after_level if_room halves merge take_in not_after those inside split winner spread check one_box near first_survivor corner excess width survives least greatest over_corners unless first every search_refusal moving vertex_face edge_edge gap_on negate_from sided
late_row = refl

-- so CLEAR promises nothing of the whole step
pub not_beyond_the_cap : OfEvery (λ r a. a.word ≡ 2 → (m : Place) → OnBodies r m → Contact r m → ⊥) → ⊥
unfolding gap_on vertex_face edge_edge moving negate_from sided
not_beyond_the_cap f = f late 4096 (Clear 3) late_row refl (at parts 262145 262144 262144) here contact
  where
    here : OnBodies late (at parts 262145 262144 262144)
    here = record { positive = omega arith; t = omega arith; u = omega arith; v = omega arith; face = λ _. omega arith }

    contact : Contact late (at parts 262145 262144 262144)
    contact X = omega arith
    contact Y = omega arith
    contact Z = omega arith

-- a contact at the cap itself is ruled out by CLEAR: of the first berth example with the cap 524,288 no CLEAR is promised
pub not_clear_at_the_cap : (n : ℕ) → Promised (up_to 16 1000 524288) (told (Clear n)) → ⊥
unfolding gap_on vertex_face edge_edge moving negate_from sided
not_clear_at_the_cap n p = p.clear_is_clear refl (at 4 2 1 1) here (omega arith) contact
  where
    here : OnBodies (up_to 16 1000 524288) (at 4 2 1 1)
    here = record { positive = omega arith; t = omega arith; u = omega arith; v = omega arith; face = λ _. omega arith }

    contact : Contact (up_to 16 1000 524288) (at 4 2 1 1)
    contact X = omega arith
    contact Y = omega arith
    contact Z = omega arith
