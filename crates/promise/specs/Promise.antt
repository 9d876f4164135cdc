-- What an answer promises of the record that was searched (demand 3). Read `Place`, `OnBodies` and `Contact` in rules/specs/Gap.antt and `told` in
-- rules/specs/Answers.antt, then this page; no more is needed. proofs/Demands.antt proves `Demand3`, `RefusedExactly` and `WholeStep`.
use Rattle.std.specs.Prelude.{ℕ, ◌+◌, ◌*◌, ◌≤◌, ◌<◌, ◌≡◌, ◌↔◌, nat_abs, T}
use Rattle.rules.specs.declared.Record.{Record}
use Rattle.rules.specs.declared.Answer.TheVariants.{Refused}
use Rattle.rules.specs.declared.Told.{Told}
use Rattle.rules.specs.Numbers.{limits_of, parts, last_moment}
use Rattle.rules.specs.declared.Axis.{Axis}
use Rattle.rules.specs.Gap.{gap_on, sided, is_vertex_face, separation_on, Place, OnBodies, Contact}
use Rattle.rules.specs.Answers.{told, has_moment}
use Rattle.rules.specs.Refusals.{search_refusal}
use Rattle.rules.specs.Search.{side, search}
use Rattle.rules.specs.Bodies.{capped}

-- ---- an answer

-- the answered moment and place: "t, u, v count 1/1,048,576 parts"
abbrev pub answered : Told → Place
answered a = record { q = parts; a = a.t; b = a.u; c = a.v }

-- |F| at a place is at most the separation and so many units more, on each axis
abbrev pub Within : Record → ℕ → Place → Type 0
Within r more m =
    (axis : Axis) → nat_abs (gap_on (is_vertex_face r) (sided r) axis m.q m.a m.b m.c) ≤ (separation_on r axis + more) * (m.q * m.q)

-- ---- the promises

-- a moment that is not beyond the record's cap, a / q ≤ cap / parts; with cap 0 that is every moment of the step (document 02, R-7)
abbrev pub UpToCap : Record → Place → Type 0
UpToCap r m = m.a * parts ≤ last_moment r.cap * m.q

-- CLEAR (word 2): there is no contact, at no rational moment up to and including the cap and no place on the bodies
abbrev pub ClearIsClear : Record → Told → Type 0
ClearIsClear r a = a.word ≡ 2 → (m : Place) → OnBodies r m → UpToCap r m → Contact r m → ⊥

-- a moment answered: no contact comes before it, t / parts ≤ a / q, whatever the cap is
abbrev pub NoEarlier : Record → Told → Type 0
NoEarlier r a = T (has_moment a) → (m : Place) → OnBodies r m → Contact r m → a.t * m.q ≤ m.a * parts

-- a moment answered: there the place is on the bodies, and |F| is at most the separation plus the excess
abbrev pub There : Record → Told → Type 0
There r a = T (has_moment a) → OnBodies r (answered a) × Within r a.excess (answered a)

-- a moment answered is not beyond the cap
abbrev pub NotBeyond : Record → Told → Type 0
NotBeyond r a = T (has_moment a) → a.t ≤ last_moment r.cap

-- MET (word 1): the excess is at most the tolerance
abbrev pub WithinTolerance : Record → Told → Type 0
WithinTolerance r a = a.word ≡ 1 → a.excess ≤ r.tolerance

-- what is told is a box's corner: t, u and v are whole numbers of the finest sides, which are one part, and two in edition 3; "times .. are then even"
abbrev pub InSides : Record → ℕ → Type 0
InSides r n = (m : ℕ) × (n ≡ m * side (limits_of r.edition).deepest)

abbrev pub OnTheGrid : Record → Told → Type 0
OnTheGrid r a = InSides r a.t × (InSides r a.u × InSides r a.v)

-- and the first two by a margin: of every place that is less than 1/(parts·parts) from contact. So an irrational contact is not missed either: rational
-- places as near to it as one likes would be such (that step is analysis, and on paper)
abbrev pub NearContact : Record → Place → Type 0
NearContact r m =
    (axis : Axis) → nat_abs (gap_on (is_vertex_face r) (sided r) axis m.q m.a m.b m.c) * (parts * parts) < (separation_on r axis * (parts * parts) + 1) * (m.q * m.q)

abbrev pub ByAMargin : Record → Told → Type 0
ByAMargin r a = (m : Place) → OnBodies r m → NearContact r m → (a.word ≡ 2 → UpToCap r m → ⊥) × (T (has_moment a) → a.t * m.q ≤ m.a * parts)

-- all of them
pub record Promised (r : Record) (a : Told) : Type 0 where
  pub clear_is_clear : ClearIsClear r a
  pub no_earlier : NoEarlier r a
  pub there : There r a
  pub not_beyond : NotBeyond r a
  pub within_tolerance : WithinTolerance r a
  pub by_a_margin : ByAMargin r a
  pub on_the_grid : OnTheGrid r a

-- ---- of the written search

-- demand 3: the search of every record, with every number of queue words
abbrev pub Demand3 : Type 0
Demand3 = (r : Record) (words : ℕ) → Promised r (told (search r words))

-- so in edition 3 (document 02, R-11) every told t, u and v is even
abbrev pub Even : ℕ → Type 0
Even n = (m : ℕ) × (n ≡ m * 2)

abbrev pub EvenInEdition3 : Type 0
EvenInEdition3 = (r : Record) (words : ℕ) → r.edition ≡ 3 → let a : Told = told (search r words) in Even a.t × (Even a.u × Even a.v)

-- refused with n exactly when n is the first of 1 to 6, 22 and 7 that is due; so what is not refused is answered, and never cut off
abbrev pub RefusedExactly : Type 0
RefusedExactly = (r : Record) (words n : ℕ) → (search r words ≡ Refused n) ↔ ((0 < n) × (search_refusal r words ≡ n))

-- cap 0 and cap 1,048,576 are answered the same in every number (document 02, R-7: "0 means the whole step")
abbrev pub WholeStep : Type 0
WholeStep = (r : Record) (words : ℕ) → search (capped 0 r) words ≡ search (capped parts r) words
