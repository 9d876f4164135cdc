-- What asking again with more does to an answer (document 02, R-5, "Will more help?"). Read `told` and `has_moment` in rules/specs/Answers.antt, then this page;
-- for the last two also `Comes` and `WasDiscarded` in Why.antt. proofs/More.antt proves what is stated here.
-- In a crew's words: with the record otherwise the same, a larger budget, more queue words or both give CLEAR, MET and FLOOR again, in every number; SPENT and
-- ROOM may become anything but a refusal; no time becomes an earlier one. It is said of one pair, not of a walk over two bodies.
use Rattle.std.specs.Prelude.{ℕ, ◌≤◌, ◌<◌, ◌≡◌, Bool, ◌||◌, List, T, eqb}
use Rattle.rules.specs.declared.Record.{Record}
use Rattle.rules.specs.declared.Corner.{Corner}
use Rattle.rules.specs.declared.Told.{Told}
use Rattle.rules.specs.Answers.{told, has_moment}
use Rattle.rules.specs.Search.{query, Box, Depths, search}
use Rattle.promise.specs.Why.{Comes, WasDiscarded}

-- "with the record otherwise the same"
abbrev pub with_budget : Record → ℕ → Record
with_budget r budget =
    record {
      kind = r.kind;
      flags = r.flags;
      byte2 = r.byte2;
      byte3 = r.byte3;
      id = r.id;
      dx = r.dx;
      dy = r.dy;
      dz = r.dz;
      tolerance = r.tolerance;
      budget = budget;
      cap = r.cap;
      edition = r.edition;
      points = r.points;
    }

-- ---- a is what was answered, b what is answered with more

-- MET, CLEAR and FLOOR (words 1, 2, 5) want for nothing
abbrev pub is_settled : Told → Bool
is_settled a = eqb a.word 1 || eqb a.word 2 || eqb a.word 5

-- "leaves CLEAR, MET and FLOOR answers unchanged in every number"
abbrev pub Unchanged : Told → Told → Type 0
Unchanged a b = T (is_settled a) → b ≡ a

-- "never turns any answered time into an earlier one"
abbrev pub NotSooner : Told → Told → Type 0
NotSooner a b = T (has_moment a) → T (has_moment b) → a.t ≤ b.t

-- what was answered (word 0 is a refusal) is not refused
abbrev pub StillAnswered : Told → Told → Type 0
StillAnswered a b = 0 < a.word → 0 < b.word

-- the count never falls
abbrev pub CountStands : Told → Told → Type 0
CountStands a b = a.count ≤ b.count

-- all of them
pub record NoWorse (a b : Told) : Type 0 where
  pub unchanged : Unchanged a b
  pub not_sooner : NotSooner a b
  pub still_answered : StillAnswered a b
  pub count_stands : CountStands a b

-- ---- of the written search

-- "raising budget, queue words or both"; "the larger values must be within their ranges"
pub record Raised (r : Record) (words budget words' : ℕ) : Type 0 where
  pub budget_up : r.budget ≤ budget
  pub budget_most : budget ≤ 1_000_000
  pub words_up : words ≤ words'
  pub words_most : words' ≤ 1_048_576

-- R-5: of every record and number of words
abbrev pub MoreIsNoWorse : Type 0
MoreIsNoWorse =
    (r : Record) (words budget words' : ℕ) → Raised r words budget words' → NoWorse (told (search r words)) (told (search (with_budget r budget) words'))

-- the most that can be asked for gains whatever can be gained: where it is SPENT or ROOM, no less settles anything
abbrev pub MostGainsAll : Type 0
MostGainsAll =
    (r : Record) (words : ℕ) → r.budget ≤ 1_000_000 → words ≤ 1_048_576 → T (is_settled (told (search r words)))
    → told (search (with_budget r 1_000_000) 1_048_576) ≡ told (search r words)

-- the same first checks: every level that a search comes to, one with more comes to as well, with the same boxes in the same order, corner and count
abbrev pub SameFirstChecks : Type 0
SameFirstChecks =
    (r : Record) (words budget words' : ℕ) → Raised r words budget words'
    → (m : ℕ) (k : Depths) (boxes : List Box) (c : Corner) (n : ℕ) → Comes (query r words) m k boxes c n → Comes (query (with_budget r budget) words') m k boxes c n

-- so what the search ruled out, it rules out with more
abbrev pub RuledOutStays : Type 0
RuledOutStays =
    (r : Record) (words budget words' : ℕ) → Raised r words budget words'
    → (k : Depths) (box : Box) → WasDiscarded (query r words) k box → WasDiscarded (query (with_budget r budget) words') k box
