-- Document 01, "What comes back": rows 1 to 7 of the table, and their order; with 22 CAP of document 02, R-7.
use Rattle.std.specs.Prelude.{ℕ, zero, suc, Bool, true, not, ◌&&◌, ◌||◌, cond, List, [], ◌∷◌, ◌++◌, ℤ, leb, eqb, Result, Ok, Err}
use Rattle.rules.specs.declared.Record.{Record}
use Rattle.rules.specs.declared.Refusal.{Refusal}
use Rattle.rules.specs.declared.Refusal.TheVariants.{Kind, Flags, Coord, Separation, Tolerance, Budget, Queue, Short, Mark, Edition, Count, Back, Index, Space, Long, Word, Match, Body, Cap, Domain, Later, Bounds}
use Rattle.rules.specs.Numbers.{limits_of, is_coordinate, is_separation, is_tolerance, is_budget, is_cap, is_queue}

-- a row of the table: its number, and whether it is given
pub record Case : Type 0 where
  pub number : ℕ
  pub due : Bool

-- the number of a row
abbrev pub number_of : Refusal → ℕ
number_of Kind = 1
number_of Flags = 2
number_of Coord = 3
number_of Separation = 4
number_of Tolerance = 5
number_of Budget = 6
number_of Queue = 7
number_of Short = 8
number_of Mark = 9
number_of Edition = 10
number_of Count = 11
number_of Back = 12
number_of Index = 13
number_of Space = 14
number_of Long = 15
number_of Word = 16
number_of Match = 17
number_of Body = 21
number_of Cap = 22
number_of Domain = 23
number_of Later = 24
number_of Bounds = 27

-- what a result is refused with; 0 where it is not
abbrev pub refusal_in : {T : Type 0} → Result T Refusal → ℕ
refusal_in (Ok x) = 0
refusal_in (Err r) = number_of r

-- a result with its refusal as a number
abbrev pub numbered : {T : Type 0} → Result T Refusal → Result T ℕ
numbered (Ok x) = Ok x
numbered (Err r) = Err (number_of r)

-- "lowest number first": the number of the first row that is due; 0 where none is
unfoldable pub first : List Case → ℕ
first [] = 0
first (c ∷ cs) = cond c.due c.number (first cs)

-- one number, or another where it is none (0)
abbrev pub or_else : ℕ → ℕ → ℕ
or_else zero m = m
or_else (suc n) m = suc n

-- whether all of them are such
unfoldable pub every : (ℤ → Bool) → List ℤ → Bool
every f [] = true
every f (c ∷ cs) = f c && every f cs

-- "a flag bit above bit 0, or byte 2 or 3 not zero"; "2 no longer covers" the word at 28 (document 02, R-7)
abbrev pub are_flags : Record → Bool
are_flags r = leb r.flags 1 && eqb r.byte2 0 && eqb r.byte3 0

-- "4 for any of the three" (document 02, R-4)
abbrev pub are_separations : Record → Bool
are_separations r = is_separation r.dx && is_separation r.dy && is_separation r.dz

-- 1 KIND, 2 FLAGS, 3 COORD, 4 SEPARATION, 5 TOLERANCE, 6 BUDGET, each "given exactly when"; "22 CAP for a larger word, after 6 and before 7"
-- (document 02, R-7); 4 also where there is no room for the separations, and 22 where there is none for the cap
abbrev pub cases_with : Bool → Bool → Record → List Case
cases_with room capRoom r =
    record { number = 1; due = not (eqb r.kind 1 || eqb r.kind 2) }
    ∷ record { number = 2; due = not (are_flags r) }
    ∷ record { number = 3; due = not (every (is_coordinate (limits_of r.edition)) r.points) }
    ∷ record { number = 4; due = not (room && are_separations r) }
    ∷ record { number = 5; due = not (is_tolerance (limits_of r.edition) r.tolerance) }
    ∷ record { number = 6; due = not (is_budget r.budget) }
    ∷ record { number = 22; due = not (capRoom && is_cap r.cap) }
    ∷ []

-- a record by itself has room for them
abbrev pub record_cases : Record → List Case
record_cases = cases_with true true

-- what a record is refused for by itself
unfoldable pub record_refusal : Record → ℕ
record_refusal r = first (record_cases r)

-- "Search: 1 to 7": 7 QUEUE, "word count outside its range", after the record's own
unfoldable pub search_refusal : Record → ℕ → ℕ
search_refusal r words = first (record_cases r ++ (record { number = 7; due = not (is_queue words) } ∷ []))
