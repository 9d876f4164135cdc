-- A record of a query file asked about a point (document 02, R-8): the refusals in their order, the answer, the numbers that are told and the queue.
use Rattle.std.specs.Prelude.{ℕ, ◌≡◌, Bool, not, List, [], ◌∷◌, leb, length}
use Rattle.rules.specs.declared.Record.{Record}
use Rattle.rules.specs.declared.Three.{Three}
use Rattle.rules.specs.declared.Ruling.{Ruling}
use Rattle.rules.specs.Refusals.{Case, first, or_else, search_refusal}
use Rattle.rules.specs.QueryFile.{fetched, put_unless}
use Rattle.rules.specs.Why.{from_whole, outside, not_ruled_out, unless_why, why_queue_after, told_why}

-- record n of a file
abbrev pub asked : List ℕ → ℕ → Record
asked file n = (fetched file n).query

-- 14 SPACE: there is no room for what is to be told
abbrev pub space : Bool → Case
space room = record { number = 14; due = not room }

-- fetching's refusals (8 to 13, then the record's own 1 to 6 and 22), then the search's 7, then 23, 14 and 24
unfoldable pub file_refusal : List ℕ → ℕ → Three → Bool → ℕ → ℕ
file_refusal file n at room words =
    or_else (fetched file n).refusal
    (or_else (search_refusal (asked file n) words) (first (outside (asked file n) at ∷ space room ∷ not_ruled_out (asked file n) words at ∷ [])))

unfoldable pub file_ruling : List ℕ → ℕ → Three → Bool → ℕ → Ruling
file_ruling file n at room words = unless_why (file_refusal file n at room words) (from_whole (asked file n) words at)

-- the answer, and the queue after it
pub record Rules (file : List ℕ) (n : ℕ) (at : Three) (room : Bool) (queue queue' : List ℕ) (answer : Ruling) : Type 0 where
  pub says : answer ≡ file_ruling file n at room (length queue)
  pub left : queue' ≡ why_queue_after (file_refusal file n at room (length queue)) queue

-- the number that comes back (0: not refused), the nine numbers from the first place on where there is room for them, and the queue
pub record TellsWhy (file : List ℕ) (n : ℕ) (at : Three) (queue queue' out out' : List ℕ) (number : ℕ) : Type 0 where
  pub says : number ≡ file_refusal file n at (leb 9 (length out)) (length queue)
  pub told : out' ≡ put_unless number out 0 (told_why (file_ruling file n at (leb 9 (length out)) (length queue)))
  pub left : queue' ≡ why_queue_after number queue
