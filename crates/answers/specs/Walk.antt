-- The records of a file searched one after the other, each as if it were alone.
use Rattle.std.specs.Prelude.{ℕ, zero, suc, ◌+◌, ◌*◌, ◌≡◌, List, [], ◌∷◌, ◌++◌, ltb, length}
use Rattle.rules.specs.declared.Record.{Record}
use Rattle.rules.specs.declared.Told.{Told}
use Rattle.rules.specs.declared.Form.{Form}
use Rattle.rules.specs.Answers.{told, queue_after}
use Rattle.rules.specs.Refusals.{Case, first}
use Rattle.rules.specs.Search.{search}
use Rattle.rules.specs.QueryFile.{joined, read_from, record_size, record_at, edition_of, file_form, record_count, place_of, open_cases, index, put_unless}
use Rattle.queries.specs.Writing.{Puts}
use Rattle.answers.specs.Eight.{eight}

-- what is told of a record that is searched with so many words, by how an id and an answer in numbers are told
unfoldable pub tells_by : (ℕ → Told → List ℕ) → Record → ℕ → List ℕ
tells_by by r words = by r.id (told (search r words))

-- of n records of an edition, the first at a place
abbrev pub tells_all : (ℕ → Told → List ℕ) → ℕ → List ℕ → ℕ → ℕ → ℕ → List ℕ
tells_all by edition s words n at = joined (λ (r : Record). tells_by by r words) (read_from (record_at edition) (record_size edition) s at n)

-- in eight numbers
abbrev pub tells : Record → ℕ → List ℕ
tells = tells_by eight

abbrev pub tells_from : ℕ → List ℕ → ℕ → ℕ → ℕ → List ℕ
tells_from = tells_all eight

-- the queue after them: each leaves it as the search does
unfoldable pub queue_from : ℕ → List ℕ → ℕ → ℕ → List ℕ → List ℕ
queue_from edition s zero at queue = queue
queue_from edition s (suc n) at queue = queue_from edition s n (at + record_size edition) (queue_after (search (record_at edition s at) (length queue)) queue)

-- 14: fewer numbers are lent than are to be told
abbrev pub short : List ℕ → ℕ → Case
short out n = record { number = 14; due = ltb (length out) n }

-- a refused question leaves the queue
unfoldable pub queue_unless : ℕ → List ℕ → List ℕ → List ℕ
queue_unless zero before after = after
queue_unless (suc k) before after = before

-- what a question does: the number that comes back (0: it is not refused), what is told from the first place on, and what is left of the queue
pub record Does (refusal : ℕ) (numbers after queue queue' out out' : List ℕ) (number : ℕ) : Type 0 where
  pub says : number ≡ refusal
  pub told : out' ≡ put_unless number out 0 numbers
  pub left : queue' ≡ queue_unless number queue after

-- ---- record n of a file

-- 8 to 13, then 14
unfoldable pub one_refusal : List ℕ → ℕ → List ℕ → ℕ
one_refusal s n out = first (open_cases (file_form s) s ++ (index s n ∷ short out 8 ∷ []))

abbrev pub One : List ℕ → ℕ → List ℕ → List ℕ → List ℕ → List ℕ → ℕ → Type 0
One s n queue queue' out out' number =
    let r : Record = record_at (edition_of s) s (place_of s n) in
    Does (one_refusal s n out) (tells r (length queue)) (queue_after (search r (length queue)) queue) queue queue' out out' number

-- ---- every record of a file

-- 8 to 12, then 14
unfoldable pub all_refusal : List ℕ → List ℕ → ℕ
all_refusal s out = first (open_cases (file_form s) s ++ (short out (8 * record_count s) ∷ []))

abbrev pub Every : List ℕ → List ℕ → List ℕ → List ℕ → List ℕ → ℕ → Type 0
Every s queue queue' out out' number =
    Does (all_refusal s out) (tells_from (edition_of s) s (length queue) (record_count s) (place_of s 0)) (queue_from (edition_of s) s (record_count s) (place_of s 0) queue) queue queue' out out' number

-- ---- how many records a file of a form has

-- 8 to 12, then 14
unfoldable pub count_refusal : Form → List ℕ → List ℕ → ℕ
count_refusal form s out = first (open_cases form s ++ (short out 1 ∷ []))

abbrev pub Counted : Form → List ℕ → List ℕ → List ℕ → ℕ → Type 0
Counted form s out out' number = Puts (count_refusal form s out) (record_count s ∷ []) out 0 out' number
