-- Document 02, R-1: the answer file, over the form that opens and ends query files; 16 WORD and 17 MATCH.
use Rattle.std.specs.Prelude.{ℕ, zero, suc, ◌+◌, Bool, true, not, ◌&&◌, ◌||◌, List, [], ◌∷◌, ◌++◌, ltb, eqb}
use Rattle.rules.specs.declared.Form.{Form}
use Rattle.rules.specs.declared.Told.{Told}
use Rattle.rules.specs.Answers.{has_moment}
use Rattle.rules.specs.Refusals.{Case, first}
use Rattle.rules.specs.QueryFile.{word, word_bytes, form_bytes, record_count, file_form, place_in, open_cases, index, space}

-- ---- the record

-- what stands for one record: its id, and its answer in numbers
pub record Entry : Type 0 where
  pub id : ℕ
  pub told : Told

-- "records of 32 bytes (id, word, t, u, v, excess, count, refusal number, 32 bits each, little-endian)"
unfoldable pub told_at : List ℕ → ℕ → Told
told_at s at = record {
  word = word s (at + 4);
  t = word s (at + 8);
  u = word s (at + 12);
  v = word s (at + 16);
  excess = word s (at + 20);
  count = word s (at + 24);
  number = word s (at + 28);
}

abbrev pub entry_at : List ℕ → ℕ → Entry
entry_at s at = record { id = word s at; told = told_at s at }

unfoldable pub entry_bytes : Entry → List ℕ
entry_bytes e =
    word_bytes e.id
    ++ word_bytes e.told.word
    ++ word_bytes e.told.t
    ++ word_bytes e.told.u
    ++ word_bytes e.told.v
    ++ word_bytes e.told.excess
    ++ word_bytes e.told.count
    ++ word_bytes e.told.number

-- ---- the file

-- "then a trailer like the query file's, edition 1, with the mark `AEND`", whatever the queries' edition is
abbrev pub answer_form : Form
answer_form = record { mark = 65 ∷ 69 ∷ 78 ∷ 68 ∷ []; edition = 1; size = 32 }

abbrev pub answer_bytes : List ℕ → List Entry → List ℕ
answer_bytes = form_bytes answer_form entry_bytes

-- ---- 16 WORD

-- "word 0 for a refused record": it carries its number, and every other word a count; `has_moment` says which carry t, u, v and the excess
abbrev pub is_refused : Told → Bool
is_refused a = eqb a.word 0

-- "unused fields zero", the four of a moment
abbrev pub no_moment : Told → Bool
no_moment a = eqb a.t 0 && eqb a.u 0 && eqb a.v 0 && eqb a.excess 0

-- "when the word is above 5, t, u or v is above 1,048,575, an answer's count is 0 or above 1,000,000, word 0 has refusal number 0, or an unused field isn't zero"
abbrev pub wrong : Bool → Case
wrong due = record { number = 16; due = due }

abbrev pub word_cases : Told → List Case
word_cases a =
    wrong (ltb 5 a.word)
    ∷ wrong (ltb 1_048_575 a.t || ltb 1_048_575 a.u || ltb 1_048_575 a.v)
    ∷ wrong (not (is_refused a) && (eqb a.count 0 || ltb 1_000_000 a.count))
    ∷ wrong (is_refused a && eqb a.number 0)
    ∷ wrong (not (has_moment a) && not (no_moment a))
    ∷ wrong (is_refused a && not (eqb a.count 0))
    ∷ wrong (not (is_refused a) && not (eqb a.number 0))
    ∷ []

unfoldable pub word_refusal : Told → ℕ
word_refusal a = first (word_cases a)

-- ---- writing and reading

-- "on writing before 14"
unfoldable pub entry_refusal : List ℕ → ℕ → Told → ℕ
entry_refusal s at a = first (word_cases a ++ (space s at 32 ∷ []))

-- "on reading after 13"
unfoldable pub read_refusal : List ℕ → ℕ → ℕ
read_refusal s n = first (open_cases answer_form s ++ (index s n ∷ word_cases (told_at s (place_in answer_form s n))))

-- ---- 17 MATCH

-- the ids of so many records, the first at a place, each `size` bytes behind the one before, in order and nothing else of them
unfoldable pub same_ids : ℕ → List ℕ → ℕ → List ℕ → ℕ → ℕ → Bool
same_ids size s at log to zero = true
same_ids size s at log to (suc n) = eqb (word s at) (word log to) && same_ids size s (at + size) log (to + 32) n

-- "A query file, opened first, is matched with its answers by count and by ids in order, nothing else." A query's id stands 4 bytes behind its start
abbrev pub matches : List ℕ → List ℕ → Bool
matches s log =
    eqb (record_count s) (record_count log) && same_ids (file_form s).size s (place_in (file_form s) s 0 + 4) log (place_in answer_form log 0) (record_count s)

-- "new 17 MATCH, last, when counts or ids differ"
unfoldable pub match_refusal : List ℕ → List ℕ → ℕ
match_refusal s log = first (open_cases (file_form s) s ++ (open_cases answer_form log ++ (record { number = 17; due = not (matches s log) } ∷ [])))
