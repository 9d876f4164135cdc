-- Document 02, R-1: an answer file's records, its trailer, and what is refused of them. Each byte and number is worked out by hand.
use Rattle.std.specs.Prelude.{ℕ, ◌*◌, ◌≡◌, refl, List, [], ◌∷◌, ◌++◌, map, pos, replicate, take}
use Rattle.rules.specs.declared.Record.{Record}
use Rattle.rules.specs.Refusals.{first}
use Rattle.rules.specs.QueryFile.{word, word_bytes, bits, stands, coordinate_bytes, bytes_by, trailer_bytes, joined, form_bytes, file_bytes}
use Rattle.rules.specs.AnswerFile.{Entry, told_at, entry_bytes, answer_form, answer_bytes, word_refusal, entry_refusal, read_refusal, same_ids, match_refusal}

-- id, word, t, u, v, excess, count, refusal number
abbrev pub entry : ℕ → ℕ → ℕ → ℕ → ℕ → ℕ → ℕ → ℕ → Entry
entry id word t u v excess count number = record { id = id; told = record { word = word; t = t; u = u; v = v; excess = excess; count = count; number = number } }

-- ---- the bytes

-- the berth's first case; the CLEAR of count 10; budget 4; a query that is refused 5
abbrev pub one : Entry
one = entry 1 1 262144 0 0 500 5 0

abbrev pub two : Entry
two = entry 2 2 0 0 0 0 10 0

abbrev pub three : Entry
three = entry 3 3 0 0 0 1000 4 0

abbrev pub four : Entry
four = entry 4 0 0 0 0 0 0 5

-- a number under 256, and none
abbrev pub small : ℕ → List ℕ
small n = n ∷ 0 ∷ 0 ∷ 0 ∷ []

abbrev pub none : ℕ → List ℕ
none words = replicate (4 * words) 0

pub entries_written : map entry_bytes (one ∷ two ∷ three ∷ four ∷ [])
    ≡ (small 1 ++ small 1 ++ (0 ∷ 0 ∷ 4 ∷ 0 ∷ []) ++ none 2 ++ (244 ∷ 1 ∷ 0 ∷ 0 ∷ []) ++ small 5 ++ none 1)
    ∷ (small 2 ++ small 2 ++ none 4 ++ small 10 ++ none 1)
    ∷ (small 3 ++ small 3 ++ none 3 ++ (232 ∷ 3 ∷ 0 ∷ 0 ∷ []) ++ small 4 ++ none 1)
    ∷ (small 4 ++ none 6 ++ small 5)
    ∷ []
unfolding entry_bytes word_bytes
entries_written = refl

-- "a trailer like the query file's, edition 1, with the mark `AEND`", behind four answers and behind none
pub ends_written : map (trailer_bytes answer_form) (4 ∷ 0 ∷ [])
    ≡ ((65 ∷ 69 ∷ 78 ∷ 68 ∷ []) ++ small 1 ++ small 128 ++ small 4) ∷ ((65 ∷ 69 ∷ 78 ∷ 68 ∷ []) ++ small 1 ++ none 2) ∷ []
unfolding trailer_bytes word_bytes
ends_written = refl

-- ---- 16 WORD

pub record WordRow : Type 0 where
  pub entry : Entry
  pub number : ℕ

abbrev pub gives : Entry → ℕ → WordRow
gives e number = record { entry = e; number = number }

abbrev pub word_rows : List WordRow
word_rows =
    -- what the search answers
    gives one 0
    ∷ gives two 0
    ∷ gives three 0
    ∷ gives four 0
    -- "the word is above 5"
    ∷ gives (entry 1 6 0 0 0 0 1 0) 16
    ∷ gives (entry 1 5 3 0 0 4 9 0) 0
    -- "t, u or v is above 1,048,575"; no bound on the excess
    ∷ gives (entry 1 1 1048576 0 0 0 1 0) 16
    ∷ gives (entry 1 3 0 1048576 0 0 1 0) 16
    ∷ gives (entry 1 4 0 0 1048576 0 1 0) 16
    ∷ gives (entry 1 1 1048575 1048575 1048575 4294967295 1000000 0) 0
    -- "an answer's count is 0 or above 1,000,000"
    ∷ gives (entry 1 1 0 0 0 0 0 0) 16
    ∷ gives (entry 1 2 0 0 0 0 0 0) 16
    ∷ gives (entry 1 1 0 0 0 0 1000001 0) 16
    -- "word 0 has refusal number 0"; no other bound on that number
    ∷ gives (entry 9 0 0 0 0 0 0 0) 16
    ∷ gives (entry 9 0 0 0 0 0 0 4294967295) 0
    -- "an unused field isn't zero": CLEAR's four and its number, a refused record's four and its count, another's number
    ∷ gives (entry 1 2 1 0 0 0 5 0) 16
    ∷ gives (entry 1 2 0 1 0 0 5 0) 16
    ∷ gives (entry 1 2 0 0 1 0 5 0) 16
    ∷ gives (entry 1 2 0 0 0 1 5 0) 16
    ∷ gives (entry 1 2 0 0 0 0 5 1) 16
    ∷ gives (entry 9 0 1 0 0 0 0 5) 16
    ∷ gives (entry 9 0 0 1 0 0 0 5) 16
    ∷ gives (entry 9 0 0 0 1 0 0 5) 16
    ∷ gives (entry 9 0 0 0 0 1 0 5) 16
    ∷ gives (entry 9 0 0 0 0 0 1 5) 16
    ∷ gives (entry 1 1 0 0 0 0 1 7) 16
    ∷ []

pub words : map (λ (r : WordRow). word_refusal r.entry.told) word_rows ≡ map (λ (r : WordRow). r.number) word_rows
unfolding word_refusal first
words = refl

-- "on writing before 14": 31 bytes of room
pub written_in_order : map (λ (e : Entry). entry_refusal (replicate 31 0) 0 e.told) (entry 1 6 0 0 0 0 1 0 ∷ entry 1 2 0 0 0 0 1 0 ∷ []) ≡ 16 ∷ 14 ∷ []
unfolding entry_refusal first
written_in_order = refl

-- ---- 17 MATCH

-- a query that has an id, and is refused 5
abbrev pub asks : ℕ → Record
asks id = record { kind = 1; flags = 0; byte2 = 0; byte3 = 0; id = id; dx = 0; dy = 0; dz = 0; tolerance = 0; budget = 0; cap = 0; edition = 1; points = replicate 24 (pos 0) }

abbrev pub asked : List ℕ
asked = file_bytes 1 [] (asks 1 ∷ asks 2 ∷ asks 3 ∷ asks 4 ∷ [])

-- its first answer with word 77, behind a free byte
abbrev pub odd : List ℕ
odd = answer_bytes (7 ∷ []) (entry 1 77 262144 0 0 500 5 0 ∷ two ∷ three ∷ four ∷ [])

pub record MatchRow : Type 0 where
  pub queries : List ℕ
  pub answers : List ℕ
  pub number : ℕ

abbrev pub against : List ℕ → List ℕ → ℕ → MatchRow
against queries answers number = record { queries = queries; answers = answers; number = number }

abbrev pub match_rows : List MatchRow
match_rows =
    -- "by count and by ids in order, nothing else": the four; the first two exchanged; three; five; another id for the refused one, and for an accepted one; a word that reading refuses
    against asked (answer_bytes [] (one ∷ two ∷ three ∷ four ∷ [])) 0
    ∷ against asked (answer_bytes [] (two ∷ one ∷ three ∷ four ∷ [])) 17
    ∷ against asked (answer_bytes [] (one ∷ two ∷ three ∷ [])) 17
    ∷ against asked (answer_bytes [] (one ∷ two ∷ three ∷ four ∷ four ∷ [])) 17
    ∷ against asked (answer_bytes [] (one ∷ two ∷ three ∷ entry 5 0 0 0 0 0 0 5 ∷ [])) 17
    ∷ against asked (answer_bytes [] (one ∷ two ∷ entry 1 3 0 0 0 1000 4 0 ∷ four ∷ [])) 17
    ∷ against asked odd 0
    -- "A query file, opened first": its last byte lost, whatever the answers are; then the answers, with the mark QEND
    ∷ against (take 479 asked) asked 9
    ∷ against asked asked 9
    ∷ []

pub matched : map (λ (r : MatchRow). match_refusal r.queries r.answers) match_rows ≡ map (λ (r : MatchRow). r.number) match_rows
unfolding match_refusal same_ids word stands first form_bytes joined trailer_bytes entry_bytes bytes_by coordinate_bytes word_bytes bits
matched = refl

-- "on reading after 13": that word; the answer behind it; past the last
pub read_in_order : map (read_refusal odd) (0 ∷ 1 ∷ 4 ∷ []) ≡ 16 ∷ 0 ∷ 13 ∷ []
unfolding read_refusal told_at word stands first form_bytes joined trailer_bytes entry_bytes word_bytes
read_in_order = refl
