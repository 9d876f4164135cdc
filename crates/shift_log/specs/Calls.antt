-- What each call on an answer file does: the number that comes back, and what is left of what was lent.
use Rattle.std.specs.Prelude.{ℕ, zero, suc, ◌+◌, ◌*◌, ◌≤◌, ◌≡◌, Bool, true, false, not, cond, ◌&&◌, List, [], ◌∷◌, ◌++◌, eqb, length, get_or}
use Rattle.std.proofs.Common.{sym, ap, ◌∙◌, append_assoc, le-ltb}
use Rattle.rules.specs.declared.Told.{Told}
use Rattle.rules.specs.Refusals.{Case, first}
use Rattle.rules.specs.QueryFile.{word, joined, read_from, edition_of, file_form, record_count, place_in, place_of, open_cases, open_refusal, index, space, trailer_bytes}
use Rattle.rules.specs.AnswerFile.{Entry, told_at, entry_at, entry_bytes, answer_form, word_cases, word_refusal, entry_refusal, read_refusal, same_ids}
use Rattle.queries.specs.Writing.{Puts}
use Rattle.answers.specs.Eight.{eight}
use Rattle.answers.specs.Walk.{short, tells_all, queue_from, Does}

-- an id and an answer in numbers, as they stand in the file
abbrev pub bytes_of : ℕ → Told → List ℕ
bytes_of id a = entry_bytes (record { id = id; told = a })

-- eight lent numbers: the id, then the answer
abbrev pub told_in : List ℕ → Told
told_in l = record { word = get_or l 1 0; t = get_or l 2 0; u = get_or l 3 0; v = get_or l 4 0; excess = get_or l 5 0; count = get_or l 6 0; number = get_or l 7 0 }

-- ---- write one: 14 where fewer than eight numbers are lent, then 16, then 14
unfoldable pub writes_refusal : List ℕ → ℕ → List ℕ → ℕ
writes_refusal out at numbers = first (short numbers 8 ∷ (word_cases (told_in numbers) ++ (space out at 32 ∷ [])))

abbrev pub Writes : List ℕ → ℕ → List ℕ → List ℕ → ℕ → Type 0
Writes out at numbers out' number = Puts (writes_refusal out at numbers) (bytes_of (get_or numbers 0 0) (told_in numbers)) out at out' number

-- ---- read one: 8 to 13, 16, then 14 where fewer than eight numbers are lent
unfoldable pub reads_refusal : List ℕ → ℕ → List ℕ → ℕ
reads_refusal s n out = first (open_cases answer_form s ++ (index s n ∷ (word_cases (told_at s (place_in answer_form s n)) ++ (short out 8 ∷ []))))

abbrev pub Reads : List ℕ → ℕ → List ℕ → List ℕ → ℕ → Type 0
Reads s n out out' number =
    let at : ℕ = place_in answer_form s n in Puts (reads_refusal s n out) (eight (word s at) (told_at s at)) out 0 out' number

-- the same of the answer at a place
abbrev pub ReadsAt : List ℕ → ℕ → List ℕ → List ℕ → ℕ → Type 0
ReadsAt s at out out' number = Puts (first (word_cases (told_at s at) ++ (short out 8 ∷ []))) (eight (word s at) (told_at s at)) out 0 out' number

-- ---- match: what the answer file says of a query file that is open, its first record at a place
unfoldable pub match_rest : ℕ → List ℕ → ℕ → ℕ → List ℕ → ℕ
match_rest size s place n log =
    first (open_cases answer_form log ++ (record { number = 17; due = not (eqb n (record_count log) && same_ids size s (place + 4) log (place_in answer_form log 0) n) } ∷ []))

-- ---- a whole query file answered into a whole answer file, from the first byte on: 8 to 12, then 14
unfoldable pub log_refusal : List ℕ → List ℕ → ℕ
log_refusal s out = first (open_cases (file_form s) s ++ (short out (32 * record_count s + 16) ∷ []))

abbrev pub log_bytes : List ℕ → ℕ → List ℕ
log_bytes s words = tells_all bytes_of (edition_of s) s words (record_count s) (place_of s 0) ++ trailer_bytes answer_form (record_count s)

abbrev pub Logs : List ℕ → List ℕ → List ℕ → List ℕ → List ℕ → ℕ → Type 0
Logs s queue queue' out out' number =
    Does (log_refusal s out) (log_bytes s (length queue)) (queue_from (edition_of s) s (record_count s) (place_of s 0) queue) queue queue' out out' number

-- how many bytes that is, and 0 where the query file is refused
unfoldable pub size_unless : ℕ → ℕ → ℕ
size_unless zero n = 32 * n + 16
size_unless (suc k) n = 0

abbrev pub log_size : List ℕ → ℕ
log_size s = size_unless (open_refusal (file_form s) s) (record_count s)

-- ---- every answer of a file that is open, the first at a place

-- reading refuses none of them
unfoldable pub are_taken : List ℕ → ℕ → ℕ → Bool
are_taken s at zero = true
are_taken s at (suc n) = eqb (word_refusal (told_at s at)) 0 && are_taken s (at + 32) n

-- their numbers
abbrev pub entries_told : List ℕ → ℕ → ℕ → List ℕ
entries_told s at n = joined (λ (e : Entry). eight e.id e.told) (read_from entry_at 32 s at n)

-- ---- where numbers enough are lent, these are the rules' own

last_not_due : (cs : List Case) (c : Case) → c.due ≡ false → first (cs ++ (c ∷ [])) ≡ first cs
unfolding first
last_not_due [] c e = ap (λ (t : Bool). cond t c.number 0) e
last_not_due (x ∷ cs) c e = ap (cond x.due x.number) (last_not_due cs c e)

pub writes_by : (out : List ℕ) (at : ℕ) (numbers : List ℕ) → 8 ≤ length numbers → writes_refusal out at numbers ≡ entry_refusal out at (told_in numbers)
unfolding writes_refusal entry_refusal first
writes_by out at numbers h = ap (λ (t : Bool). cond t 14 (first (word_cases (told_in numbers) ++ (space out at 32 ∷ [])))) (le-ltb (length numbers) 8 h)

pub reads_by : (s : List ℕ) (n : ℕ) (out : List ℕ) → 8 ≤ length out → reads_refusal s n out ≡ read_refusal s n
unfolding reads_refusal read_refusal
reads_by s n out h =
    let told = word_cases (told_at s (place_in answer_form s n)) in
    ap first (sym (append_assoc (open_cases answer_form s) (index s n ∷ told) (short out 8 ∷ [])))
    ∙ last_not_due (open_cases answer_form s ++ (index s n ∷ told)) (short out 8) (le-ltb (length out) 8 h)
