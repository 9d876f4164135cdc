-- Document 01, the end of "Berth examples": what `sweep` prints of an input.
use Rattle.std.specs.Prelude.{ℕ, zero, suc, Bool, List, ◌∷◌, leb, ltb, Option, length}
use Rattle.rules.specs.Refusals.{first}
use Rattle.rules.specs.QueryFile.{edition_of, file_form, open_cases, record_count, place_of}
use Rattle.answers.specs.Walk.{tells_from}
use Rattle.text.specs.Text.{rows, file_text, refused_text}
use Rattle.text.specs.Writers.{Printed}

-- "`sweep` gives 15 before anything else": 15 LONG, "input over 65,536 bytes"; then opening's 8 to 12
unfoldable pub sweep_refusal : List ℕ → ℕ
sweep_refusal file = first (record { number = 15; due = ltb 65_536 (length file) } ∷ open_cases (file_form file) file)

-- "reads a query file .. with 4,096 words": what is told of its records
abbrev pub sweep_told : List ℕ → List ℕ
sweep_told file = tells_from (edition_of file) file 4_096 (record_count file) (place_of file 0)

-- "A refused file prints only `FILE` and the number."
unfoldable pub page_unless : ℕ → List ℕ → List ℕ
page_unless zero text = text
page_unless (suc k) text = refused_text (suc k)

-- "prints a line a record .. Then one TOTAL line."
unfoldable pub sweep_text : List ℕ → List ℕ
sweep_text file = page_unless (sweep_refusal file) (file_text (rows (record_count file) (sweep_told file)))

-- 45,280 bytes hold any of these texts: 80 bytes a line for the 564 records that 65,536 bytes hold, and 160 for TOTAL
abbrev pub room_for_page : List ℕ → Bool
room_for_page buffer = leb 45_280 (length buffer)

-- the text from the first place on, and no other byte changed; or nothing where there is no room
abbrev pub Paged : List ℕ → List ℕ → List ℕ → Option ℕ → Type 0
Paged file out out' answer = Printed (room_for_page out) (sweep_text file) out out' answer
