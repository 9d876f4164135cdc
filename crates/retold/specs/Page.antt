-- What `tell` prints of an answer file: the lines that `sweep` prints of the queries, told from the file (document 02, R-1).
use Rattle.std.specs.Prelude.{ℕ, Bool, not, List, [], ◌∷◌, ◌++◌, leb, ltb, Option, length}
use Rattle.rules.specs.Refusals.{Case, first}
use Rattle.rules.specs.QueryFile.{record_count, place_in, open_cases}
use Rattle.rules.specs.AnswerFile.{answer_form}
use Rattle.shift_log.specs.Calls.{are_taken, entries_told}
use Rattle.text.specs.Text.{rows, file_text}
use Rattle.text.specs.Writers.{Printed}
use Rattle.page.specs.Page.{page_unless}

-- 15 LONG, an input over 262,144 bytes, before anything else; then opening's 8 to 12; then 16 where reading refuses an answer
abbrev pub tell_cases : List ℕ → List Case
tell_cases log = open_cases answer_form log ++ (record { number = 16; due = not (are_taken log (place_in answer_form log 0) (record_count log)) } ∷ [])

unfoldable pub tell_refusal : List ℕ → ℕ
tell_refusal log = first (record { number = 15; due = ltb 262_144 (length log) } ∷ tell_cases log)

-- the numbers of its answers
abbrev pub tell_told : List ℕ → List ℕ
tell_told log = entries_told log (place_in answer_form log 0) (record_count log)

-- a line an answer, then TOTAL; a refused file prints only `FILE` and the number
unfoldable pub tell_text : List ℕ → List ℕ
tell_text log = page_unless (tell_refusal log) (file_text (rows (record_count log) (tell_told log)))

-- 327,840 bytes hold any of these texts: 80 bytes a line for 4,096 answers, and 160 for TOTAL
abbrev pub room_for_told : List ℕ → Bool
room_for_told buffer = leb 327_840 (length buffer)

-- the text from the first place on, and no other byte changed; or nothing where there is no room
abbrev pub Retold : List ℕ → List ℕ → List ℕ → Option ℕ → Type 0
Retold log out out' answer = Printed (room_for_told out) (tell_text log) out out' answer
