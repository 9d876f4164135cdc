-- Document 01's printed example, and that the definitions meet an answer's own numbers.
use Rattle.std.specs.Prelude.{ℕ, ◌≡◌, refl, List, [], ◌∷◌, ◌++◌}
use Rattle.std.proofs.Common.{append_assoc}
use Rattle.rules.specs.Answers.{told}
use Rattle.rules.specs.declared.Answer.TheVariants.{Met, Clear, Spent, Refused}
use Rattle.text.specs.Text.{ascii, digits, decimal, field, kind_of, named, values, line, lines, tally, tallied, tallies, total, file_text, refused_text, row_of, rows}

-- "records with ids 1 to 3, the first case, the CLEAR of count 10, and budget 4"
abbrev pub example : List ℕ
example =
    1 ∷ 1 ∷ 262144 ∷ 0 ∷ 0 ∷ 500 ∷ 5 ∷ 0
    ∷ 2 ∷ 2 ∷ 0 ∷ 0 ∷ 0 ∷ 0 ∷ 10 ∷ 0
    ∷ 3 ∷ 3 ∷ 0 ∷ 0 ∷ 0 ∷ 1000 ∷ 4 ∷ 0
    ∷ []

pub example_is_answers :
    rows 3 example
    ≡ record { id = 1; answer = told (Met 262144 0 0 500 5) }
    ∷ record { id = 2; answer = told (Clear 10) }
    ∷ record { id = 3; answer = told (Spent 0 0 0 1000 4) }
    ∷ []
unfolding rows row_of
example_is_answers = refl

pub example_text :
    file_text (rows 3 example)
    ≡ ascii "1 MET 262144 0 0 500 5\n2 CLEAR 0 0 0 0 10\n3 SPENT 0 0 0 1000 4\nTOTAL 3 MET 1 CLEAR 1 SPENT 1 ROOM 0 FLOOR 0 REFUSED 0\n"
unfolding digits decimal field kind_of named values line lines tally tallied tallies total file_text row_of rows
example_text = refl

-- "zeros for the four middle numbers of CLEAR", whatever the id and the count
pub clear_line : (id count : ℕ) → line (record { id = id; answer = told (Clear count) }) ≡ decimal id ++ ascii " CLEAR 0 0 0 0 " ++ decimal count ++ ascii "\n"
unfolding digits decimal field kind_of named values line
clear_line id count = simp append_assoc

-- "for a refused record: id, REFUSED, number", and the largest number of 32 bits
pub refused_line : line (record { id = 4294967295; answer = told (Refused 5) }) ≡ ascii "4294967295 REFUSED 5\n"
unfolding digits decimal field kind_of named values line
refused_line = refl

pub refused_file : refused_text 12 ≡ ascii "FILE 12\n"
unfolding digits decimal field refused_text
refused_file = refl
