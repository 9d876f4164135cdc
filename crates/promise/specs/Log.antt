-- R-1: every answer of the written search can be written in an answer file, of every record with every number of words. It never gets 16.
use Rattle.std.specs.Prelude.{ℕ, ◌≡◌}
use Rattle.rules.specs.declared.Record.{Record}
use Rattle.rules.specs.Answers.{told}
use Rattle.rules.specs.Search.{search}
use Rattle.rules.specs.AnswerFile.{word_refusal}

abbrev pub CanBeWritten : Type 0
CanBeWritten = (r : Record) (words : ℕ) → word_refusal (told (search r words)) ≡ 0
