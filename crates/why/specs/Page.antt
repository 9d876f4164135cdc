-- What `why` prints of a query file, a record's number and a point, with so many queue words.
use Rattle.std.specs.Prelude.{ℕ, cond, List, ltb, length, true}
use Rattle.rules.specs.declared.Three.{Three}
use Rattle.rules.specs.declared.Ruling.{Ruling}
use Rattle.rules.specs.declared.Ruling.TheVariants.{Refused}
use Rattle.reasons.specs.Telling.{file_ruling}
use Rattle.wording.specs.Line.{why_text}

-- 15 LONG, "input over 65,536 bytes", before anything else; there is room for the numbers
unfoldable pub page_ruling : List ℕ → ℕ → Three → ℕ → Ruling
page_ruling file n at words = cond (ltb 65_536 (length file)) (Refused 15) (file_ruling file n at true words)

abbrev pub why_page : List ℕ → ℕ → Three → ℕ → List ℕ
why_page file n at words = why_text (page_ruling file n at words)
