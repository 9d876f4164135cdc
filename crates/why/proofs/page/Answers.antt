-- 15 first; else the answer of the record, whose box is one of the grid.
use Rattle.std.specs.Prelude.{ℕ, ◌≡◌, List, true, length}
use Rattle.std.proofs.Common.{sym, arith, lt-ltb, le-ltb}
use Rattle.rules.specs.declared.Three.{Three}
use Rattle.rules.specs.declared.Ruling.{Ruling}
use Rattle.rules.specs.declared.Ruling.TheVariants.{Discarded, Refused}
use Rattle.reasons.specs.Telling.{file_ruling}
use Rattle.reasons.specs.Laws.{on_grid}
use Rattle.wording.specs.Line.{Drawn}
use Rattle.why.specs.Page.{page_ruling}
use Rattle.why.proofs.page.Goals as goal

drawn : (file : List ℕ) (n : ℕ) (at : Three) (words : ℕ) (a : Ruling) → a ≡ file_ruling file n at true words → Drawn a
drawn file n at words (Discarded x) e = on_grid file n at true words x (sym e)
drawn file n at words (Refused k) e = tt

pub returns-then-file-gt-MOST : goal.returns-then-file-gt-MOST
unfolding page_ruling
returns-then-file-gt-MOST c = rw (lt-ltb 65536 (length c.args.file.now) (omega arith), ← c.number.ensures) c.write_ruling.ensures

pub write_ruling-requires-2 : goal.write_ruling-requires-2
write_ruling-requires-2 c = (c.requires, drawn c.args.file.now c.args.n c.args.at 4096 _ c.rule-a.ensures.says)

pub returns : goal.returns
unfolding page_ruling
returns c = rw (le-ltb 65536 (length c.args.file.now) (omega arith), ← c.rule-a.ensures.says) c.write_ruling-2.ensures
