use Rattle.text.proofs.Rows.{Lined}
use Rattle.text.proofs.write_lines.Given as goal

-- `text::write_lines` meets its contract. The loop's invariant: what is written and the lines of what is left make the whole. Assumes nothing.
abbrev pub invariant-loop-i : goal.invariant-loop-i
invariant-loop-i l = Lined l.told l.initial.out l.n l.i l.at l.out
