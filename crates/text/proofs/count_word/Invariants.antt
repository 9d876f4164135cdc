use Rattle.text.proofs.Rows.{Counted}
use Rattle.text.proofs.count_word.Given as goal

-- `text::count_word` meets its contract. The loop's invariant: what is counted and the tally of what is left make the whole. Assumes nothing.
abbrev pub invariant-loop-i : goal.invariant-loop-i
invariant-loop-i l = Counted l.told l.n l.k l.i l.sum
