-- What is written and the tallies of the words to come make the whole.
use Rattle.text.proofs.Rows.{Tallied}
use Rattle.text.proofs.write_tallies.Given as goal

abbrev pub invariant-loop-word : goal.invariant-loop-word
invariant-loop-word l = Tallied l.told l.n l.initial.out l.at l.word-index l.end l.out
