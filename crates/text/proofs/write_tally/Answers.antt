use native.Mathlib.Omega.{arith}
use Rattle.text.specs.Text.{tallied}
use Rattle.text.proofs.Writing.{then}
use Rattle.text.proofs.write_tally.Goals as goal

pub returns : goal.returns
unfolding tallied
returns c =
    rw (← c.count_word.ensures) (then c.write_name-number_at.ensures c.write_field.ensures (omega arith))
