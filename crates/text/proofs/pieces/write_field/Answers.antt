use native.Mathlib.Omega.{arith}
use Rattle.text.specs.Text.{field}
use Rattle.text.proofs.Writing.{then}
use Rattle.text.proofs.pieces.write_field.Goals as goal

pub returns : goal.returns
unfolding field
returns c =
    then c.write_byte-digits.ensures c.write_number.ensures (omega arith)
