use native.Mathlib.Omega.{arith}
use Rattle.text.specs.Text.{line}
use Rattle.text.proofs.Writing.{then, roomier}
use Rattle.text.proofs.write_line.Goals as goal

pub returns : goal.returns
unfolding line
returns c =
    let e = then (then (then c.write_number-name_at.ensures c.write_name-values_at.ensures (omega arith))
    c.write_values-end_at.ensures (omega arith))
    c.write_byte.ensures (omega arith) in
    roomier e (omega (arith, e.few))
