use native.Mathlib.Omega.{arith}
use Rattle.text.proofs.Writing.{then, roomier}
use Rattle.wording.specs.Line.{three}
use Rattle.wording.proofs.write_three.Goals as goal

pub returns : goal.returns
unfolding three
returns c =
    let e = then (then c.write_field-u_at.ensures c.write_field-v_at.ensures (omega (arith, c.requires.0))) c.write_field.ensures (omega (arith, c.requires.0)) in
    roomier e (omega (arith, e.few))
