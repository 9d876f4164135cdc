use native.Mathlib.Omega.{arith}
use Rattle.text.proofs.Writing.{then, roomier}
use Rattle.wording.specs.Line.{percent}
use Rattle.wording.proofs.write_percent.Goals as goal

pub returns : goal.returns
unfolding percent
returns c =
    let e = then (then (then c.write_number-point_at.ensures c.write_byte-two_at.ensures (omega (arith, c.requires.0))) c.write_two-sign_at.ensures (omega (arith, c.requires.0))) c.write_text.ensures (omega (arith, c.requires.0)) in
    roomier e (omega (arith, e.few))
