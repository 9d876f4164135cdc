use native.Mathlib.Omega.{arith}
use Rattle.text.proofs.Writing.{then, roomier}
use Rattle.wording.specs.Line.{two}
use Rattle.wording.proofs.write_two.Goals as goal

pub returns : goal.returns
unfolding two
returns c =
    let e = then c.write_byte-last.ensures c.write_byte.ensures (omega (arith, c.requires.0)) in
    roomier e (omega (arith, e.few))
