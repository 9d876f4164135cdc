use native.Mathlib.Omega.{arith}
use Rattle.text.proofs.Writing.{then, roomier}
use Rattle.wording.specs.Line.{box}
use Rattle.wording.proofs.write_box.Goals as goal

pub returns : goal.returns
unfolding box
returns c =
    let e = then c.write_level-index_at.ensures c.write_index.ensures (omega (arith, c.requires.0)) in
    roomier e (omega (arith, e.few))
