use lib.Dec.{lit≤}
use native.Mathlib.Omega.{arith}
use Rattle.text.proofs.Writing.{then, roomier}
use Rattle.gap.specs.Grid.{index_most}
use Rattle.wording.specs.Line.{index_text}
use Rattle.wording.proofs.write_index.Goals as goal

pub write_three-end_at-requires : goal.write_three-end_at-requires
write_three-end_at-requires c =
    (omega arith, (index_most (lit≤ tt) c.requires.1.depths.t c.requires.1.index.t, (index_most (lit≤ tt) c.requires.1.depths.u c.requires.1.index.u, index_most (lit≤ tt) c.requires.1.depths.v c.requires.1.index.v)))

pub returns : goal.returns
unfolding index_text
returns c =
    let e = then (then c.write_text-index_at.ensures c.write_three-end_at.ensures (omega (arith, c.requires.0))) c.write_byte.ensures (omega (arith, c.requires.0)) in
    roomier e (omega (arith, e.few))
