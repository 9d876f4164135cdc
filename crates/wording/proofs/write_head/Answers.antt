use native.Mathlib.Omega.{arith}
use Rattle.text.proofs.Writing.{then, roomier}
use Rattle.wording.specs.Line.{head}
use Rattle.wording.proofs.write_head.Goals as goal

pub returns : goal.returns
unfolding head
returns c =
    let e = then (then (then (then c.write_text-axis_at.ensures c.write_byte-body_at.ensures (omega (arith, c.requires))) c.write_text-side_at.ensures (omega (arith, c.requires))) c.write_byte-end_at.ensures (omega (arith, c.requires))) c.write_text.ensures (omega (arith, c.requires)) in
    rw (← c.axis_byte.ensures, ← c.side_byte.ensures) (roomier e (omega (arith, e.few)))
