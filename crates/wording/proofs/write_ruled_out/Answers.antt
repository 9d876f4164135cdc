use native.Mathlib.Omega.{arith}
use Rattle.text.proofs.Writing.{then, roomier}
use Rattle.wording.specs.Line.{ruled_out}
use Rattle.wording.proofs.write_ruled_out.Goals as goal

pub returns : goal.returns
unfolding ruled_out
returns c =
    let e = then (then (then (then c.write_head-spans_at.ensures c.write_spans-open_at.ensures (omega (arith, c.requires.0))) c.write_text-shares_at.ensures (omega (arith, c.requires.0))) c.write_shares-box_at.ensures (omega (arith, c.requires.0))) c.write_box.ensures (omega (arith, c.requires.0)) in
    roomier e (omega (arith, e.few))
