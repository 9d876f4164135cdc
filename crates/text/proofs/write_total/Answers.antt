use native.Mathlib.Omega.{arith}
use Rattle.text.specs.Text.{total}
use Rattle.text.proofs.Writing.{then, roomier}
use Rattle.text.proofs.Rows.{length_rows}
use Rattle.text.proofs.write_total.Goals as goal

pub returns : goal.returns
unfolding total
returns c =
    let e = then (then (then c.write_text-number_at.ensures c.write_field-tallies_at.ensures (omega arith))
    c.write_tallies-end_at.ensures (omega arith))
    c.write_byte.ensures (omega arith) in
    rw (length_rows c.args.n c.args.told.now) (roomier e (omega (arith, e.few)))
