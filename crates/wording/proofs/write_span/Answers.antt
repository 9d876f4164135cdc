use native.Mathlib.Omega.{arith}
use Rattle.text.proofs.Writing.{then, roomier}
use Rattle.wording.specs.Line.{span}
use Rattle.wording.proofs.write_span.Goals as goal

pub returns : goal.returns
unfolding span
returns c =
    let e = then (then (then c.write_byte-from_at.ensures c.write_field-word_at.ensures (omega (arith, c.requires.0))) c.write_text-to_at.ensures (omega (arith, c.requires.0))) c.write_field.ensures (omega (arith, c.requires.0)) in
    roomier e (omega (arith, e.few))
