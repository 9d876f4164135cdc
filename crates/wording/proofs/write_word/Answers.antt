use native.Mathlib.Omega.{arith}
use Rattle.text.proofs.Writing.{then, roomier}
use Rattle.wording.specs.Line.{numbered}
use Rattle.wording.proofs.write_word.Goals as goal

pub returns : goal.returns
unfolding numbered
returns c =
    let e = then (then c.write_text-number_at.ensures c.write_field-end_at.ensures (omega (arith, c.requires.0))) c.write_byte.ensures (omega (arith, c.requires.0)) in
    roomier e (omega (arith, e.few))
