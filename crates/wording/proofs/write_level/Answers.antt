use native.Mathlib.Omega.{arith}
use Rattle.text.proofs.Writing.{then, roomier}
use Rattle.wording.specs.Line.{level_text}
use Rattle.wording.proofs.write_level.Goals as goal

pub returns : goal.returns
unfolding level_text
returns c =
    let e = then (then (then c.write_text-level_at.ensures c.write_field-word_at.ensures (omega (arith, c.requires.0))) c.write_text-depths_at.ensures (omega (arith, c.requires.0))) c.write_three.ensures (omega (arith, c.requires.0)) in
    roomier e (omega (arith, e.few))
