use native.Mathlib.Omega.{arith}
use Rattle.text.proofs.Writing.{then, roomier}
use Rattle.wording.specs.Line.{share}
use Rattle.wording.proofs.write_share.Goals as goal

pub returns : goal.returns
unfolding share
returns c =
    let e = then (then c.write_percent-word_at.ensures c.write_text-to_at.ensures (omega (arith, c.requires.0))) c.write_percent.ensures (omega (arith, c.requires.0)) in
    roomier e (omega (arith, e.few))
