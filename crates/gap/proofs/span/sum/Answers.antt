use mir.Facts.{to_z-of_z}
use Rattle.gap.specs.Steps.{sums}
use Rattle.gap.proofs.span.sum.Goals as goal

-- `gap::span::sum` meets its contract.
pub returns : goal.returns
returns c =
    let f = sums c.requires.0 c.requires.1.0 c.requires.1.1 in
    rw (to_z-of_z f.first, to_z-of_z f.least, to_z-of_z f.low, to_z-of_z f.least', to_z-of_z f.lows, to_z-of_z f.greatest, to_z-of_z f.high, to_z-of_z f.greatest', to_z-of_z f.highs)
