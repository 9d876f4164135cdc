use Rattle.std.proofs.Common.{w64}
use Rattle.whole.specs.Defs.{min_z, max_z}
use Rattle.whole.specs.Read.{back₂}
use Rattle.whole.specs.Within.{fits, within_pos}
use Rattle.gap.proofs.cube.term.Goals as goal

pub returns : goal.returns
returns c =
    let z = fits tt (within_pos 0) in
    let m = back₂ w64 w64 min_z z c.ranges.s c.least.type_inv c.least.ensures in
    let g = back₂ w64 w64 max_z z c.ranges.s c.greatest.type_inv c.greatest.ensures in
    λ i. record { least = m i; greatest = g i }
