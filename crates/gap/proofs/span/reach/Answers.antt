use Rattle.std.proofs.Common.{w64, to_z-of_z}
use Rattle.whole.specs.Defs.{min_z, max_z}
use Rattle.whole.specs.Read.{back₂}
use Rattle.whole.specs.Within.{fits}
use Rattle.gap.specs.Steps.{read_part}
use Rattle.gap.proofs.span.reach.Goals as goal

pub returns : goal.returns
returns c =
    let e = to_z-of_z c.ranges.s in
    let x = fits tt c.requires.low in
    let y = fits tt c.requires.high in
    let m = back₂ w64 w64 min_z x y c.least.type_inv (rw (read_part c.requires.lo_most, read_part c.requires.hi_most, e) at c.least.ensures) in
    let g = back₂ w64 w64 max_z x y c.greatest.type_inv (rw (read_part c.requires.lo_most, read_part c.requires.hi_most, e) at c.greatest.ensures) in
    λ i. record { least = m i; greatest = g i }
