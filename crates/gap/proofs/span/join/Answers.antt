use Rattle.std.proofs.Common.{rules, SFits, w64}
use Rattle.whole.specs.Defs.{min_z, max_z}
use Rattle.whole.specs.Read.{back₂}
use Rattle.gap.proofs.span.join.Goals as goal

pub returns : goal.returns
returns c =
    let sm : SFits w64 c.args.s.least = search rules in
    let tm : SFits w64 c.args.t.least = search rules in
    let sg : SFits w64 c.args.s.greatest = search rules in
    let tg : SFits w64 c.args.t.greatest = search rules in
    let m = back₂ w64 w64 min_z sm tm c.least.type_inv c.least.ensures in
    let g = back₂ w64 w64 max_z sg tg c.greatest.type_inv c.greatest.ensures in
    λ i. record { least = m i; greatest = g i }
