use mathlib.Core.Path.{◌∙◌}
use native.Mathlib.Omega.{arith}
use Rattle.whole.specs.Within.{within_more, within_pos}
use Rattle.gap.specs.Steps.{read_part}
use Rattle.gap.specs.Cube.{meets_whole, small_wide}
use Rattle.gap.proofs.measure.meets_whole.Goals as goal

-- `gap::measure::meets_whole` meets its contract.
pub over_cube-s-requires : goal.over_cube-s-requires
over_cube-s-requires c = small_wide c.requires.0

pub comes_within-requires : goal.comes_within-requires
comes_within-requires c =
    rw (read_part {n = c.args.d} (omega arith)) (within_more (omega arith) (within_pos c.args.d))

pub returns : goal.returns
returns c =
    (rw (c.over_cube-s.ensures, read_part {n = c.args.d} (omega arith)) at c.comes_within.ensures) ∙ meets_whole c.args.k c.args.d
