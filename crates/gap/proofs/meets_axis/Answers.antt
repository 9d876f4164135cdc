use lib.Dec.{lit≤}
use Rattle.kernel.specs.Ranges.{Held}
use Rattle.gap.specs.Points.{kernel_by_small}
use Rattle.gap.proofs.meets_axis.Goals as goal

-- `gap::meets_axis` meets its contract.
-- any such coordinate goes with one part
one : Held 536_870_912 1
one = record { coordinate_most = lit≤ tt; parts_least = lit≤ tt; parts_most = lit≤ tt; product = lit≤ tt }

pub meets_whole-requires : goal.meets_whole-requires
meets_whole-requires c =
    (rw c.kernel_of.ensures (kernel_by_small one c.requires.0 c.requires.1.0 c.args.turned c.args.face), c.requires.1.1)

pub returns : goal.returns
returns c = rw c.kernel_of.ensures at c.meets_whole.ensures
