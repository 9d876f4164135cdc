-- The corner that is recorded has the excess.
use Rattle.gap.specs.Asked.{recorded}
use Rattle.kernel.specs.Kernel.{asked}
use Rattle.extremes.proofs.ask.Goals as goal

pub near-requires : goal.near-requires
near-requires c = (c.requires, recorded (asked c.args.p) c.args.k c.args.i c.corner-corner.result c.corner-corner.ensures)
