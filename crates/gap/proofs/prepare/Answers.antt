use native.Mathlib.Omega.{arith}
use lib.Dec.{lit≤}
use Rattle.refusals.specs.Accepted.{accepted_search}
use Rattle.gap.specs.Prepared.{coordinates, pair_prepared}
use Rattle.gap.proofs.prepare.Goals as goal

-- `gap::prepare` meets its contract.
pub kernel_at-x-requires : goal.kernel_at-x-requires
kernel_at-x-requires c = (lit≤ tt, coordinates c.args.r c.args.words c.requires)

pub kernel_at-y-requires : goal.kernel_at-y-requires
kernel_at-y-requires c = (lit≤ tt, coordinates c.args.r c.args.words c.requires)

pub kernel_at-z-requires : goal.kernel_at-z-requires
kernel_at-z-requires c = (lit≤ tt, coordinates c.args.r c.args.words c.requires)

pub overflow_cast-dz : goal.overflow_cast-dz
overflow_cast-dz c = record { fits = omega (arith, (accepted_search c.args.r c.args.words c.requires).query.dz) }

pub overflow_cast-tolerance : goal.overflow_cast-tolerance
overflow_cast-tolerance c = record { fits = omega (arith, (accepted_search c.args.r c.args.words c.requires).query.tolerance_most) }

pub returns : goal.returns
returns c =
    rw (c.last_moment-last.ensures, c.depth_limit-deepest.ensures, c.kernel_at-x.ensures, c.kernel_at-y.ensures, c.kernel_at-z.ensures) (pair_prepared c.args.r c.args.words c.requires)
