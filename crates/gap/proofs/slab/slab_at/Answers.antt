use lib.Pow.{pow_pos}
use Rattle.gap.specs.Grid.{over_of}
use Rattle.gap.specs.Slab.{slab_is}
use Rattle.gap.proofs.slab.slab_at.Goals as goal

-- `gap::slab::slab_at` meets its contract.
pub cell_of-w-requires : goal.cell_of-w-requires
cell_of-w-requires c = (c.requires.0.deepest, (c.requires.1.0, record { t = c.requires.1.1; u = pow_pos _; v = pow_pos _ }))

pub strip_of-x-requires : goal.strip_of-x-requires
strip_of-x-requires c = let o = over_of c.requires.0 c.cell_of-w.ensures in (o.x, (o.in_parts, o.dx))

pub strip_of-y-requires : goal.strip_of-y-requires
strip_of-y-requires c = let o = over_of c.requires.0 c.cell_of-w.ensures in (o.y, (o.in_parts, o.dy))

pub strip_of-z-requires : goal.strip_of-z-requires
strip_of-z-requires c = let o = over_of c.requires.0 c.cell_of-w.ensures in (o.z, (o.in_parts, o.dz))

pub returns : goal.returns
returns c =
    slab_is c.args.p c.args.k c.args.t c.cell_of-w.ensures.is c.strip_of-x.ensures c.strip_of-y.ensures c.strip_of-z.ensures
