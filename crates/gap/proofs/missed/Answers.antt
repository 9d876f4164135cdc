use Rattle.gap.specs.Grid.{over_of}
use Rattle.gap.specs.Miss.{missed_is}
use Rattle.gap.proofs.missed.Goals as goal

pub miss_on-x-requires : goal.miss_on-x-requires
miss_on-x-requires c = let o = over_of c.requires.0 c.cell_of-w.ensures in (o.x, (o.in_parts, o.dx))

pub miss_on-y-requires : goal.miss_on-y-requires
miss_on-y-requires c = let o = over_of c.requires.0 c.cell_of-w.ensures in (o.y, (o.in_parts, o.dy))

pub miss_on-z-requires : goal.miss_on-z-requires
miss_on-z-requires c = let o = over_of c.requires.0 c.cell_of-w.ensures in (o.z, (o.in_parts, o.dz))

pub returns : goal.returns
returns c =
    rw (← missed_is c.requires.0.deepest c.args.p c.args.k c.args.i c.requires.1.0, ← c.cell_of-w.ensures.is, ← c.miss_on-x.ensures, ← c.miss_on-y.ensures, ← c.miss_on-z.ensures, ← c.or.ensures, ← c.or-2.ensures)
