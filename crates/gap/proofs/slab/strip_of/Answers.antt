use mir.Syntax.{w64}
use Rattle.whole.specs.Read.{back}
use Rattle.gap.specs.Slab.{limit_within}
use Rattle.gap.specs.Steps.{moment_fine}
use Rattle.gap.proofs.slab.strip_of.Goals as goal

pub edge_of-start-requires : goal.edge_of-start-requires
edge_of-start-requires c =
    (rw c.at_moment.ensures (moment_fine c.requires.0 c.requires.1.0.t0), (c.requires.1.0, rw (back w64 c.units-limit.type_inv c.units-limit.ensures) (limit_within c.requires.1.0 c.requires.1.1)))

pub edge_of-end-requires : goal.edge_of-end-requires
edge_of-end-requires c =
    (rw c.at_moment-2.ensures (moment_fine c.requires.0 c.requires.1.0.t1), (c.requires.1.0, rw (back w64 c.units-limit.type_inv c.units-limit.ensures) (limit_within c.requires.1.0 c.requires.1.1)))

pub returns : goal.returns
returns c =
    rw (
      c.edge_of-start.ensures,
      c.at_moment.ensures,
      c.edge_of-end.ensures,
      c.at_moment-2.ensures,
      back w64 c.units-limit.type_inv c.units-limit.ensures,
    )
