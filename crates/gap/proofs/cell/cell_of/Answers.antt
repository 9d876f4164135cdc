use Rattle.gap.specs.Grid.{whole_is, in_parts_of}
use mathlib.Core.Path.{refl}
use Rattle.gap.proofs.cell.cell_of.Goals as goal

pub returns : goal.returns
returns c =
    rw (
      c.low-parts.ensures,
      whole_is c.args.deepest,
      c.low-t0.ensures,
      c.low-t1.ensures,
      c.low-u0.ensures,
      c.low-u1.ensures,
      c.low-v0.ensures,
      c.low-v1.ensures,
    )
    (record { is = refl; in_parts = in_parts_of c.requires.0 c.requires.1.0 c.requires.1.1 })
