use mathlib.Core.Path.{◌∙◌}
use mir.Facts.{to_z-of_z}
use Rattle.whole.specs.Within.{fits}
use Rattle.gap.specs.Spread.{numbers, wide, spread_v}
use Rattle.gap.proofs.weigh.spread_v.Goals as goal

-- `gap::weigh::spread_v` meets its contract.
pub largest-start-requires : goal.largest-start-requires
largest-start-requires c =
    rw (to_z-of_z (fits tt (numbers c.requires.x).c0), to_z-of_z (fits tt (numbers c.requires.y).c0), to_z-of_z (fits tt (numbers c.requires.z).c0))
    (wide (numbers c.requires.x).c0, (wide (numbers c.requires.y).c0, wide (numbers c.requires.z).c0))

pub largest-end-requires : goal.largest-end-requires
largest-end-requires c =
    rw (to_z-of_z (fits tt (numbers c.requires.x).c1), to_z-of_z (fits tt (numbers c.requires.y).c1), to_z-of_z (fits tt (numbers c.requires.z).c1))
    (wide (numbers c.requires.x).c1, (wide (numbers c.requires.y).c1, wide (numbers c.requires.z).c1))

pub returns : goal.returns
returns c =
    (rw (
      c.largest-start.ensures,
      c.largest-end.ensures,
      to_z-of_z (fits tt (numbers c.requires.x).c0),
      to_z-of_z (fits tt (numbers c.requires.y).c0),
      to_z-of_z (fits tt (numbers c.requires.z).c0),
      to_z-of_z (fits tt (numbers c.requires.x).c1),
      to_z-of_z (fits tt (numbers c.requires.y).c1),
      to_z-of_z (fits tt (numbers c.requires.z).c1),
    )
    at c.larger.ensures)
    ∙ spread_v c.args.p
