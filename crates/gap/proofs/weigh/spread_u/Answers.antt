use mathlib.Core.Path.{◌∙◌}
use mir.Facts.{to_z-of_z}
use Rattle.whole.specs.Within.{fits}
use Rattle.gap.specs.Spread.{numbers, wide, spread_u}
use Rattle.gap.proofs.weigh.spread_u.Goals as goal

-- `gap::weigh::spread_u` meets its contract.
pub largest-start-requires : goal.largest-start-requires
largest-start-requires c =
    rw (to_z-of_z (fits tt (numbers c.requires.x).b0), to_z-of_z (fits tt (numbers c.requires.y).b0), to_z-of_z (fits tt (numbers c.requires.z).b0))
    (wide (numbers c.requires.x).b0, (wide (numbers c.requires.y).b0, wide (numbers c.requires.z).b0))

pub largest-end-requires : goal.largest-end-requires
largest-end-requires c =
    rw (to_z-of_z (fits tt (numbers c.requires.x).b1), to_z-of_z (fits tt (numbers c.requires.y).b1), to_z-of_z (fits tt (numbers c.requires.z).b1))
    (wide (numbers c.requires.x).b1, (wide (numbers c.requires.y).b1, wide (numbers c.requires.z).b1))

pub returns : goal.returns
returns c =
    (rw (
      c.largest-start.ensures,
      c.largest-end.ensures,
      to_z-of_z (fits tt (numbers c.requires.x).b0),
      to_z-of_z (fits tt (numbers c.requires.y).b0),
      to_z-of_z (fits tt (numbers c.requires.z).b0),
      to_z-of_z (fits tt (numbers c.requires.x).b1),
      to_z-of_z (fits tt (numbers c.requires.y).b1),
      to_z-of_z (fits tt (numbers c.requires.z).b1),
    )
    at c.larger.ensures)
    ∙ spread_u c.args.p
