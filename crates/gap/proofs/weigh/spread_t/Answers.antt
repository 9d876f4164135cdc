use mathlib.Core.Path.{◌∙◌}
use Rattle.gap.specs.Spread.{none, full, numbers, change_small, spread_t}
use Rattle.gap.proofs.weigh.spread_t.Goals as goal

-- `gap::weigh::spread_t` meets its contract.
pub change-x-requires : goal.change-x-requires
change-x-requires c = numbers c.requires.x

pub change-y-requires : goal.change-y-requires
change-y-requires c = numbers c.requires.y

pub change-z-requires : goal.change-z-requires
change-z-requires c = numbers c.requires.z

pub way-requires : goal.way-requires
way-requires c = (
  none,
  (
    none,
    (
      rw c.change-x.ensures (change_small (numbers c.requires.x)),
      (rw c.change-y.ensures (change_small (numbers c.requires.y)), rw c.change-z.ensures (change_small (numbers c.requires.z))),
    ),
  ),
)

pub way-requires-2 : goal.way-requires-2
way-requires-2 c = (
  none,
  (
    full,
    (
      rw c.change-x.ensures (change_small (numbers c.requires.x)),
      (rw c.change-y.ensures (change_small (numbers c.requires.y)), rw c.change-z.ensures (change_small (numbers c.requires.z))),
    ),
  ),
)

pub way-requires-3 : goal.way-requires-3
way-requires-3 c = (
  full,
  (
    none,
    (
      rw c.change-x.ensures (change_small (numbers c.requires.x)),
      (rw c.change-y.ensures (change_small (numbers c.requires.y)), rw c.change-z.ensures (change_small (numbers c.requires.z))),
    ),
  ),
)

pub way-requires-4 : goal.way-requires-4
way-requires-4 c = (
  full,
  (
    full,
    (
      rw c.change-x.ensures (change_small (numbers c.requires.x)),
      (rw c.change-y.ensures (change_small (numbers c.requires.y)), rw c.change-z.ensures (change_small (numbers c.requires.z))),
    ),
  ),
)

pub returns : goal.returns
returns c =
    (rw (
      c.larger-high.ensures,
      c.larger-low.ensures,
      c.way-4.ensures,
      c.way-3.ensures,
      c.way-2.ensures,
      c.way.ensures,
      c.change-x.ensures,
      c.change-y.ensures,
      c.change-z.ensures,
    )
    at c.larger.ensures)
    ∙ spread_t c.args.p
