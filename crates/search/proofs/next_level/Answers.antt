use mathlib.Core.Path.{◌∙◌}
use Rattle.search.proofs.Stepping.{grows, splits_room, splits_level}
use Rattle.search.proofs.next_level.Goals as goal

-- The ways out are laws of `Stepping`.
pub grow-requires : goal.grow-requires
grow-requires c = rw (c.deepen-depths.ensures, c.split-split.ensures) (grows c.requires)

pub returns-in-None : goal.returns-in-None
returns-in-None c =
    splits_room c.requires c.grow.auto.queue (rw (c.in-None.is, c.deepen-depths.ensures, c.split-split.ensures) at c.grow.ensures) c.clear_part.ensures

pub returns-in-Some : goal.returns-in-Some
returns-in-Some c =
    rw (c.deepen-depths.ensures, c.split-split.ensures)
    (splits_level c.requires c.grow.auto.queue (rw (c.in-Some.is, c.deepen-depths.ensures, c.split-split.ensures) at c.grow.ensures) c.copy_down.ensures (c.copy_down.auto.queue ∙ c.grow.auto.queue) c.max.ensures)
