use mathlib.Core.Path.{sym, subst}
use Rattle.gap.specs.Cube.{cube_within, cube_most}
use Rattle.gap.specs.Steps.{SmallSpan}
use Rattle.bodies.proofs.apart.apart_on.Goals as goal

pub are_apart-requires : goal.are_apart-requires
are_apart-requires c =
    (c.requires.0, subst (SmallSpan cube_most) (sym c.over_cube.ensures) (cube_within c.triangle_at.ensures.wide))
