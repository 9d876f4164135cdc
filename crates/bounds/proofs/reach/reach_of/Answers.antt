use Rattle.gap.specs.Cube.{cube_within}
use Rattle.bounds.specs.Reach.{reach_is}
use Rattle.bounds.proofs.reach.reach_of.Goals as goal

pub over_cube-x-requires : goal.over_cube-x-requires
over_cube-x-requires c = c.triangle_at.ensures.wide

pub over_cube-y-requires : goal.over_cube-y-requires
over_cube-y-requires c = c.triangle_at-2.ensures.wide

pub over_cube-z-requires : goal.over_cube-z-requires
over_cube-z-requires c = c.triangle_at-3.ensures.wide

pub returns : goal.returns
returns c =
    reach_is (rw c.triangle_at.ensures.value at c.over_cube-x.ensures) (rw c.triangle_at-2.ensures.value at c.over_cube-y.ensures) (rw c.triangle_at-3.ensures.value at c.over_cube-z.ensures)
    (record { x = rw c.over_cube-x.ensures (cube_within c.triangle_at.ensures.wide); y = rw c.over_cube-y.ensures (cube_within c.triangle_at-2.ensures.wide); z = rw c.over_cube-z.ensures (cube_within c.triangle_at-3.ensures.wide) })
