use mir.Facts.{to_z-of_z}
use Rattle.whole.specs.Within.{within_add, fits}
use Rattle.gap.specs.Steps.{read_part}
use Rattle.gap.proofs.slab.along.Goals as goal

pub overflow_add-result : goal.overflow_add-result
overflow_add-result c =
    rw (read_part c.requires.u_most, to_z-of_z (fits tt c.requires.by_u), to_z-of_z (fits tt c.requires.along_u), read_part c.requires.v_most, to_z-of_z (fits tt c.requires.by_v), to_z-of_z (fits tt c.requires.along_v))
    (fits tt (within_add c.requires.along_u c.requires.along_v))

pub returns : goal.returns
returns c =
    rw (read_part c.requires.u_most, to_z-of_z (fits tt c.requires.by_u), to_z-of_z (fits tt c.requires.along_u), read_part c.requires.v_most, to_z-of_z (fits tt c.requires.by_v), to_z-of_z (fits tt c.requires.along_v), to_z-of_z (fits tt (within_add c.requires.along_u c.requires.along_v)))
