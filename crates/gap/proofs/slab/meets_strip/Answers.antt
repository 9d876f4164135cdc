use mir.Facts.{to_z-of_z}
use Rattle.whole.specs.Within.{within_add, fits}
use Rattle.gap.specs.Slab.{meets_strip}
use Rattle.gap.proofs.slab.meets_strip.Goals as goal

pub returns : goal.returns
unfolding meets_strip
returns c =
    let x = within_add c.requires.start.along_u c.requires.start.along_v in
    let y = within_add c.requires.end.along_u c.requires.end.along_v in
    rw (
      c.along-x.ensures,
      c.along-y.ensures,
      to_z-of_z (fits tt x),
      to_z-of_z (fits tt y),
      to_z-of_z (fits tt c.requires.start.to),
      to_z-of_z (fits tt c.requires.end.to),
      to_z-of_z (fits tt c.requires.start.from),
      to_z-of_z (fits tt c.requires.end.from),
    )
