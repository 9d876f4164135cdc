use mathlib.Core.Path.{◌∙◌}
use Rattle.gap.specs.Affine.{span_over_lem}
use Rattle.gap.specs.Steps.{moment_fine}
use Rattle.gap.proofs.span.over_corners.Goals as goal

pub over_face-start-requires : goal.over_face-start-requires
over_face-start-requires c =
    (rw c.at_moment.ensures (moment_fine c.requires.0 c.requires.1.t0), c.requires.1)

pub over_face-end-requires : goal.over_face-end-requires
over_face-end-requires c =
    (rw c.at_moment-2.ensures (moment_fine c.requires.0 c.requires.1.t1), c.requires.1)

pub returns : goal.returns
returns c =
    (rw (c.over_face-start.ensures, c.at_moment.ensures, c.over_face-end.ensures, c.at_moment-2.ensures) at c.join.ensures)
    ∙ span_over_lem c.args.k c.args.w
