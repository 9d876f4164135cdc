use mir.Facts.{to_z-of_z}
use Rattle.whole.specs.Within.{fits}
use Rattle.gap.specs.Steps.{term_within, span_small, reaches, read_part}
use Rattle.gap.proofs.span.over_face.Goals as goal

-- `gap::span::over_face` meets its contract.
pub reach-u-requires : goal.reach-u-requires
reach-u-requires c =
    rw (to_z-of_z (fits tt c.requires.0.itself.b)) (reaches c.args.m.b c.requires.1.parts_most c.requires.1.u0 c.requires.1.u1 c.requires.0.b)

pub reach-v-requires : goal.reach-v-requires
reach-v-requires c =
    rw (to_z-of_z (fits tt c.requires.0.itself.c)) (reaches c.args.m.c c.requires.1.parts_most c.requires.1.v0 c.requires.1.v1 c.requires.0.c)

pub overflow_mul-w : goal.overflow_mul-w
overflow_mul-w c =
    rw (read_part c.requires.1.parts_most, to_z-of_z (fits tt c.requires.0.itself.a)) (fits tt c.requires.0.a)

pub sum-requires : goal.sum-requires
sum-requires c = (
  rw (read_part c.requires.1.parts_most, to_z-of_z (fits tt c.requires.0.itself.a), to_z-of_z (fits tt c.requires.0.a)) c.requires.0.a,
  (
    rw (c.reach-u.ensures, to_z-of_z (fits tt c.requires.0.itself.b)) (span_small (term_within c.args.m.b c.requires.1.u0 c.requires.0.b) (term_within c.args.m.b c.requires.1.u1 c.requires.0.b)),
    rw (c.reach-v.ensures, to_z-of_z (fits tt c.requires.0.itself.c)) (span_small (term_within c.args.m.c c.requires.1.v0 c.requires.0.c) (term_within c.args.m.c c.requires.1.v1 c.requires.0.c)),
  ),
)

pub returns : goal.returns
returns c =
    rw (
      c.reach-u.ensures,
      c.reach-v.ensures,
      read_part c.requires.1.parts_most,
      to_z-of_z (fits tt c.requires.0.itself.a),
      to_z-of_z (fits tt c.requires.0.a),
      to_z-of_z (fits tt c.requires.0.itself.b),
      to_z-of_z (fits tt c.requires.0.itself.c),
    )
    at c.sum.ensures
