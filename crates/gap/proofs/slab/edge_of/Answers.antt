use lib.IntN.{neg_ℤ, +ℤ_idl}
use mir.Facts.{to_z-of_z}
use Rattle.whole.specs.Within.{within_sub, within_pos, fits}
use Rattle.gap.specs.Steps.{part_most, read_part, term_within}
use Rattle.gap.specs.Slab.{edges_within}
use Rattle.gap.specs.Bounds.{span_within}
use Rattle.gap.proofs.slab.edge_of.Goals as goal

pub overflow_mul-u : goal.overflow_mul-u
overflow_mul-u c =
    rw (read_part (part_most c.requires.1.0 c.requires.1.0.u1), to_z-of_z (fits tt c.requires.0.itself.b)) (fits tt (term_within c.args.m.b c.requires.1.0.u1 c.requires.0.b))

pub overflow_mul-v : goal.overflow_mul-v
overflow_mul-v c =
    rw (read_part (part_most c.requires.1.0 c.requires.1.0.v1), to_z-of_z (fits tt c.requires.0.itself.c)) (fits tt (term_within c.args.m.c c.requires.1.0.v1 c.requires.0.c))

pub overflow_sub-from : goal.overflow_sub-from
overflow_sub-from c =
    rw (to_z-of_z (fits tt c.requires.1.1)) (fits tt (within_sub (within_pos 0) c.requires.1.1))

pub overflow_sub-from-2 : goal.overflow_sub-from-2
overflow_sub-from-2 c =
    let e = edges_within c.requires.0 c.requires.1.0 c.requires.1.1 in
    let w = span_within c.requires.0 c.requires.1.0 in
    rw (to_z-of_z (fits tt c.requires.1.1), to_z-of_z (fits tt (within_sub (within_pos 0) c.requires.1.1)), +ℤ_idl (neg_ℤ c.args.limit), c.over_face-s.ensures, to_z-of_z (fits tt w.greatest)) (fits tt e.from)

pub overflow_sub-to : goal.overflow_sub-to
overflow_sub-to c =
    let e = edges_within c.requires.0 c.requires.1.0 c.requires.1.1 in
    let w = span_within c.requires.0 c.requires.1.0 in
    rw (to_z-of_z (fits tt c.requires.1.1), c.over_face-s.ensures, to_z-of_z (fits tt w.least)) (fits tt e.to)

pub returns : goal.returns
returns c =
    let e = edges_within c.requires.0 c.requires.1.0 c.requires.1.1 in
    let w = span_within c.requires.0 c.requires.1.0 in
    rw (
      read_part (part_most c.requires.1.0 c.requires.1.0.u1),
      to_z-of_z (fits tt c.requires.0.itself.b),
      to_z-of_z (fits tt e.by_u),
      read_part (part_most c.requires.1.0 c.requires.1.0.v1),
      to_z-of_z (fits tt c.requires.0.itself.c),
      to_z-of_z (fits tt e.by_v),
      to_z-of_z (fits tt c.requires.1.1),
      to_z-of_z (fits tt (within_sub (within_pos 0) c.requires.1.1)),
      +ℤ_idl (neg_ℤ c.args.limit),
      c.over_face-s.ensures,
      to_z-of_z (fits tt w.greatest),
      to_z-of_z (fits tt e.from),
      to_z-of_z (fits tt w.least),
      to_z-of_z (fits tt e.to),
    )
