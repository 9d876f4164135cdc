use native.Mathlib.Omega.{arith}
use lib.Dec.{lit≤}
use Rattle.gap.specs.Grid.{in_parts_of}
use Rattle.gap.proofs.in_face.Goals as goal

pub overflow_add-result : goal.overflow_add-result
overflow_add-result c =
    let w = in_parts_of {d = 20} (lit≤ tt) c.requires.0 c.requires.1 in
    omega (arith, w.u0, w.v0)
