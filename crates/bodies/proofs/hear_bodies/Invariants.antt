use Prim.Native.Nat.{◌*◌, ◌-◌, ◌≤◌}
use mathlib.Core.Path.{◌≡◌}
use mathlib.Core.Bool.{false}
use Rattle.rules.specs.declared.BodyAnswer.TheVariants.{Clear}
use Rattle.rules.specs.Bodies.{queries_of, is_over}
use Rattle.bounds.specs.Reach.{body_of}
use Rattle.bodies.specs.Walk.{positions_of, row_queries}
use Rattle.bodies.proofs.Walking.{Going, each_left}
use Rattle.bodies.proofs.hear_bodies.Given as goal

-- `bodies::hear_bodies` meets its contract: row after row, those that are apart passed over. Assumes nothing.
abbrev pub invariant-loop-i : goal.invariant-loop-i
invariant-loop-i l = record {
  most : l.i ≤ l.a.count;
  going : Going (3840 * l.i) (queries_of l.w (body_of l.a) (body_of l.b)) (each_left l.a.count (λ x. row_queries l.w (positions_of l.a) (positions_of l.b) x l.b.count) l.i) l.initial.queue l.queue (Clear 0) l.sofar;
  goes : is_over l.sofar ≡ false;
}

abbrev pub decreases-loop-i : goal.decreases-loop-i
decreases-loop-i l = l.a.count - l.i
