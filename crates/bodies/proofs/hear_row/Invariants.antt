use Prim.Native.Nat.{◌*◌, ◌-◌, ◌≤◌}
use mathlib.Core.Path.{◌≡◌}
use mathlib.Core.Bool.{false}
use Rattle.rules.specs.Bodies.{pair_queries, is_over}
use Rattle.bodies.specs.Walk.{positions_of, row_queries}
use Rattle.bodies.proofs.Walking.{Going, each_left}
use Rattle.bodies.proofs.hear_row.Given as goal

-- `bodies::hear_row` meets its contract: pair after pair, those that are apart passed over. Assumes nothing.
abbrev pub invariant-loop-j : goal.invariant-loop-j
invariant-loop-j l = record {
  most : l.j ≤ l.b.count;
  going : Going (15 * l.j) (row_queries l.w (positions_of l.a) (positions_of l.b) l.i l.b.count) (each_left l.b.count (λ x. pair_queries l.w (positions_of l.a) (positions_of l.b) l.i x) l.j) l.initial.queue l.queue l.fn.first l.sofar;
  goes : is_over l.sofar ≡ false;
}

abbrev pub decreases-loop-j : goal.decreases-loop-j
decreases-loop-j l = l.b.count - l.j
