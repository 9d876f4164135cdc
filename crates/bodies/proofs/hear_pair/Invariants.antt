use mathlib.Core.Path.{◌≡◌}
use mathlib.Core.Bool.{false}
use Rattle.rules.specs.Bodies.{pair_queries, is_over}
use Rattle.bodies.specs.Walk.{positions_of}
use Rattle.bodies.proofs.Walking.{Going, pair_left}
use Rattle.bodies.proofs.hear_pair.Given as goal

-- `bodies::hear_pair` meets its contract: query after query. Assumes nothing.
abbrev pub invariant-loop-k : goal.invariant-loop-k
invariant-loop-k l = record {
  going : Going l.k (pair_queries l.w (positions_of l.a) (positions_of l.b) l.i l.j) (pair_left l.w (positions_of l.a) (positions_of l.b) l.i l.j l.k) l.initial.queue l.queue l.initial.sofar l.sofar;
  goes : is_over l.sofar ≡ false;
}
