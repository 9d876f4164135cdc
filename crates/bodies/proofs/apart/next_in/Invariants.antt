use Rattle.bodies.specs.Apart.{DistantFrom}
use Rattle.bodies.specs.Passed.{Passed}
use Rattle.bodies.proofs.apart.next_in.Given as goal

-- `bodies::apart::next_in` meets its contract: triangle after triangle. Assumes nothing.
abbrev pub invariant-loop-j : goal.invariant-loop-j
invariant-loop-j l = Passed (DistantFrom l.w l.r l.s l.e) l.from l.n l.j
