use Prim.Native.Nat.{◌-◌}
use Rattle.bodies.specs.Apart.{DistantFrom}
use Rattle.bodies.specs.Passed.{Passed}
use Rattle.bodies.proofs.apart.next_near.Given as goal

-- `bodies::apart::next_near` meets its contract. Assumes nothing.
abbrev pub invariant-loop-j : goal.invariant-loop-j
invariant-loop-j l = Passed (DistantFrom l.w l.r l.b.start.now l.b.end.now) l.from l.b.count l.j

abbrev pub decreases-loop-j : goal.decreases-loop-j
decreases-loop-j l = l.b.count - l.j
