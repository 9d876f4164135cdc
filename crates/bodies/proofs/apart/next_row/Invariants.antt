use Prim.Native.Nat.{◌-◌}
use Rattle.bodies.specs.Passed.{Passed, Alone}
use Rattle.bodies.proofs.apart.next_row.Given as goal

-- `bodies::apart::next_row` meets its contract. Assumes nothing.
abbrev pub invariant-loop-i : goal.invariant-loop-i
invariant-loop-i l = Passed (Alone l.w l.abounds l.bbounds l.n) l.from l.m l.i

abbrev pub decreases-loop-i : goal.decreases-loop-i
decreases-loop-i l = l.m - l.i
