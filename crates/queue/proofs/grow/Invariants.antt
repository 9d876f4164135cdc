use Prim.Native.Nat.{◌+◌, ◌-◌}
use Rattle.kernel.specs.Kernel.{asked}
use Rattle.queue.proofs.Growing.{Written}
use Rattle.queue.proofs.grow.Given as goal

-- The loop is that of `Growing`.
abbrev pub invariant-loop-p : goal.invariant-loop-p
invariant-loop-p l = Written (asked l.p) l.k l.c.split l.n l.p.room l.initial.queue l.queue l.low l.high l.m

abbrev pub decreases-loop-p : goal.decreases-loop-p
decreases-loop-p l = l.n + l.n - (l.low.at + l.high.at)
