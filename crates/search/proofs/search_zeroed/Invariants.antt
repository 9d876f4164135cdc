use Prim.Native.Nat.{◌-◌}
use lib.ListN.{length}
use Rattle.search.specs.Levels.{total}
use Rattle.search.proofs.Running.{Running}
use Rattle.search.proofs.search_zeroed.Given as goal

-- The loop is that of `Running`.
abbrev pub invariant-loop-a : goal.invariant-loop-a
invariant-loop-a here = Running here.p (length here.initial.queue) here.queue here.l

abbrev pub decreases-loop-a : goal.decreases-loop-a
decreases-loop-a here = 61 - total here.l.depths
