use Rattle.queue.proofs.Copying.{Copied}
use Rattle.queue.proofs.copy_down.Given as goal

-- The loop is that of `Copying`.
abbrev pub invariant-loop-i : goal.invariant-loop-i
invariant-loop-i l = Copied l.initial.queue l.h l.n l.queue l.i
