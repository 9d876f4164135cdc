use mathlib.Core.Path.{◌≡◌}
use mathlib.Core.List.{◌++◌}
use Prim.Native.Nat.{◌≤◌}
use lib.ListN.{length, drop, replicate}
use Rattle.queue.proofs.clear.Given as goal

-- The invariant: the first i words are 0 and the rest are as they were.
abbrev pub invariant-loop-i : goal.invariant-loop-i
invariant-loop-i l = (l.words ≡ replicate l.i 0 ++ drop l.i l.initial.words) × (l.i ≤ length l.initial.words) × (length l.words ≡ length l.initial.words)
