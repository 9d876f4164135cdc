use mathlib.Core.Path.{◌≡◌}
use Rattle.shift_log.specs.Calls.{are_taken}
use Rattle.shift_log.proofs.telling.are_taken.Given as goal

-- `shift_log::telling::are_taken` meets its contract: whether the first i can be read. Assumes nothing.
abbrev pub invariant-loop-i : goal.invariant-loop-i
invariant-loop-i l = l.all ≡ are_taken l.log l.first l.i
