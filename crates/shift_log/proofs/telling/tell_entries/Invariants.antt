use Rattle.shift_log.proofs.Every.{ToldSoFar}
use Rattle.shift_log.proofs.telling.tell_entries.Given as goal

-- `shift_log::telling::tell_entries` meets its contract: answer after answer. Assumes nothing.
abbrev pub invariant-loop-i : goal.invariant-loop-i
invariant-loop-i l = ToldSoFar l.log l.first l.count l.initial.out l.out l.i
