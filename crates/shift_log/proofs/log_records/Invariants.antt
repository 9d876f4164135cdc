use Rattle.answers.specs.Walking.{Walked}
use Rattle.shift_log.specs.Calls.{bytes_of}
use Rattle.shift_log.proofs.log_records.Given as goal

-- `shift_log::log_records` meets its contract: record after record. Assumes nothing.
abbrev pub invariant-loop-i : goal.invariant-loop-i
invariant-loop-i l = Walked bytes_of l.records.edition l.file l.records.first l.records.count l.initial.queue l.initial.out l.queue l.out l.clean l.i
