use Rattle.answers.specs.Eight.{eight}
use Rattle.answers.specs.Walking.{Walked}
use Rattle.answers.proofs.answer_records.Given as goal

-- `answers::answer_records` meets its contract: record after record. Assumes nothing.
abbrev pub invariant-loop-i : goal.invariant-loop-i
invariant-loop-i l = Walked eight l.records.edition l.file l.records.first l.records.count l.initial.queue l.initial.out l.queue l.out l.clean l.i
