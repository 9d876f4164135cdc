use Rattle.answers.specs.Walking.{answered}
use Rattle.shift_log.specs.Calls.{bytes_of}
use Rattle.shift_log.proofs.log_at.Goals as goal

pub returns : goal.returns
returns c =
    answered bytes_of c.search_at-answer.ensures.value c.search_at-answer.ensures.queue_after c.numbers-n.ensures c.id_at.ensures c.encode.ensures c.is_answered.ensures c.requires.zero
