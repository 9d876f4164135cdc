use Rattle.answers.specs.Eight.{eight}
use Rattle.answers.specs.Walking.{answered}
use Rattle.answers.proofs.answer_at.Goals as goal

pub returns : goal.returns
returns c =
    answered eight c.search_at-answer.ensures.value c.search_at-answer.ensures.queue_after c.numbers-n.ensures c.id_at.ensures c.write_eight.ensures c.is_answered.ensures c.requires.zero
