use Rattle.std.proofs.Common.{◌∙◌, ap, ℕ, eqb}
use Rattle.rules.specs.AnswerFile.{word_refusal}
use Rattle.shift_log.proofs.Refusing.{ok_is}
use Rattle.shift_log.proofs.telling.is_taken.Goals as goal

pub returns : goal.returns
returns c = c.is_ok.ensures.value ∙ ok_is c.check_word.result ∙ ap (λ (n : ℕ). eqb n 0) (c.check_word.ensures ∙ ap word_refusal c.decode.ensures)
