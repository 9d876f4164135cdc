use Rattle.shift_log.proofs.count_entries.Goals as goal

pub returns : goal.returns
returns c = rw c.answer_form.ensures at c.count_form.ensures
