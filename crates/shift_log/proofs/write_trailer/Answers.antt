use Rattle.shift_log.proofs.write_trailer.Goals as goal

pub returns : goal.returns
returns c = rw c.answer_form.ensures at c.write_trailer_form.ensures
