use Rattle.answers.proofs.count_records.Goals as goal

pub returns : goal.returns
returns c = rw c.file_form.ensures at c.count_form.ensures
