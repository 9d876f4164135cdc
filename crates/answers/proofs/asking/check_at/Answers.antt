use Rattle.answers.proofs.asking.check_at.Goals as goal

pub returns : goal.returns
returns c = rw c.decode-r.ensures at c.check_search_by.ensures
