use Rattle.rules.specs.Refusals.{record_refusal}
use Rattle.refusals.proofs.check_record.Goals as goal

pub returns : goal.returns
unfolding record_refusal
returns c = c.check_with.ensures
