use mathlib.Core.Path.{ap}
use Rattle.rules.specs.declared.Record.{Record}
use Rattle.answers.proofs.asking.id_at.Goals as goal

pub returns : goal.returns
returns c = ap (λ (r : Record). r.id) c.decode.ensures
