use mathlib.Core.Path.{sym}
use Rattle.bodies.proofs.asking.query_at.Goals as goal

pub returns : goal.returns
returns c = rw (sym c.ask_at.ensures.value) c.query_of.ensures
