use mathlib.Core.Path.{◌∙◌}
use native.Mathlib.Omega.{arith}
use Rattle.little.proofs.Machine.{stands_is}
use Rattle.little.proofs.stands4.Goals as goal

pub returns : goal.returns
returns c = c.eq.ensures ∙ stands_is c.args.s.now c.args.at c.args.bytes (omega arith)
