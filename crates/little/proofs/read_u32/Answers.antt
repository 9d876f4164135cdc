use mathlib.Core.Path.{◌∙◌}
use Rattle.little.proofs.Machine.{word_is}
use Rattle.little.proofs.read_u32.Goals as goal

pub returns : goal.returns
returns c = c.from_le_bytes.ensures ∙ word_is c.args.s.now c.args.at
