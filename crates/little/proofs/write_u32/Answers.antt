use mathlib.Core.Path.{ap, ◌∙◌}
use Rattle.std.proofs.Common.{List, ℕ}
use Rattle.rules.specs.QueryFile.{put}
use Rattle.little.proofs.Machine.{word_bytes_is}
use Rattle.little.proofs.write_u32.Goals as goal

pub returns : goal.returns
returns c =
    c.write4.ensures ∙ ap (λ (l : List ℕ). put c.args.s.now c.args.at l) (c.to_le_bytes.ensures ∙ word_bytes_is c.args.v)
