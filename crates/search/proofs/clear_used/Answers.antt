use mathlib.Core.Path.{◌∙◌}
use Rattle.search.proofs.Tidying.{all_cleared}
use Rattle.search.proofs.clear_used.Goals as goal

pub returns : goal.returns
returns c =
    all_cleared c.requires.0 c.requires.1 c.requires.2 c.clear_part.auto.words (c.clear_part-2.auto.words ∙ c.clear_part.auto.words)
    c.clear_part.ensures c.clear_part-2.ensures
