use mathlib.Core.Path.{sym, ◌∙◌}
use lib.ListN.{length}
use Rattle.search.specs.Whole.{search_clear}
use Rattle.search.proofs.search_accepted.Goals as goal

pub returns-clause-value : goal.returns-clause-value
returns-clause-value c =
    sym (search_clear c.args.r (length c.args.queue.now) c.requires.none (sym c.survives_whole.ensures ∙ c.if-survives_whole.false))
