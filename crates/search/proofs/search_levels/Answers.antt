use mathlib.Core.Path.{refl, sym, ap, ◌∙◌}
use lib.ListN.{length}
use Rattle.rules.specs.Search.{run}
use Rattle.search.proofs.Running.{search_run}
use Rattle.search.proofs.search_levels.Goals as goal

pub returns-clause-value : goal.returns-clause-value
returns-clause-value c =
    c.search_zeroed.ensures.value ∙ ap run c.prepare-p.ensures.asks ∙ sym (search_run c.args.r (length c.args.queue.now) _ refl c.requires.none)
