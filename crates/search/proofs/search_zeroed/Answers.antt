use Rattle.search.proofs.Running.{running_none, running_ends, running_goes}
use mathlib.Core.Path.{◌∙◌}
use Rattle.search.proofs.search_zeroed.Goals as goal

pub loop-a-init : goal.loop-a-init
loop-a-init c = running_none c.requires

pub returns-in-Break-clause-value : goal.returns-in-Break-clause-value
returns-in-Break-clause-value c = running_ends c.loop-a.invariant (rw c.in-Break.is at c.one_level.ensures)

pub loop-a-preserved : goal.loop-a-preserved
loop-a-preserved c =
    running_goes c.loop-a.invariant (rw c.in-Continue.is at c.one_level.ensures) (c.one_level.auto.queue ∙ c.loop-a.invariant.len)
