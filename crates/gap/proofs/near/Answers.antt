use borrow.Author.Tests.{ne_eqb}
use Rattle.rules.specs.Search.{near}
use Rattle.gap.specs.Asked.{width_is}
use Rattle.gap.proofs.near.Goals as goal

-- `gap::near` meets its contract.
pub returns : goal.returns
unfolding near
returns c =
    rw (← c.requires.1, ne_eqb _ 0 c.if-e-eq0.false, ← width_is c.requires.0.0.deepest c.args.p c.args.k c.args.i c.requires.0.1.0, ← c.cell_of-w.ensures.is) c.thin.ensures
