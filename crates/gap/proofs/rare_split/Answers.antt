use native.Mathlib.Nat.{le_trans}
use Rattle.rules.specs.declared.Parameter.TheVariants.{InT, InU, InV}
use Rattle.rules.specs.Search.{split}
use Rattle.gap.specs.Spread.{spread_most_lem}
use Rattle.gap.proofs.rare_split.Goals as goal

pub weight-requires : goal.weight-requires
weight-requires c = (rw c.spread_t.ensures (spread_most_lem c.requires.0 InT), le_trans c.requires.1.t c.requires.0.deepest)

pub weight-requires-2 : goal.weight-requires-2
weight-requires-2 c = (rw c.spread_u.ensures (spread_most_lem c.requires.0 InU), le_trans c.requires.1.u c.requires.0.deepest)

pub weight-requires-3 : goal.weight-requires-3
weight-requires-3 c = (rw c.spread_v.ensures (spread_most_lem c.requires.0 InV), le_trans c.requires.1.v c.requires.0.deepest)

pub returns : goal.returns
unfolding split
returns c =
    rw
    (c.weight.ensures, c.spread_t.ensures, c.weight-2.ensures, c.spread_u.ensures, c.weight-3.ensures, c.spread_v.ensures)
    at c.winner.ensures
