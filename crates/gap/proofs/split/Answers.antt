use native.Mathlib.Nat.{le_trans}
use Rattle.rules.specs.declared.Parameter.TheVariants.{InT, InU, InV}
use Rattle.rules.specs.Search.{split}
use Rattle.gap.specs.Spread.{spread_most_lem}
use Rattle.gap.proofs.split.Goals as goal

pub weight-t-requires : goal.weight-t-requires
weight-t-requires c = (rw c.spread_t.ensures (spread_most_lem c.requires.0 InT), le_trans c.requires.1.t c.requires.0.deepest)

pub weight-u-requires : goal.weight-u-requires
weight-u-requires c = (rw c.spread_u.ensures (spread_most_lem c.requires.0 InU), le_trans c.requires.1.u c.requires.0.deepest)

pub weight-v-requires : goal.weight-v-requires
weight-v-requires c = (rw c.spread_v.ensures (spread_most_lem c.requires.0 InV), le_trans c.requires.1.v c.requires.0.deepest)

pub returns : goal.returns
unfolding split
returns c =
    rw
    (c.weight-t.ensures, c.spread_t.ensures, c.weight-u.ensures, c.spread_u.ensures, c.weight-v.ensures, c.spread_v.ensures)
    at c.winner.ensures
