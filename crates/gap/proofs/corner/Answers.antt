use native.Mathlib.Omega.{arith}
use native.Mathlib.Nat.{le_of_lt}
use Rattle.rules.specs.Search.{corner}
use Rattle.gap.specs.Grid.{over_of, low_fits}
use Rattle.gap.specs.Asked.{excess_is}
use Rattle.gap.proofs.corner.Goals as goal

pub excess-requires : goal.excess-requires
excess-requires c = over_of c.requires.0 c.cell_of-w.ensures

pub low-t-requires : goal.low-t-requires
low-t-requires c = (omega (arith, c.requires.0.deepest), (omega (arith, c.requires.1.0.t, c.requires.0.deepest), le_of_lt c.requires.1.1.t))

pub overflow_cast-t : goal.overflow_cast-t
overflow_cast-t c = let h = low-t-requires c.before in record { fits = omega (arith, c.low-t.ensures, low_fits h.0 h.1.0 h.1.1) }

pub low-u-requires : goal.low-u-requires
low-u-requires c = (omega (arith, c.requires.0.deepest), (omega (arith, c.requires.1.0.u, c.requires.0.deepest), le_of_lt c.requires.1.1.u))

pub overflow_cast-u : goal.overflow_cast-u
overflow_cast-u c = let h = low-u-requires c.before in record { fits = omega (arith, c.low-u.ensures, low_fits h.0 h.1.0 h.1.1) }

pub low-v-requires : goal.low-v-requires
low-v-requires c = (omega (arith, c.requires.0.deepest), (omega (arith, c.requires.1.0.v, c.requires.0.deepest), le_of_lt c.requires.1.1.v))

pub overflow_cast-v : goal.overflow_cast-v
overflow_cast-v c = let h = low-v-requires c.before in record { fits = omega (arith, c.low-v.ensures, low_fits h.0 h.1.0 h.1.1) }

pub returns : goal.returns
unfolding corner
returns c =
    rw (
      c.low-t.ensures,
      c.low-u.ensures,
      c.low-v.ensures,
      c.excess.ensures,
      c.cell_of-w.ensures.is,
      excess_is c.requires.0.deepest c.args.p c.args.k c.args.i c.requires.1.0,
    )
