use mathlib.Core.Path.{◌≡◌}
use Rattle.whole.specs.Defs.{min_z, max_z}
use Rattle.rules.specs.declared.Axis.{Axis}
use Rattle.rules.specs.Gap.{place}
use Rattle.bounds.specs.Block.{Picked}
use Rattle.bounds.proofs.block.ends_on.Given as goal

-- `bounds::block::ends_on` meets its contract. Assumes nothing.
abbrev pub invariant-loop-i : goal.invariant-loop-i
invariant-loop-i l = record {
  least : (a : Axis) → place a ≡ l.axis → Picked min_z l.s l.e a l.first l.i l.ends.least;
  greatest : (a : Axis) → place a ≡ l.axis → Picked max_z l.s l.e a l.first l.i l.ends.greatest;
}
