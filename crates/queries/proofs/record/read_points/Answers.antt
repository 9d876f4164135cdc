use mir.Syntax.{w32}
use mir.Facts.{to_z-of_z}
use borrow.Author.Rules.{sfits_of}
use Rattle.queries.specs.Coordinates.{read_more}
use mathlib.Core.Path.{refl, ◌∙◌}
use native.Mathlib.Omega.{arith}
use lib.ListN.{length-set}
use Rattle.rules.specs.QueryFile.{coordinates_at}
use Rattle.queries.proofs.record.read_points.Goals as goal

pub loop-i-init : goal.loop-i-init
unfolding coordinates_at
loop-i-init c = (refl, refl)

pub loop-i-preserved : goal.loop-i-preserved
loop-i-preserved c = (
  simp length-set c.loop-i.invariant.0,
  read_more _ _ c.loop-i.p c.loop-i.i c.loop-i.invariant.1 _ (omega arith) (to_z-of_z {w = w32} (sfits_of c.read_i32.type_inv) ∙ c.read_i32.ensures),
)
