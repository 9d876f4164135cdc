use mathlib.Core.Path.{◌≡◌, sym, ◌∙◌}
use mathlib.Core.Bool.{◌&&◌}
use Rattle.kernel.specs.declared.Pair.{Pair}
use Rattle.gap.specs.declared.cell.Cell.{Cell}
use Rattle.gap.specs.Corners.{is_narrow, is_thin}
use Rattle.gap.specs.Asked.{height_first}
use Rattle.gap.proofs.measure.thin.Goals as goal
use Rattle.gap.proofs.measure.thin.Goals.{then-narrow, else-narrow}

-- the axes as `is_thin` names them are the axes by height
by_height : (p : Pair) (w : Cell) → (is_narrow p.z w p.tolerance && (is_narrow p.x w p.tolerance && is_narrow p.y w p.tolerance)) ≡ is_thin p w
unfolding is_thin
by_height p w = height_first (is_narrow p.x w p.tolerance) (is_narrow p.y w p.tolerance) (is_narrow p.z w p.tolerance)

pub returns-then-narrow-2 : goal.returns-then-narrow-2
returns-then-narrow-2 c =
    elim c.if-narrow.branch [
      | then-narrow w ↦
          rw (← by_height c.args.p c.args.w, ← c.narrow.ensures, w.if-narrow.true, ← w.narrow-then-narrow.ensures, sym w.value-is ∙ c.if-narrow-2.true)
          c.narrow-then-narrow-2.ensures
      | else-narrow w ↦ cc
    ]

pub returns-else-narrow-2 : goal.returns-else-narrow-2
returns-else-narrow-2 c =
    elim c.if-narrow.branch [
      | then-narrow w ↦
          rw (← by_height c.args.p c.args.w, ← c.narrow.ensures, w.if-narrow.true, ← w.narrow-then-narrow.ensures, sym w.value-is ∙ c.if-narrow-2.false)
          c.if-narrow-2.false
      | else-narrow w ↦ rw (← by_height c.args.p c.args.w, ← c.narrow.ensures, w.if-narrow.false) c.if-narrow-2.false
    ]
