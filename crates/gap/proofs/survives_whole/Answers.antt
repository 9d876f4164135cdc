use Rattle.std.proofs.Common.{sym, ◌∙◌}
use lib.Dec.{lit≤}
use Rattle.kernel.specs.Ranges.{one_part}
use Rattle.gap.specs.Prepared.{coordinates, pair_prepared, misses_z, misses_x, goes_by_y}
use Rattle.gap.proofs.survives_whole.Goals as goal
use Rattle.gap.proofs.survives_whole.Goals.{then-meets_whole, else-meets_whole}

-- `gap::survives_whole` meets its contract.
pub kernel_at-requires : goal.kernel_at-requires
kernel_at-requires c = (lit≤ tt, coordinates c.args.r c.args.words c.requires)

pub meets_whole-requires : goal.meets_whole-requires
meets_whole-requires c =
    let q = pair_prepared c.args.r c.args.words c.requires in
    (rw c.kernel_at.ensures (one_part q.ranged.z), q.ranged.dz)

pub kernel_at-requires-then-meets_whole : goal.kernel_at-requires-then-meets_whole
kernel_at-requires-then-meets_whole c = (lit≤ tt, coordinates c.args.r c.args.words c.requires)

pub meets_whole-requires-then-meets_whole : goal.meets_whole-requires-then-meets_whole
meets_whole-requires-then-meets_whole c =
    let q = pair_prepared c.args.r c.args.words c.requires in
    (rw c.kernel_at-then-meets_whole.ensures (one_part q.ranged.x), q.ranged.dx)

pub kernel_at-requires-then-meets_whole-2 : goal.kernel_at-requires-then-meets_whole-2
kernel_at-requires-then-meets_whole-2 c = (lit≤ tt, coordinates c.args.r c.args.words c.requires)

pub meets_whole-requires-then-meets_whole-2 : goal.meets_whole-requires-then-meets_whole-2
meets_whole-requires-then-meets_whole-2 c =
    let q = pair_prepared c.args.r c.args.words c.requires in
    (rw c.kernel_at-then-meets_whole-2.ensures (one_part q.ranged.y), q.ranged.dy)

pub returns-then-meets_whole-2 : goal.returns-then-meets_whole-2
returns-then-meets_whole-2 c =
    elim c.if-meets_whole.branch [
      | then-meets_whole w ↦
          goes_by_y c.args.r c.args.words
          (rw c.kernel_at.ensures at c.meets_whole.ensures) w.if-meets_whole.true
          (rw w.kernel_at-then-meets_whole.ensures at w.meets_whole-then-meets_whole.ensures) (sym w.value-is ∙ c.if-meets_whole-2.true)
          (rw c.kernel_at-then-meets_whole-2.ensures at c.meets_whole-then-meets_whole-2.ensures)
      | else-meets_whole w ↦ cc
    ]

pub returns-else-meets_whole-2 : goal.returns-else-meets_whole-2
returns-else-meets_whole-2 c =
    elim c.if-meets_whole.branch [
      | then-meets_whole w ↦
          c.if-meets_whole-2.false
          ∙ misses_x c.args.r c.args.words
          (rw c.kernel_at.ensures at c.meets_whole.ensures) w.if-meets_whole.true
          (rw w.kernel_at-then-meets_whole.ensures at w.meets_whole-then-meets_whole.ensures) (sym w.value-is ∙ c.if-meets_whole-2.false)
      | else-meets_whole w ↦
          c.if-meets_whole-2.false ∙ misses_z c.args.r c.args.words (rw c.kernel_at.ensures at c.meets_whole.ensures) w.if-meets_whole.false
    ]
