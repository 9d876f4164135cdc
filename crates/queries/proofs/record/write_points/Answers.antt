use mir.Val.{SFits}
use mir.Syntax.{w32}
use mir.Val.{to_z, of_z}
use mir.Facts.{to_z-of_z}
use Rattle.queries.specs.Coordinates.{write_more}
use borrow.Author.Rules.{rules}
use Rattle.little.specs.Put.{put_nil}
use lib.IntN.{pos}
use mathlib.Core.Path.{sym}
use native.Mathlib.Omega.{arith}
use lib.ListN.{get_or}
use Rattle.rules.specs.QueryFile.{coordinate_bytes}
use Rattle.queries.proofs.record.write_points.Goals as goal

pub loop-i-init : goal.loop-i-init
unfolding coordinate_bytes
loop-i-init c = sym (put_nil _ _)

pub loop-i-preserved : goal.loop-i-preserved
loop-i-preserved c =
    let fits : SFits w32 (get_or c.args.p c.loop-i.i (pos 0)) = search rules in
    write_more c.args.s.now c.args.at c.args.p c.loop-i.i (omega arith) c.loop-i.s c.write_i32.new.s
    (to_z w32 (of_z w32 (get_or c.args.p c.loop-i.i (pos 0)))) (omega arith) c.loop-i.invariant
    (to_z-of_z fits) c.write_i32.ensures
