use Rattle.std.proofs.Common.{rules, sym, ◌∙◌, arith, SFits, get_or, pos, to_z-of_z, w32}
use Rattle.rules.specs.Numbers.{limits_by, is_coordinate}
use Rattle.refusals.specs.Every.{every_next, every_end}
use Rattle.refusals.proofs.are_within.Goals as goal

pub loop-c-preserved : goal.loop-c-preserved
loop-c-preserved c =
    let fits : SFits w32 (get_or c.args.s.now c.loop-c.c-index (pos 0)) = search rules in
    c.loop-c.invariant
    ∙ every_next (is_coordinate (limits_by c.args.longer)) c.args.s.now c.loop-c.all c.is_coordinate-all.result c.loop-c.c-index _ (omega arith) c.is_coordinate-all.ensures (to_z-of_z fits)

pub returns : goal.returns
returns c =
    sym (c.loop-c.invariant ∙ every_end (is_coordinate (limits_by c.args.longer)) c.args.s.now c.loop-c.all c.loop-c.c-index (omega arith))
