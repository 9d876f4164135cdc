use mathlib.Core.Path.{refl}
use Prim.Native.Nat.{◌+◌}
use Rattle.rules.specs.AnswerFile.{same_ids}
use Rattle.shift_log.proofs.Ids.{one_more}
use Rattle.shift_log.proofs.matching.same_ids.Goals as goal

pub loop-i-init : goal.loop-i-init
unfolding same_ids
loop-i-init c = refl

pub loop-i-preserved : goal.loop-i-preserved
loop-i-preserved c = one_more c.args.size c.args.s.now (c.args.first + 4) c.args.log.now c.args.to c.loop-i.i c.loop-i.invariant c.read_u32.ensures c.read_u32-in-loop-i.ensures
