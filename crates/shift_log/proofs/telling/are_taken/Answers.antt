use mathlib.Core.Path.{refl}
use Rattle.shift_log.specs.Calls.{are_taken}
use Rattle.shift_log.proofs.Every.{looked_more}
use Rattle.shift_log.proofs.telling.are_taken.Goals as goal

pub loop-i-init : goal.loop-i-init
unfolding are_taken
loop-i-init c = refl

pub loop-i-preserved : goal.loop-i-preserved
loop-i-preserved c = looked_more c.args.log.now c.args.first c.loop-i.i c.loop-i.invariant c.is_taken-all.ensures
