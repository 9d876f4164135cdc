use Rattle.queue.proofs.Copying.{copied_more}
use native.Mathlib.Omega.{arith}
use Rattle.queue.proofs.copy_down.Goals as goal

pub loop-i-preserved : goal.loop-i-preserved
loop-i-preserved c =
    copied_more c.args.queue.now c.args.h c.args.n c.requires.1 c.loop-i.queue c.loop-i.i c.loop-i.invariant (omega arith)
