use native.Mathlib.Omega.{arith}
use borrow.Author.Count.{below_more}
use Rattle.bodies.specs.Passed.{Asunder}
use Rattle.bodies.proofs.apart.is_alone.Goals as goal

pub loop-block-preserved : goal.loop-block-preserved
loop-block-preserved c = below_more (Asunder c.args.w c.args.r c.args.bounds.now) c.loop-block.block c.loop-block.invariant (c.is_asunder.ensures c.if-not-is_asunder.false)

pub returns : goal.returns
returns c = λ e block l. c.loop-block.invariant block (omega arith)
