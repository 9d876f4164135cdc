use native.Mathlib.Omega.{arith}
use Rattle.controller.proofs.Giving.{few_written, given_written}
use Rattle.controller.proofs.taperhive_write.Goals as goal

-- `controller::taperhive_write` meets its contract: points are missing, or the writer's answer as a number. Assumes nothing.
pub returns-then-points-lt24 : goal.returns-then-points-lt24
returns-then-points-lt24 c =
    rw c.number.ensures (few_written c.args.edition c.args.points.now c.args.out.now c.args.at _ (omega (arith, c.if-points-lt24.true)))

pub returns : goal.returns
returns c =
    given_written c.args.edition c.args.points.now c.args.out.now c.args.at _ c.record_of-pair.ensures.value (omega (arith, c.if-points-lt24.false)) c.write_record.ensures c.number_in.ensures
