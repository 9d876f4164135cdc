use Rattle.search.proofs.Stepping.{steps_ends, steps_clear, steps_splits}
use Rattle.search.proofs.one_level.Goals as goal

-- The ways out are laws of `Stepping`.
pub returns-in_err-survivors : goal.returns-in_err-survivors
returns-in_err-survivors c = rw c.from_residual.ensures (steps_ends (rw c.in_err-survivors.was at c.check_level.ensures))

pub returns-then-survivors-eq0 : goal.returns-then-survivors-eq0
returns-then-survivors-eq0 c = steps_clear (rw c.in_ok-survivors.was at c.check_level.ensures) c.if-survivors-eq0.true

pub returns : goal.returns
returns c = steps_splits (rw c.in_ok-survivors.was at c.check_level.ensures) c.next_level.ensures
