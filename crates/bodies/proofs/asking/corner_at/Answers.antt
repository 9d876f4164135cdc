use borrow.Author.Tests.{lt-ltb, le-ltb}
use Rattle.bodies.specs.Asking.{corner_at}
use Rattle.bodies.proofs.asking.corner_at.Goals as goal

pub returns-then-n-lt3 : goal.returns-then-n-lt3
unfolding corner_at
returns-then-n-lt3 c = rw (lt-ltb c.args.n 3 c.if-n-lt3.true) c.point_at.ensures

pub returns : goal.returns
unfolding corner_at
returns c = rw (le-ltb c.args.n 3 c.if-n-lt3.false) c.point_at-2.ensures
