use Rattle.rules.specs.Bodies.{ask_of}
use Rattle.bodies.specs.Asking.{four_at, corner_at}
use Rattle.bodies.proofs.asking.query_of.Goals as goal

pub returns : goal.returns
unfolding ask_of four_at corner_at
returns c m n = rw (c.points_of-points.ensures, c.four_at-end.ensures, c.four_at-start.ensures)
