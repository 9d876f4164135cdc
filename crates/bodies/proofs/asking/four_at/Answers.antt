use Rattle.bodies.specs.Asking.{four_at}
use Rattle.bodies.proofs.asking.four_at.Goals as goal

pub returns : goal.returns
unfolding four_at
returns c =
    simp (c.corner_at.ensures, c.corner_at-2.ensures, c.corner_at-3.ensures, c.corner_at-4.ensures)
