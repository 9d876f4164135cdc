use mathlib.Core.Path.{refl}
use Rattle.queue.proofs.Picking.{half_there}
use Rattle.queue.proofs.half_at.Goals as goal

pub returns-then-at-n : goal.returns-then-at-n
returns-then-at-n c =
    (refl, half_there c.args.high c.requires.0 c.requires.1 c.if-at-n.true _ c.half_by.ensures)
