use Rattle.controller.proofs.Writing.{puts}
use Rattle.controller.proofs.taperhive_trailer.Goals as goal

pub returns : goal.returns
returns c = puts c.write_trailer.ensures c.number_in.ensures
