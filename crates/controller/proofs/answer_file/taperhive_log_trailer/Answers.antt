use Rattle.controller.proofs.Writing.{puts}
use Rattle.controller.proofs.answer_file.taperhive_log_trailer.Goals as goal

pub returns : goal.returns
returns c = puts c.write_trailer.ensures c.number_in.ensures
