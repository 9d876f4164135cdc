-- Every row of the table gives 16, so the first that is due is any.
use Rattle.std.proofs.Common.{true, false}
use Rattle.shift_log.proofs.Refusing.{any_row}
use Rattle.shift_log.proofs.word.check_word.Goals as goal

pub returns-then-wrong : goal.returns-then-wrong
returns-then-wrong c = any_row c.args.a {wrong = true} (cc)

pub returns-else-wrong : goal.returns-else-wrong
returns-else-wrong c = any_row c.args.a {wrong = false} (cc)
