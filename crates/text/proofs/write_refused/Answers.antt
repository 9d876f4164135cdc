use native.Mathlib.Omega.{arith}
use lib.ListN.{length}
use borrow.Author.Tests.{le-leb, lt-leb}
use Rattle.text.specs.Text.{refused_text}
use Rattle.text.specs.Writers.{room_for_refusal}
use Rattle.text.proofs.Writing.{then, printed, printed_not}
use Rattle.text.proofs.write_refused.Goals as goal

-- `text::write_refused` meets its contract. Assumes nothing.
pub returns-then-out-lt16 : goal.returns-then-out-lt16
unfolding room_for_refusal
returns-then-out-lt16 c = printed_not (lt-leb 16 (length c.args.out.now) c.if-out-lt16.true)

pub returns : goal.returns
unfolding room_for_refusal refused_text
returns c =
    printed (le-leb 16 (length c.args.out.now) c.if-out-lt16.false)
    (then (then c.write_text-number_at.ensures c.write_field-end_at.ensures (omega arith)) c.write_byte.ensures (omega arith))
