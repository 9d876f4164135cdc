use native.Mathlib.Omega.{arith}
use Prim.Native.Nat.{◌+◌, ◌*◌}
use lib.ListN.{length}
use borrow.Author.Tests.{le-leb, lt-leb}
use Rattle.text.specs.Text.{file_text}
use Rattle.text.specs.Writers.{room_for}
use Rattle.text.proofs.Writing.{then, printed, printed_not}
use Rattle.text.proofs.write_answers.Goals as goal

pub returns-then-told-records : goal.returns-then-told-records
unfolding room_for
returns-then-told-records c =
    printed_not (rw (lt-leb (8 * c.args.n) (length c.args.told.now) c.if-told-records.true))

pub returns-then-out-records : goal.returns-then-out-records
unfolding room_for
returns-then-out-records c =
    printed_not (rw (le-leb (8 * c.args.n) (length c.args.told.now) c.if-told-records.false, lt-leb (80 * c.args.n + 160) (length c.args.out.now) c.if-out-records.true))

pub returns : goal.returns
unfolding room_for file_text
returns c =
    printed
    (rw (le-leb (8 * c.args.n) (length c.args.told.now) c.if-told-records.false, le-leb (80 * c.args.n + 160) (length c.args.out.now) c.if-out-records.false))
    (then c.write_lines-total_at.ensures c.write_total.ensures (omega arith))
