use native.Mathlib.Omega.{arith}
use mathlib.Core.Path.{◌≡◌}
use Rattle.text.proofs.Rows.{counted_more, counted_all}
use Rattle.text.proofs.count_word.Goals as goal

pub loop-i-preserved : goal.loop-i-preserved
loop-i-preserved c =
    counted_more c.args.told.now c.args.n c.args.k c.loop-i.invariant (omega arith) (rw c.kind.ensures at c.from-sum.ensures)

pub returns : goal.returns
returns c =
    let e : c.loop-i.i ≡ c.args.n = omega arith in
    counted_all c.args.told.now c.args.n c.args.k (rw e at c.loop-i.invariant)
