use native.Mathlib.Omega.{arith}
use mathlib.Core.Path.{◌≡◌}
use Rattle.text.proofs.Rows.{lined_none, lined_more, lined_all}
use Rattle.text.proofs.write_lines.Goals as goal

pub loop-i-init : goal.loop-i-init
loop-i-init c = lined_none c.args.told.now c.args.out.now c.args.n

pub loop-i-preserved : goal.loop-i-preserved
loop-i-preserved c =
    lined_more c.args.told.now c.args.out.now c.args.n c.loop-i.invariant (omega arith) c.requires.1 c.write_line-at.auto.out (rw c.row_at.ensures at c.write_line-at.ensures)

pub returns : goal.returns
returns c =
    let e : c.loop-i.i ≡ c.args.n = omega arith in
    lined_all c.args.told.now c.args.out.now c.args.n (rw e at c.loop-i.invariant)
