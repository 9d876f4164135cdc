use native.Mathlib.Omega.{arith}
use mathlib.Core.Path.{◌≡◌}
use Rattle.text.proofs.Rows.{tallied_none, tallied_more, tallied_all}
use Rattle.text.proofs.write_tallies.Goals as goal

pub loop-word-init : goal.loop-word-init
loop-word-init c = tallied_none c.args.told.now c.args.n c.args.out.now c.args.at

pub loop-word-preserved : goal.loop-word-preserved
loop-word-preserved c =
    tallied_more c.args.told.now c.args.n c.args.out.now c.args.at c.loop-word.invariant (omega arith) c.requires.1 c.write_tally-end.auto.out c.write_tally-end.ensures

pub returns : goal.returns
returns c =
    let e : c.loop-word.word-index ≡ 6 = omega arith in
    tallied_all c.args.told.now c.args.n c.args.out.now c.args.at (rw e at c.loop-word.invariant)
