use native.Mathlib.Omega.{arith}
use lib.ListN.{length-set}
use Rattle.little.specs.Put.{put4}
use Rattle.answers.proofs.write_four.Goals as goal

pub bounds-out-at-2 : goal.bounds-out-at-2
bounds-out-at-2 c = simp length-set (omega arith)

pub bounds-out-at-3 : goal.bounds-out-at-3
bounds-out-at-3 c = simp length-set (omega arith)

pub bounds-out-at-4 : goal.bounds-out-at-4
bounds-out-at-4 c = simp length-set (omega arith)

pub returns : goal.returns
returns c = put4 _ _ _ _ _ _ c.requires
