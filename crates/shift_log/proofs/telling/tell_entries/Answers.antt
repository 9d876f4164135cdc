use mathlib.Core.Path.{refl}
use native.Mathlib.Omega.{arith}
use Rattle.shift_log.proofs.Every.{told_none, told_one, told_all}
use Rattle.shift_log.proofs.telling.tell_entries.Goals as goal

pub loop-i-init : goal.loop-i-init
loop-i-init c = told_none _ _ _ _

pub loop-i-preserved : goal.loop-i-preserved
loop-i-preserved c =
    told_one c.loop-i.invariant (omega arith) c.requires.1 refl c.read_u32.ensures c.decode.ensures c.write_eight.ensures

pub shape_of-out : goal.shape_of-out
shape_of-out c = c.loop-i.invariant.numbers

pub returns : goal.returns
returns c = told_all c.loop-i.invariant (omega arith)
