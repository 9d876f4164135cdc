use Prim.Native.Nat.{◌/◌}
use native.Mathlib.Omega.{arith}
use Rattle.bodies.specs.Passed.{passed_on}
use Rattle.bodies.proofs.apart.next_row.Goals as goal

pub loop-i-preserved : goal.loop-i-preserved
loop-i-preserved c =
    passed_on c.loop-i.invariant (omega (arith, c.block_end-i.ensures)) (omega (arith, c.block_end-i.ensures))
    (λ x f g. record { block = c.loop-i.i / 32; from = omega arith; until = omega (arith, c.block_end-i.ensures); by_bounds = c.is_block_alone.ensures (c.if-not-is_block_alone.false) })
