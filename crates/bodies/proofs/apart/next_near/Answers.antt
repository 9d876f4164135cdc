use Prim.Native.Nat.{◌/◌}
use native.Mathlib.Omega.{arith}
use Rattle.bodies.specs.Passed.{passed_on, has_bounds, has_bound, block_distant}
use Rattle.bodies.proofs.apart.next_near.Goals as goal

pub is_asunder-requires : goal.is_asunder-requires
is_asunder-requires c =
    (c.requires.0, has_bound (has_bounds c.args.b.count c.args.b.start.now c.args.b.end.now c.args.bounds.now (omega arith) c.requires.1.few c.requires.1.lent) (c.loop-j.j / 32) (omega arith))

pub returns-then-near-end : goal.returns-then-near-end
returns-then-near-end c =
    passed_on c.loop-j.invariant c.next_in-near.ensures.later (omega (arith, c.next_in-near.ensures.most, c.block_end-end.ensures)) c.next_in-near.ensures.each

pub loop-j-preserved-else-near-end : goal.loop-j-preserved-else-near-end
loop-j-preserved-else-near-end c =
    passed_on c.loop-j.invariant (omega (arith, c.block_end-end.ensures)) (omega (arith, c.block_end-end.ensures)) (λ x f g. c.next_in-near.ensures.each x f (omega arith))

pub loop-j-preserved : goal.loop-j-preserved
loop-j-preserved c =
    passed_on c.loop-j.invariant (omega (arith, c.block_end-end.ensures)) (omega (arith, c.block_end-end.ensures))
    (λ x f g. block_distant c.requires.1.lent (c.is_asunder.ensures (c.if-not-is_asunder.false)) (record { from = omega arith; until = omega (arith, c.block_end-end.ensures); there = omega (arith, c.block_end-end.ensures) }))
