use Prim.Native.Nat.{ℕ, suc, ◌+◌, ◌*◌}
use mathlib.Core.Path.{◌≡◌, sym, ap, ◌∙◌}
use native.Mathlib.Omega.{arith}
use Rattle.little.specs.Put.{put_nil, one_more}
use Rattle.rules.specs.QueryFile.{put}
use Rattle.rules.specs.Bounds.{bound, bounds_to}
use Rattle.bounds.specs.Reach.{body_of}
use Rattle.bounds.specs.Lists.{length_bounds}
use Rattle.bounds.proofs.write_all.Goals as goal

pub loop-block-init : goal.loop-block-init
unfolding bounds_to
loop-block-init c = sym (put_nil c.args.bounds.now 0)

pub bound_of-requires : goal.bound_of-requires
bound_of-requires c = c.requires.body.each c.loop-block.block (omega arith)

pub loop-block-preserved : goal.loop-block-preserved
unfolding bounds_to
loop-block-preserved c =
    let m = body_of c.args.m in
    let len = length_bounds m c.loop-block.block in
    let next : suc c.loop-block.block ≡ c.loop-block.block + 1 = omega arith in
    one_more c.args.bounds.now _ _ 0 (6 * c.loop-block.block) (bounds_to m c.loop-block.block) (bound m c.loop-block.block) c.loop-block.invariant
    (c.write_bound.ensures ∙ ap (put _ (6 * c.loop-block.block)) c.bound_of.ensures)
    (omega (arith, len)) (omega (arith, len, c.requires.room))
    ∙ ap (λ (n : ℕ). put c.args.bounds.now 0 (bounds_to m n)) next
