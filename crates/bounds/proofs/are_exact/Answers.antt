use Prim.Native.Nat.{ℕ, ◌*◌}
use mathlib.Core.Path.{◌≡◌, refl, sym, subst, ◌∙◌}
use native.Mathlib.Omega.{arith}
use lib.ListN.{take}
use Rattle.rules.specs.Bounds.{blocks, bounds_to}
use Rattle.bounds.specs.Reach.{body_of}
use Rattle.bounds.specs.Lists.{spans_yes, spans_no, same_more, same_not, same_all, same_long}
use Rattle.bounds.proofs.are_exact.Goals as goal

pub returns-then-bounds-blocks : goal.returns-then-bounds-blocks
returns-then-bounds-blocks c = sym (same_long (body_of c.args.m) c.args.bounds.now (blocks c.args.m.count) (λ e. c.if-bounds-blocks.true (omega (arith, e))))

pub loop-block-init : goal.loop-block-init
unfolding bounds_to
loop-block-init c = refl

pub bound_of-requires : goal.bound_of-requires
bound_of-requires c = c.requires.each c.loop-block.block (omega arith)

pub returns-then-not-is_exact : goal.returns-then-not-is_exact
returns-then-not-is_exact c =
    sym (same_not (body_of c.args.m) c.args.bounds.now c.loop-block.block (blocks c.args.m.count) (omega arith) (λ e. spans_no c.args.bounds.now (6 * c.loop-block.block) _ (sym c.is_exact.ensures ∙ c.if-not-is_exact.true) (e ∙ sym c.bound_of.ensures)))

pub loop-block-preserved : goal.loop-block-preserved
loop-block-preserved c =
    same_more (body_of c.args.m) c.args.bounds.now c.loop-block.block (omega arith) c.loop-block.invariant
    (spans_yes c.args.bounds.now (6 * c.loop-block.block) _ (sym c.is_exact.ensures ∙ c.if-not-is_exact.false) ∙ c.bound_of.ensures)

pub returns : goal.returns
returns c =
    let last : c.loop-block.block ≡ blocks c.args.m.count = omega arith in
    sym (same_all (body_of c.args.m) c.args.bounds.now (blocks c.args.m.count) (omega arith)
    (subst (λ (n : ℕ). take (6 * n) c.args.bounds.now ≡ bounds_to (body_of c.args.m) n) last c.loop-block.invariant))
