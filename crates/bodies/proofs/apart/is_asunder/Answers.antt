use Prim.Native.Nat.{◌<◌}
use borrow.Author.Rules.{rules}
use mathlib.Core.Path.{subst}
use lib.ListN.{length}
use Rattle.rules.specs.declared.Axis.TheVariants.{X, Y, Z}
use Rattle.gap.specs.declared.span.Span.{Span}
use Rattle.bodies.specs.Between.{Further}
use Rattle.bodies.specs.Passed.{asunder}
use Rattle.bodies.proofs.apart.is_asunder.Goals as goal

-- `bodies::apart::is_asunder` meets its contract. Assumes nothing.
pub returns-then-are_apart : goal.returns-then-are_apart
returns-then-are_apart c =
    let some : 0 < length c.args.bounds.now = search rules in
    λ e. asunder (some) Z (subst (λ (q : Span). Further c.args.r.z q c.args.w.dz) (c.bound_at-b.ensures.is Z) (c.are_apart.ensures c.if-are_apart.true))

pub returns-then-are_apart-2 : goal.returns-then-are_apart-2
returns-then-are_apart-2 c =
    let some : 0 < length c.args.bounds.now = search rules in
    λ e. asunder (some) X (subst (λ (q : Span). Further c.args.r.x q c.args.w.dx) (c.bound_at-b.ensures.is X) (c.are_apart-2.ensures c.if-are_apart-2.true))

pub returns : goal.returns
returns c =
    let some : 0 < length c.args.bounds.now = search rules in
    λ e. asunder (some) Y (subst (λ (q : Span). Further c.args.r.y q c.args.w.dy) (c.bound_at-b.ensures.is Y) (c.are_apart-3.ensures e))
