use mathlib.Core.Path.{ap, ◌∙◌}
use Prim.Native.Nat.{◌+◌, ◌*◌}
use lib.IntN.{ℤ}
use mathlib.Core.List.{List}
use Rattle.bounds.specs.Lists.{set_span, put_six}
use Rattle.bounds.proofs.block.write_bound.Goals as goal

pub returns : goal.returns
returns c =
    c.write_span-3.ensures
    ∙ ap (λ (l : List ℤ). set_span l (6 * c.args.block + 2) c.args.r.z) c.write_span-2.ensures
    ∙ ap (λ (l : List ℤ). set_span (set_span l (6 * c.args.block + 1) c.args.r.y) (6 * c.args.block + 2) c.args.r.z) c.write_span.ensures
    ∙ put_six c.args.bounds.now (6 * c.args.block) c.args.r c.requires
