use mathlib.Core.Path.{ap, ◌∙◌}
use Rattle.std.proofs.Common.{List, ℕ, ◌+◌, ◌-◌}
use native.Mathlib.Omega.{arith}
use borrow.Rule.Slice.PartMut.{put_mid}
use Rattle.little.proofs.Machine.{put_mid_is}
use Rattle.little.proofs.write4.Goals as goal

pub returns : goal.returns
returns c =
    ap (λ (l : List ℕ). put_mid c.args.at (c.args.at + 4 - c.args.at) c.args.s.now l) c.copy_from_slice.ensures.after
    ∙ put_mid_is c.args.s.now c.args.bytes c.args.at _ (omega arith)
