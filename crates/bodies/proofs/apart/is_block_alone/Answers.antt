use Prim.Native.Nat.{◌<◌}
use borrow.Author.Rules.{rules}
use lib.ListN.{length}
use Rattle.bodies.proofs.apart.is_block_alone.Goals as goal

-- `bodies::apart::is_block_alone` meets its contract. Assumes nothing.
pub returns : goal.returns
returns c =
    let some : 0 < length c.args.abounds.now = search rules in
    λ e. record { lent = some; reach = c.bound_at.result; is = c.bound_at.ensures; all = c.is_alone.ensures e }
