use mathlib.Core.Path.{◌≡◌}
use Prim.Native.Nat.{ℕ, ◌*◌, ◌%◌, ◌≤◌}
use native.Mathlib.Omega.{arith}
use borrow.Author.Tests.{ne_eqb}
use Rattle.rules.specs.Search.{side}
use Rattle.gap.specs.Spread.{spread_most, weight_most}
use Rattle.gap.proofs.weigh.weight.Goals as goal

-- `gap::weigh::weight` meets its contract.
-- nothing is shifted out
exact : {n : ℕ} (k : ℕ) → n ≤ spread_most → (n * side k) % 18446744073709551616 ≡ n * side k
exact k h = omega (arith, weight_most k h)

pub returns-else-k-deepest : goal.returns-else-k-deepest
returns-else-k-deepest c = rw (ne_eqb _ _ c.if-k-deepest.false, exact c.args.k c.requires.0)
