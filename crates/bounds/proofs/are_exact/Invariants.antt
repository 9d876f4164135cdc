use Prim.Native.Nat.{◌*◌}
use mathlib.Core.Path.{◌≡◌}
use lib.ListN.{take}
use Rattle.rules.specs.Bounds.{bounds_to}
use Rattle.bounds.specs.Reach.{body}
use Rattle.bounds.proofs.are_exact.Given as goal

-- `bounds::are_exact` meets its contract. Assumes nothing.
abbrev pub invariant-loop-block : goal.invariant-loop-block
invariant-loop-block l = take (6 * l.block) l.bounds ≡ bounds_to (body l.m.count l.m.start.now l.m.end.now) l.block
