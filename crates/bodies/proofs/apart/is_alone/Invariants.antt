use Prim.Native.Nat.{ℕ, ◌<◌}
use Rattle.bodies.specs.Passed.{Asunder}
use Rattle.bodies.proofs.apart.is_alone.Given as goal

-- `bodies::apart::is_alone` meets its contract. Assumes nothing.
abbrev pub invariant-loop-block : goal.invariant-loop-block
invariant-loop-block l = (x : ℕ) → x < l.block → Asunder l.w l.r l.bounds x
