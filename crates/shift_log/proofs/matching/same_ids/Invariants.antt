use Prim.Native.Nat.{◌+◌}
use mathlib.Core.Path.{◌≡◌}
use Rattle.rules.specs.AnswerFile.{same_ids}
use Rattle.shift_log.proofs.matching.same_ids.Given as goal

-- `shift_log::matching::same_ids` meets its contract: whether the first i agree. Assumes nothing.
abbrev pub invariant-loop-i : goal.invariant-loop-i
invariant-loop-i l = l.all ≡ same_ids l.size l.s (l.first + 4) l.log l.to l.i
