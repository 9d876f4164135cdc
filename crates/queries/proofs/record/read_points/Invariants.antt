use mathlib.Core.Path.{◌≡◌}
use lib.ListN.{length, take}
use Rattle.rules.specs.QueryFile.{coordinates_at}
use Rattle.queries.proofs.record.read_points.Given as goal

-- `queries::record::read_points` meets its contract: the first i are those that stand there. Assumes nothing.
abbrev pub invariant-loop-i : goal.invariant-loop-i
invariant-loop-i l = (length l.p ≡ 24) × (take l.i l.p ≡ coordinates_at l.s l.at l.i)
