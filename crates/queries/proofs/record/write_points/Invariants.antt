use mathlib.Core.Path.{◌≡◌}
use lib.ListN.{take}
use Rattle.rules.specs.QueryFile.{put, coordinate_bytes}
use Rattle.queries.proofs.record.write_points.Given as goal

-- `queries::record::write_points` meets its contract: the first i are put. Assumes nothing.
abbrev pub invariant-loop-i : goal.invariant-loop-i
invariant-loop-i l = l.s ≡ put l.initial.s l.at (coordinate_bytes (take l.i l.p))
