use mathlib.Core.Path.{◌≡◌}
use Rattle.rules.specs.QueryFile.{put}
use Rattle.rules.specs.Bounds.{bounds_to}
use Rattle.bounds.specs.Reach.{body}
use Rattle.bounds.proofs.write_all.Given as goal

-- `bounds::write_all` meets its contract. Assumes nothing.
abbrev pub invariant-loop-block : goal.invariant-loop-block
invariant-loop-block l = l.bounds ≡ put l.initial.bounds 0 (bounds_to (body l.m.count l.m.start.now l.m.end.now) l.block)
