use mathlib.Core.Path.{◌≡◌}
use mathlib.Core.Bool.{◌&&◌}
use lib.ListN.{drop}
use Rattle.rules.specs.Numbers.{limits_by, is_coordinate}
use Rattle.rules.specs.Refusals.{every}
use Rattle.refusals.proofs.are_within.Given as goal

-- `refusals::are_within` meets its contract. What was found so far, and the test of what is left, are together the test of all. Assumes nothing.
abbrev pub invariant-loop-c : goal.invariant-loop-c
invariant-loop-c l = every (is_coordinate (limits_by l.longer)) l.s ≡ (l.all && every (is_coordinate (limits_by l.longer)) (drop l.c-index l.s))
