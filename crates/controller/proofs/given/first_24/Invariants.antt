use mathlib.Core.Path.{◌≡◌}
use lib.ListN.{length, take}
use Rattle.queries.specs.Coordinates.{Each}
use Rattle.controller.proofs.given.first_24.Given as goal

abbrev pub invariant-loop-i : goal.invariant-loop-i
invariant-loop-i l = record {
  long : length l.p ≡ 24;
  same : take l.i l.p ≡ take l.i l.numbers;
  each : Each (take l.i l.numbers);
}
