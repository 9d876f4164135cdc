-- What is read and what is left say what the whole says.
use Rattle.std.proofs.Common.{◌≡◌}
use Rattle.std.proofs.Math.ListN.{drop}
use Rattle.console.specs.Number.{number_of, read_from}
use Rattle.console.proofs.read_number.Given as goal

abbrev pub invariant-loop-b : goal.invariant-loop-b
invariant-loop-b l = read_from l.n (drop l.b-index l.s) ≡ number_of l.s
