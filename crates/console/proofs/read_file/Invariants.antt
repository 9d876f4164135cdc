-- What was read lies in the buffer, and the file has lost it. Each turn leaves less of the buffer.
use Rattle.std.proofs.Common.{length, ◌-◌, ◌≤◌, take}
use Rattle.std.specs.Io.KnownBytes.{Consumes}
use Rattle.console.proofs.read_file.Given as goal

abbrev pub invariant-loop-n : goal.invariant-loop-n
invariant-loop-n g l = (l.n ≤ length l.buffer) × Consumes (g.R.Read.remaining l.initial.from) (g.R.Read.remaining l.from) (take l.n l.buffer)

abbrev pub decreases-loop-n : goal.decreases-loop-n
decreases-loop-n g l = length l.initial.buffer - l.n
