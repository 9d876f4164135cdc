use native.Mathlib.Omega.{arith}
use Rattle.std.proofs.Common.{sym}
use Rattle.bodies.proofs.Settling.{refused}
use Rattle.bodies.proofs.search_bodies.Goals as goal

pub returns-in-Err : goal.returns-in-Err
returns-in-Err c = rw c.number.ensures (refused _ _ _ c.args.queue.now _ c.in-Err.ensures)

pub walk-requires : goal.walk-requires
walk-requires c = record { none = sym c.in_default.ensures; of_a_lem = λ z. absurd (omega arith); of_b_lem = λ z. absurd (omega arith) }
