use mir.Syntax.{w64}
use mir.Facts.{to_z-of_z}
use Rattle.whole.specs.Read.{back}
use Rattle.gap.specs.Spread.{step_fits, step_within}
use Rattle.gap.proofs.weigh.way.Goals as goal

-- `gap::weigh::way` meets its contract.
pub step-a-requires : goal.step-a-requires
step-a-requires c =
    rw (to_z-of_z c.ranges.u, to_z-of_z c.ranges.v) (step_fits c.requires.0 c.requires.1.0 c.requires.1.1.0)

pub step-b-requires : goal.step-b-requires
step-b-requires c =
    rw (to_z-of_z c.ranges.u, to_z-of_z c.ranges.v) (step_fits c.requires.0 c.requires.1.0 c.requires.1.1.1.0)

pub step-c-requires : goal.step-c-requires
step-c-requires c =
    rw (to_z-of_z c.ranges.u, to_z-of_z c.ranges.v) (step_fits c.requires.0 c.requires.1.0 c.requires.1.1.1.1)

pub largest-requires : goal.largest-requires
largest-requires c =
    let u = to_z-of_z c.ranges.u in
    let v = to_z-of_z c.ranges.v in (
      rw (back w64 c.step-a.type_inv (rw (u, v) at c.step-a.ensures)) (step_within c.requires.0 c.requires.1.0 c.requires.1.1.0),
      (
        rw (back w64 c.step-b.type_inv (rw (u, v) at c.step-b.ensures)) (step_within c.requires.0 c.requires.1.0 c.requires.1.1.1.0),
        rw (back w64 c.step-c.type_inv (rw (u, v) at c.step-c.ensures)) (step_within c.requires.0 c.requires.1.0 c.requires.1.1.1.1),
      ),
    )

pub returns : goal.returns
returns c =
    let u = to_z-of_z c.ranges.u in
    let v = to_z-of_z c.ranges.v in
    rw (
      back w64 c.step-a.type_inv (rw (u, v) at c.step-a.ensures),
      back w64 c.step-b.type_inv (rw (u, v) at c.step-b.ensures),
      back w64 c.step-c.type_inv (rw (u, v) at c.step-c.ensures),
    )
    at c.largest.ensures
