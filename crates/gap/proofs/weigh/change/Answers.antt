use mir.Facts.{to_z-of_z}
use Rattle.whole.specs.Within.{fits}
use Rattle.gap.specs.Spread.{change_small}
use Rattle.gap.proofs.weigh.change.Goals as goal

-- `gap::weigh::change` meets its contract.
pub returns : goal.returns
returns c =
    let m = change_small c.requires in
    rw (
      to_z-of_z (fits tt c.requires.a1),
      to_z-of_z (fits tt c.requires.a0),
      to_z-of_z (fits tt c.requires.b1),
      to_z-of_z (fits tt c.requires.b0),
      to_z-of_z (fits tt c.requires.c1),
      to_z-of_z (fits tt c.requires.c0),
      to_z-of_z (fits tt m.a),
      to_z-of_z (fits tt m.b),
      to_z-of_z (fits tt m.c),
    )
