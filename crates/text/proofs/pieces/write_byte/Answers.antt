use mathlib.Core.Path.{refl}
use native.Mathlib.Omega.{arith}
use Rattle.little.specs.Put.{put_one}
use Rattle.text.proofs.pieces.write_byte.Goals as goal

pub returns : goal.returns
returns c =
    record { bytes = put_one c.args.out.now c.args.at c.args.b c.requires; behind = refl; few = omega arith }
