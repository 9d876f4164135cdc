use mathlib.Core.Path.{ap₂, ◌∙◌}
use mathlib.Core.Bool.{◌&&◌}
use Rattle.rules.specs.Numbers.{limits_of, is_coordinate}
use Rattle.bounds.specs.Parts.{every_put}
use Rattle.bounds.proofs.replace.are_right_with.Goals as goal

pub returns : goal.returns
returns c =
    ap₂ ◌&&◌ (ap₂ ◌&&◌ c.are_coordinates-before.ensures c.are_coordinates.ensures) c.are_coordinates-behind.ensures
    ∙ every_put c.args.s.now c.args.low c.args.high c.args.at c.args.run.now c.requires.0 c.requires.1.0 c.requires.1.1 (is_coordinate (limits_of c.args.edition))
