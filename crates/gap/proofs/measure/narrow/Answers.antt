use borrow.Author.Rules.{rules}
use mir.Syntax.{w64}
use mir.Val.{SFits}
use mir.Facts.{to_z-of_z}
use Rattle.whole.specs.Read.{back}
use Rattle.gap.specs.Bounds.{reach_fits, narrow_is}
use Rattle.gap.proofs.measure.narrow.Goals as goal

pub overflow_add-result : goal.overflow_add-result
overflow_add-result c =
    let m : SFits w64 c.over_corners-s.result.least = search rules in
    rw (to_z-of_z m, c.over_corners-s.ensures, back w64 c.units.type_inv c.units.ensures) (reach_fits c.requires.0 c.requires.1.0 c.requires.1.1)

pub returns : goal.returns
returns c =
    let m : SFits w64 c.over_corners-s.result.least = search rules in
    let g : SFits w64 c.over_corners-s.result.greatest = search rules in
    rw (to_z-of_z g, to_z-of_z m, c.over_corners-s.ensures, back w64 c.units.type_inv c.units.ensures, to_z-of_z (reach_fits c.requires.0 c.requires.1.0 c.requires.1.1)) (narrow_is c.args.k c.args.w c.args.t)
