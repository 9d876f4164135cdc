use denote.Enum.Declared.{tag_of}
use mathlib.Core.Path.{◌≡◌, refl, ◌∙◌}
use mathlib.Core.List.{[], ◌∷◌, ◌++◌}
use native.Mathlib.Omega.{arith}
use Rattle.rules.specs.contracts.Axis.{the_type as axis_type}
use Rattle.rules.specs.contracts.Side.{the_type as side_type}
use Rattle.rules.specs.declared.Axis.{Axis}
use Rattle.rules.specs.declared.Axis.TheVariants.{X, Y, Z}
use Rattle.rules.specs.declared.Side.{Side}
use Rattle.rules.specs.declared.Side.TheVariants.{Below, Above}
use Rattle.rules.specs.Gap.{place}
use Rattle.rules.specs.Why.{side_number}
use Rattle.little.specs.Put.{put_one, one_more}
use Rattle.reasons.proofs.write_nine.Goals as goal

-- an axis and a side, each as its number
axis_is : (a : Axis) → tag_of axis_type a ≡ place a
axis_is X = refl
axis_is Y = refl
axis_is Z = refl

side_is : (s : Side) → tag_of side_type s ≡ side_number s
side_is Below = refl
side_is Above = refl

pub returns : goal.returns
returns c =
    let four = c.args.x.level ∷ c.args.x.depths.t ∷ c.args.x.depths.u ∷ c.args.x.depths.v ∷ [] in
    let more = c.args.x.index.t ∷ c.args.x.index.u ∷ c.args.x.index.v ∷ tag_of axis_type c.args.x.axis ∷ [] in
    let side = tag_of side_type c.args.x.side in
    let eight = one_more c.args.out.now c.write_four.new.out c.write_four-2.new.out 0 4 four more c.write_four.ensures c.write_four-2.ensures refl (omega (arith, c.requires.0)) in
    one_more c.args.out.now c.write_four-2.new.out _ 0 8 (four ++ more) (side ∷ []) eight (put_one c.write_four-2.new.out 8 side (omega (arith, c.requires.0, c.write_four.auto.out, c.write_four-2.auto.out))) refl (omega (arith, c.requires.0))
    ∙ rw (axis_is c.args.x.axis, side_is c.args.x.side)
