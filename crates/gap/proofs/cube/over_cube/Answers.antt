use mathlib.Core.Path.{◌≡◌, ap₂, ◌∙◌}
use lib.IntN.{ℤ}
use mir.Syntax.{w64}
use mir.Val.{to_z, of_z}
use mir.Facts.{to_z-of_z}
use Rattle.whole.specs.Within.{Within, fits}
use Rattle.gap.specs.declared.span.Span.{Span}
use Rattle.gap.specs.Corners.{joined}
use Rattle.gap.specs.Cube.{square_of}
use Rattle.gap.proofs.cube.over_cube.Goals as goal

-- `gap::cube::over_cube` meets its contract.
-- what a call of `over_square` gives, of numbers that are read back from their bits
told : {s : Span} {a b c : ℤ} → Within 4_294_967_296 a → Within 4_294_967_296 b → Within 4_294_967_296 c
    → s ≡ square_of (to_z w64 (of_z w64 a)) (to_z w64 (of_z w64 b)) (to_z w64 (of_z w64 c)) → s ≡ square_of a b c
told f g h e = rw (to_z-of_z (fits tt f), to_z-of_z (fits tt g), to_z-of_z (fits tt h)) at e

pub returns : goal.returns
returns c =
    let start = told c.requires.a0 c.requires.b0 c.requires.c0 c.over_square-start.ensures in
    let end = told c.requires.a1 c.requires.b1 c.requires.c1 c.over_square-end.ensures in
    c.join.ensures ∙ ap₂ joined start end
