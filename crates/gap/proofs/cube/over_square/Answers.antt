use lib.Dec.{lit≤}
use lib.IntN.{ℤ, pos}
use mir.Facts.{to_z-of_z}
use Rattle.whole.specs.Within.{Within, fits, within_more, within_pos}
use Rattle.gap.specs.Corners.{span_of}
use Rattle.gap.specs.Steps.{SmallSpan, term_most, span_small}
use Rattle.gap.proofs.cube.over_square.Goals as goal

-- `gap::cube::over_square` meets its contract.
wide : {x : ℤ} → Within 4_294_967_296 x → Within term_most x
wide h = within_more (lit≤ tt) h

small : {x : ℤ} → Within 4_294_967_296 x → SmallSpan term_most (span_of (pos 0) x)
small h = span_small (within_more (lit≤ tt) (within_pos 0)) (wide h)

pub sum-requires : goal.sum-requires
sum-requires c = (
  rw (to_z-of_z (fits tt c.requires.0)) (wide c.requires.0),
  (
    rw (c.term-u.ensures, to_z-of_z (fits tt c.requires.1.0)) (small c.requires.1.0),
    rw (c.term-v.ensures, to_z-of_z (fits tt c.requires.1.1)) (small c.requires.1.1),
  ),
)

pub returns : goal.returns
returns c =
    rw (c.term-u.ensures, c.term-v.ensures, to_z-of_z (fits tt c.requires.0), to_z-of_z (fits tt c.requires.1.0), to_z-of_z (fits tt c.requires.1.1)) at c.sum.ensures
