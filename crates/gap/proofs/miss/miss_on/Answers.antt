use mir.Syntax.{w64}
use Rattle.whole.specs.Read.{back}
use Rattle.gap.specs.Miss.{miss_in}
use Rattle.gap.specs.Steps.{limit_within}
use Rattle.gap.proofs.miss.miss_on.Goals as goal

pub side_of-requires : goal.side_of-requires
side_of-requires c =
    rw (back w64 c.units.type_inv c.units.ensures) (limit_within c.requires.1.0 c.requires.1.1)

pub returns : goal.returns
unfolding miss_in
returns c = rw (c.over_corners-s.ensures, back w64 c.units.type_inv c.units.ensures) at c.side_of.ensures
