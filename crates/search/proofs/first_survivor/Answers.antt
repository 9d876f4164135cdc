use mathlib.Core.Path.{sym, ◌∙◌}
use Rattle.kernel.specs.Kernel.{asked}
use Rattle.gap.specs.Asked.{recorded}
use Rattle.search.proofs.Checking.{first_met, first_floor, first_goes}
use Rattle.search.proofs.first_survivor.Goals as goal

-- Each way out is a law of `Checking`.
pub near-requires : goal.near-requires
near-requires c =
    ((c.requires.ranged, (c.requires.shallow, c.requires.grid)), recorded (asked c.args.p) c.args.k c.args.b c.corner-c.result c.corner-c.ensures)

pub returns-then-near : goal.returns-then-near
returns-then-near c = first_met c.corner-c.ensures (sym c.near.ensures ∙ c.if-near.true)

pub returns-then-is_full : goal.returns-then-is_full
returns-then-is_full c =
    first_floor c.corner-c.ensures (sym c.near.ensures ∙ c.if-near.false) (sym c.is_full.ensures ∙ c.if-is_full.true)

pub returns : goal.returns
returns c = first_goes c.corner-c.ensures (sym c.near.ensures ∙ c.if-near.false) (sym c.is_full.ensures ∙ c.if-is_full.false)
