use borrow.Author.Rules.{rules}
use lib.IntN.{ℤ, pos, neg_ℤ, ◌-ℤ◌, +ℤ_idl}
use mir.Syntax.{w64}
use mir.Val.{SFits}
use mir.Facts.{to_z-of_z}
use Rattle.whole.specs.Order.{lt_z_true, lt_z_false, le_le_z, lt_le_z}
use Rattle.whole.specs.Within.{Within, fits, within_sub, within_pos}
use Rattle.gap.specs.Miss.{side_of}
use Rattle.gap.specs.Steps.{term_most}
use Rattle.gap.proofs.miss.side_of.Goals as goal

-- `gap::miss::side_of` meets its contract.
minus_fits : {limit : ℤ} → Within term_most limit → SFits w64 (pos 0 -ℤ limit)
minus_fits h = fits tt (within_sub (within_pos 0) h)

pub overflow_sub-limit : goal.overflow_sub-limit
overflow_sub-limit c = rw (to_z-of_z (fits tt c.requires)) (minus_fits c.requires)

pub returns-then-limit-s : goal.returns-then-limit-s
unfolding side_of
returns-then-limit-s c =
    let m : SFits w64 c.args.s.least = search rules in
    rw (lt_le_z _ _ (lt_z_true _ _ (rw (to_z-of_z m, to_z-of_z (fits tt c.requires)) at c.if-limit-s.true)))

pub returns-then-s-limit : goal.returns-then-s-limit
unfolding side_of
returns-then-s-limit c =
    let m : SFits w64 c.args.s.least = search rules in
    let g : SFits w64 c.args.s.greatest = search rules in
    rw (
      le_le_z _ _ (lt_z_false _ _ (rw (to_z-of_z m, to_z-of_z (fits tt c.requires)) at c.if-limit-s.false)),
      lt_le_z _ _ (lt_z_true _ _ (rw (to_z-of_z g, to_z-of_z (fits tt c.requires), to_z-of_z (minus_fits c.requires), +ℤ_idl (neg_ℤ c.args.limit)) at c.if-s-limit.true)),
    )

pub returns-else-s-limit : goal.returns-else-s-limit
unfolding side_of
returns-else-s-limit c =
    let m : SFits w64 c.args.s.least = search rules in
    let g : SFits w64 c.args.s.greatest = search rules in
    rw (
      le_le_z _ _ (lt_z_false _ _ (rw (to_z-of_z m, to_z-of_z (fits tt c.requires)) at c.if-limit-s.false)),
      le_le_z _ _ (lt_z_false _ _ (rw (to_z-of_z g, to_z-of_z (fits tt c.requires), to_z-of_z (minus_fits c.requires), +ℤ_idl (neg_ℤ c.args.limit)) at c.if-s-limit.false)),
    )
