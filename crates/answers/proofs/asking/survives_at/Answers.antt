use mathlib.Core.Path.{◌∙◌}
use Rattle.answers.specs.Asking.{asked_there, all_in_bytes}
use Rattle.answers.proofs.asking.survives_at.Goals as goal

pub meets_all-requires : goal.meets_all-requires
meets_all-requires c =
    rw c.decode-r.ensures (all_in_bytes c.args.edition c.args.s.now c.args.at c.args.words c.requires.1 c.requires.0 _ c.points_place-p.ensures)

pub returns : goal.returns
returns c =
    (rw c.decode-r.ensures at c.meets_all.ensures) ∙ asked_there c.args.edition c.args.s.now c.args.at c.args.words _ c.points_place-p.ensures
