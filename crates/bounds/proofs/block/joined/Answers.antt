use borrow.Author.Rules.{rules}
use mathlib.Core.Path.{◌∙◌}
use mir.Syntax.{w32}
use mir.Val.{SFits}
use Rattle.std.specs.Int.{int_min, int_max}
use Rattle.whole.specs.Read.{back₂}
use Rattle.whole.specs.Order.{int_min_is, int_max_is}
use Rattle.bounds.proofs.block.joined.Goals as goal

pub returns-clause-least : goal.returns-clause-least
returns-clause-least c =
    let p : SFits w32 c.args.p.least = search rules in
    let q : SFits w32 c.args.q.least = search rules in
    back₂ w32 w32 int_min p q c.min.type_inv c.min.ensures.value ∙ int_min_is c.args.p.least c.args.q.least

pub returns-clause-greatest : goal.returns-clause-greatest
returns-clause-greatest c =
    let p : SFits w32 c.args.p.greatest = search rules in
    let q : SFits w32 c.args.q.greatest = search rules in
    back₂ w32 w32 int_max p q c.max.type_inv c.max.ensures.value ∙ int_max_is c.args.p.greatest c.args.q.greatest
