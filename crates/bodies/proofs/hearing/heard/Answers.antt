use mathlib.Core.Path.{sym, ◌∙◌}
use native.Mathlib.Omega.{arith}
use Rattle.bodies.proofs.Refusing.{both}
use Rattle.bodies.proofs.Holder.{sum_least, takes_over, stays}
use Rattle.bodies.proofs.hearing.heard.Goals as goal

pub counted-requires : goal.counted-requires
counted-requires c =
    omega (arith, sum_least c.args.sofar c.args.a c.args.b c.args.query c.args.n c.args.sofar (omega arith) c.sum_of.result, c.sum_of.ensures)

pub returns-then-has_moment-is_less : goal.returns-then-has_moment-is_less
returns-then-has_moment-is_less c =
    takes_over c.args.sofar c.args.a c.args.b c.args.query c.args.n _ (omega arith) _ c.sum_of.ensures
    (both (sym c.has_moment.ensures) (sym c.is_less.ensures) ∙ c.if-has_moment-is_less.true) c.counted.ensures

pub returns : goal.returns
returns c =
    stays c.args.sofar c.args.a c.args.b c.args.query c.args.n _ (omega arith)
    (both (sym c.has_moment.ensures) (sym c.is_less.ensures) ∙ c.if-has_moment-is_less.false) c.counted-2.ensures
