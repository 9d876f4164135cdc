use mathlib.Core.Path.{sym, ap, ◌∙◌}
use native.Mathlib.Omega.{arith}
use Rattle.rules.specs.Bodies.{sum_of, counted}
use Rattle.bodies.proofs.hearing.counted.Goals as goal

pub overflow_add-result : goal.overflow_add-result
unfolding sum_of
overflow_add-result c = let e = ap sum_of c.in-Clear.is in omega (arith, e)

pub overflow_add-result-in-Least : goal.overflow_add-result-in-Least
unfolding sum_of
overflow_add-result-in-Least c = let e = ap sum_of c.in-Least.is in omega (arith, e)

pub returns-in-Clear : goal.returns-in-Clear
unfolding counted
returns-in-Clear c = sym (ap (counted c.args.n) c.in-Clear.is)

pub returns-in-Least : goal.returns-in-Least
unfolding counted
returns-in-Least c = sym (ap (counted c.args.n) c.in-Least.is)

pub returns-in-Refused : goal.returns-in-Refused
unfolding counted
returns-in-Refused c = c.in-Refused.is ∙ sym (ap (counted c.args.n) c.in-Refused.is)
