use mathlib.Core.Path.{sym, ap}
use Rattle.rules.specs.Bodies.{sum_of}
use Rattle.bodies.proofs.hearing.sum_of.Goals as goal

pub returns-in-Clear : goal.returns-in-Clear
unfolding sum_of
returns-in-Clear c = sym (ap sum_of c.in-Clear.is)

pub returns-in-Least : goal.returns-in-Least
unfolding sum_of
returns-in-Least c = sym (ap sum_of c.in-Least.is)

pub returns-in-Refused : goal.returns-in-Refused
unfolding sum_of
returns-in-Refused c = sym (ap sum_of c.in-Refused.is)
