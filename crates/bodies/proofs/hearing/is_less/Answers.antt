use mathlib.Core.Path.{sym, ap}
use Rattle.rules.specs.Bodies.{is_less}
use Rattle.bodies.proofs.hearing.is_less.Goals as goal

pub returns-in-Clear : goal.returns-in-Clear
unfolding is_less
returns-in-Clear c = sym (ap (is_less c.args.t) c.in-Clear.is)

pub returns-in-Least : goal.returns-in-Least
unfolding is_less
returns-in-Least c = sym (ap (is_less c.args.t) c.in-Least.is)

pub returns-in-Refused : goal.returns-in-Refused
unfolding is_less
returns-in-Refused c = sym (ap (is_less c.args.t) c.in-Refused.is)
