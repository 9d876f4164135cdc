use Rattle.rules.specs.declared.Axis.TheVariants.{X, Y, Z}
use Rattle.bodies.specs.Apart.{distant_from}
use Rattle.bodies.proofs.apart.are_distant.Goals as goal

pub returns-then-apart_on : goal.returns-then-apart_on
returns-then-apart_on c = λ e. distant_from Z (c.apart_on.ensures c.if-apart_on.true)

pub returns-then-apart_on-2 : goal.returns-then-apart_on-2
returns-then-apart_on-2 c = λ e. distant_from X (c.apart_on-2.ensures c.if-apart_on-2.true)

pub returns : goal.returns
returns c = λ e. distant_from Y (c.apart_on-3.ensures e)
