use Prim.Native.Nat.{ℕ}
use mathlib.Core.Path.{◌≡◌, sym, ap}
use mathlib.Core.Logic.{◌⊎◌, inl, inr}
use Rattle.rules.specs.declared.BodyAnswer.{BodyAnswer}
use Rattle.rules.specs.declared.BodyAnswer.TheVariants.{Clear, Refused}
use Rattle.rules.specs.Bodies.{cap_of}
use Rattle.bodies.proofs.hearing.cap_of.Goals as goal

-- where there is no time yet
none : {x : BodyAnswer} → ((n : ℕ) × (x ≡ Clear n)) ⊎ ((n : ℕ) × (x ≡ Refused n)) → 0 ≡ cap_of x
unfolding cap_of
none (inl e) = sym (ap cap_of e.1)
none (inr e) = sym (ap cap_of e.1)

pub returns-in-Least : goal.returns-in-Least
unfolding cap_of
returns-in-Least c = sym (ap cap_of c.in-Least.is)

pub returns-in-Clear : goal.returns-in-Clear
returns-in-Clear c = none c.in-Clear.is
