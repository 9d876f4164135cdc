use Prim.Native.Nat.{ℕ}
use mathlib.Core.Path.{◌≡◌, sym, ap}
use mathlib.Core.Bool.{false}
use mathlib.Core.Logic.{◌⊎◌, inl, inr}
use Rattle.rules.specs.declared.BodyAnswer.{BodyAnswer}
use Rattle.rules.specs.declared.BodyAnswer.TheVariants.{Clear, Refused}
use Rattle.rules.specs.Bodies.{is_over}
use Rattle.bodies.proofs.hearing.is_over.Goals as goal

-- where there is no time yet
none : {x : BodyAnswer} → ((n : ℕ) × (x ≡ Clear n)) ⊎ ((n : ℕ) × (x ≡ Refused n)) → false ≡ is_over x
unfolding is_over
none (inl e) = sym (ap is_over e.1)
none (inr e) = sym (ap is_over e.1)

pub returns-in-Least : goal.returns-in-Least
unfolding is_over
returns-in-Least c = sym (ap is_over c.in-Least.is)

pub returns-in-Clear : goal.returns-in-Clear
returns-in-Clear c = none c.in-Clear.is
