use mathlib.Core.Path.{sym, ap, ◌∙◌}
use Rattle.rules.specs.Answers.{told}
use Rattle.answers.proofs.numbers.Goals as goal

pub returns-in-Met : goal.returns-in-Met
returns-in-Met c = c.moment.ensures ∙ ap told (sym c.in-Met.is)

pub returns-in-Clear : goal.returns-in-Clear
returns-in-Clear c = c.moment-in-Clear.ensures ∙ ap told (sym c.in-Clear.is)

pub returns-in-Spent : goal.returns-in-Spent
returns-in-Spent c = c.moment-in-Spent.ensures ∙ ap told (sym c.in-Spent.is)

pub returns-in-Room : goal.returns-in-Room
returns-in-Room c = c.moment-in-Room.ensures ∙ ap told (sym c.in-Room.is)

pub returns-in-Floor : goal.returns-in-Floor
returns-in-Floor c = c.moment-in-Floor.ensures ∙ ap told (sym c.in-Floor.is)

pub returns-in-Refused : goal.returns-in-Refused
returns-in-Refused c = rw c.moment-in-Refused.ensures (ap told (sym c.in-Refused.is))
