-- What is told of a record: eight numbers.
use Rattle.std.specs.Prelude.{ℕ, List, [], ◌∷◌}
use Rattle.rules.specs.declared.Told.{Told}

-- id, word, t, u, v, excess, count, refusal number
abbrev pub eight : ℕ → Told → List ℕ
eight id a = id ∷ a.word ∷ a.t ∷ a.u ∷ a.v ∷ a.excess ∷ a.count ∷ a.number ∷ []
