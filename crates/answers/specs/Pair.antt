-- One pair without a file: what is told of it, and what is left of the lent queue.
use Rattle.std.specs.Prelude.{ℕ, List, [], ◌∷◌, ltb, ℤ, length}
use Rattle.rules.specs.declared.Record.{Record}
use Rattle.rules.specs.Answers.{queue_after}
use Rattle.rules.specs.Refusals.{Case, first}
use Rattle.rules.specs.QueryFile.{no_edition}
use Rattle.rules.specs.Search.{search}
use Rattle.answers.specs.Walk.{tells, short, Does}

-- 14: fewer numbers are lent than the four points have at the start and at the end
abbrev pub few_points : List ℤ → Case
few_points points = record { number = 14; due = ltb (length points) 24 }

-- 10 where there is no such edition, then 14. A record's own refusals are told, as those of a file's record are
unfoldable pub pair_refusal : ℕ → List ℤ → List ℕ → ℕ
pair_refusal edition points out = first (no_edition edition ∷ few_points points ∷ short out 8 ∷ [])

abbrev pub Pair : ℕ → List ℤ → Record → List ℕ → List ℕ → List ℕ → List ℕ → ℕ → Type 0
Pair edition points r queue queue' out out' number =
    Does (pair_refusal edition points out) (tells r (length queue)) (queue_after (search r (length queue)) queue) queue queue' out out' number
