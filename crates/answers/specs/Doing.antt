-- A question that is refused, and one that is answered: what it does. Assumes nothing.
use Rattle.std.specs.Prelude.{ℕ, zero, suc, ◌≡◌, refl, List}
use Rattle.rules.specs.QueryFile.{put, put_unless}
use Rattle.answers.specs.Walk.{queue_unless, Does}

pub refuses : (number : ℕ) {refusal : ℕ} (numbers after queue out : List ℕ) → number ≡ refusal → (number ≡ 0 → ⊥) → Does refusal numbers after queue queue out out number
unfolding put_unless queue_unless
refuses zero numbers after queue out e h = absurd (h refl)
refuses (suc k) numbers after queue out e h = record { says = e; told = refl; left = refl }

pub answers : {refusal : ℕ} {numbers after queue queue' out out' : List ℕ} → 0 ≡ refusal → out' ≡ put out 0 numbers → queue' ≡ after
    → Does refusal numbers after queue queue' out out' 0
unfolding put_unless queue_unless
answers e t l = record { says = e; told = t; left = l }

-- ---- no second outcome fits what is promised, so that no part of it can be lost unseen

pub does_once : {refusal : ℕ} {numbers after queue queue' queue'' out out' out'' : List ℕ} {number number' : ℕ}
    → Does refusal numbers after queue queue' out out' number
    → Does refusal numbers after queue queue'' out out'' number'
    → (number ≡ number') × (out' ≡ out'') × (queue' ≡ queue'')
does_once v w = (cc, cc, cc)
