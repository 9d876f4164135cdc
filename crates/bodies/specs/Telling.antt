-- What is answered of two bodies, and what is told of it: eight numbers.
use Rattle.std.specs.Prelude.{ℕ, ◌/◌, ◌%◌, ◌≡◌, List, [], ◌∷◌, ℤ, length}
use Rattle.std.proofs.Common.{ap}
use Rattle.rules.specs.declared.Terms.{Terms}
use Rattle.rules.specs.declared.BodyAnswer.{BodyAnswer}
use Rattle.rules.specs.declared.BodyAnswer.TheVariants.{Clear, Least, Refused}
use Rattle.rules.specs.Refusals.{first, or_else}
use Rattle.rules.specs.QueryFile.{no_edition}
use Rattle.rules.specs.Bodies.{Body, body_refusal, body_unless, body_search, queue_after_bodies}
use Rattle.rules.specs.Bounds.{walk_refusal, walk_search}
use Rattle.answers.specs.Walk.{short, Does}

-- the answer of the written search, and what it leaves of the queue
pub record Answered (w : Terms) (a b : Body) (queue queue' : List ℕ) (r : BodyAnswer) : Type 0 where
  pub says : r ≡ body_search w a b (length queue)
  pub left : queue' ≡ queue_after_bodies (body_search w a b (length queue)) queue

-- no second answer and no second queue fit that
pub answered_once : {w : Terms} {a b : Body} {queue queue' queue'' : List ℕ} {r r' : BodyAnswer} → Answered w a b queue queue' r → Answered w a b queue queue'' r' → (r ≡ r') × (queue' ≡ queue'')
answered_once v w = (cc, cc)

-- the sum of counts in two numbers of 32 bits
abbrev pub low : ℕ → ℕ
low sum = sum % 4294967296

abbrev pub high : ℕ → ℕ
high sum = sum / 4294967296

-- word, t, triangle of A, triangle of B, query, excess, then the sum; what CLEAR does not carry is 0
unfoldable pub body_told : BodyAnswer → List ℕ
body_told (Clear sum) = 2 ∷ 0 ∷ 0 ∷ 0 ∷ 0 ∷ 0 ∷ low sum ∷ high sum ∷ []
body_told (Least t a b query word excess sum) = word ∷ t ∷ a ∷ b ∷ query ∷ excess ∷ low sum ∷ high sum ∷ []
body_told (Refused number) = []

-- 10 where there is no such edition, then a refusal of its own (0: none), then 14
unfoldable pub told_refusal : ℕ → ℕ → List ℕ → ℕ
told_refusal edition own out = or_else (first (no_edition edition ∷ [])) (or_else own (first (short out 8 ∷ [])))

-- 21 and the queries' own
abbrev pub Tells : Terms → Body → Body → List ℕ → List ℕ → List ℕ → List ℕ → ℕ → Type 0
Tells w a b queue queue' out out' number =
    let r : BodyAnswer = body_search w a b (length queue) in
    Does (told_refusal w.edition (body_refusal w a b (length queue)) out) (body_told r) (queue_after_bodies r queue) queue queue' out out' number

-- with bounds, 27 behind them; what is told is the same
abbrev pub TellsWith : Terms → Body → List ℤ → Body → List ℤ → List ℕ → List ℕ → List ℕ → List ℕ → ℕ → Type 0
TellsWith w a of_a b of_b queue queue' out out' number =
    let r : BodyAnswer = body_search w a b (length queue) in
    Does (told_refusal w.edition (walk_refusal w a of_a b of_b (length queue)) out) (body_told r) (queue_after_bodies r queue) queue queue' out out' number

-- it is the rules' answer of the walk with bounds
pub walk_answers : (w : Terms) (a : Body) (of_a : List ℤ) (b : Body) (of_b : List ℤ) (words : ℕ) → walk_refusal w a of_a b of_b words ≡ 0 → walk_search w a of_a b of_b words ≡ body_search w a b words
unfolding walk_search body_unless
walk_answers w a of_a b of_b words e = ap (λ (n : ℕ). body_unless n (body_search w a b words)) e
