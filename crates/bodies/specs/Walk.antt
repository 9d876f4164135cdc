-- What the parts of the walk ask and promise: the queries of a list heard one after the other, in a queue of zeros.
use Rattle.std.specs.Prelude.{ℕ, ◌+◌, ◌*◌, ◌≤◌, ◌<◌, ◌≡◌, false, List, [], ◌∷◌, ℤ, length, replicate}
use Rattle.rules.specs.declared.Record.{Record}
use Rattle.rules.specs.declared.Told.{Told}
use Rattle.rules.specs.declared.Terms.{Terms}
use Rattle.rules.specs.declared.BodyAnswer.{BodyAnswer}
use Rattle.rules.specs.Refusals.{search_refusal}
use Rattle.rules.specs.Bodies.{Body, Asked, pair_queries, each_from, body_refusal, sum_of, heard, cap_of, is_over, hear_all}
use Rattle.rules.specs.Bounds.{bounds_of}
use Rattle.triangles.specs.Members.{All, asked, ask_at}
use Rattle.bounds.specs.declared.Body.{Body as LentBody}
use Rattle.bounds.specs.Reach.{body, body_of}
use Rattle.bodies.specs.Asking.{There}

-- no bounds are lent, or those of a body of n triangles
abbrev pub Lent : ℕ → List ℤ → List ℤ → List ℤ → Type 0
Lent n s e bounds = 0 < length bounds → bounds ≡ bounds_of (body n s e)

-- positions alone: how many triangles there are has no part in a query
abbrev pub positions : List ℤ → List ℤ → Body
positions start end = body 0 start end

abbrev pub positions_of : LentBody → Body
positions_of m = positions m.start.now m.end.now

-- ---- the sum of counts: a count has 32 bits, and 256 · 256 · 15 of them come to less than 2^52

-- n counts more still fit
abbrev pub SumRoom : ℕ → BodyAnswer → Type 0
SumRoom n sofar = sum_of sofar + n * 4294967296 ≤ 18446744073709551615

abbrev pub Grows : ℕ → BodyAnswer → BodyAnswer → Type 0
Grows n sofar r = sum_of r ≤ sum_of sofar + n * 4294967296

-- what was heard so far, and one answer more; the record that was asked has no part in it
pub record HeardIs (sofar : BodyAnswer) (a b query : ℕ) (n : Told) (r : BodyAnswer) : Type 0 where
  pub says : (ask : Record) → r ≡ heard sofar (record { a = a; b = b; query = query; ask = ask }) n
  pub grows : Grows 1 sofar r

-- ---- a list of queries

-- none of them is refused, the queue is zero, there is room for n counts, and the time so far is one of the step, but not 0, which would end the walk
pub record ToHear (n : ℕ) (qs : List Asked) (queue : List ℕ) (sofar : BodyAnswer) : Type 0 where
  pub none : All (λ q. search_refusal q.ask (length queue) ≡ 0) qs
  pub zero : queue ≡ replicate (length queue) 0
  pub room : SumRoom n sofar
  pub step : cap_of sofar ≤ 1048576
  pub goes : is_over sofar ≡ false

pub record Heard (n : ℕ) (qs : List Asked) (queue queue' : List ℕ) (sofar r : BodyAnswer) : Type 0 where
  pub says : r ≡ hear_all (length queue) sofar qs
  pub kept : queue' ≡ queue
  pub grows : Grows n sofar r

-- ---- the lists

abbrev pub query_alone : Terms → Body → Body → ℕ → ℕ → ℕ → List Asked
query_alone w a b i j k = asked w a b i j (1 + k) (ask_at k) ∷ []

-- triangle i of A with the first n of B
abbrev pub row_queries : Terms → Body → Body → ℕ → ℕ → List Asked
row_queries w a b i n = each_from 0 n (λ j. pair_queries w a b i j)

-- each of them heard, by the positions
abbrev pub QueryHeard : Terms → LentBody → LentBody → ℕ → ℕ → ℕ → List ℕ → List ℕ → BodyAnswer → BodyAnswer → Type 0
QueryHeard w a b i j k = Heard 1 (query_alone w (positions_of a) (positions_of b) i j k)

abbrev pub PairHeard : Terms → LentBody → LentBody → ℕ → ℕ → List ℕ → List ℕ → BodyAnswer → BodyAnswer → Type 0
PairHeard w a b i j = Heard 15 (pair_queries w (positions_of a) (positions_of b) i j)

abbrev pub RowHeard : Terms → LentBody → LentBody → ℕ → List ℕ → List ℕ → BodyAnswer → BodyAnswer → Type 0
RowHeard w a b i = Heard 3840 (row_queries w (positions_of a) (positions_of b) i b.count)

pub record OfQuery (w : Terms) (a b : LentBody) (i j k : ℕ) (queue : List ℕ) (sofar : BodyAnswer) : Type 0 where
  pub start : There a.start.now b.start.now i j
  pub end : There a.end.now b.end.now i j
  pub first : i < 256
  pub second : j < 256
  pub query : k < 15
  pub to_hear : ToHear 1 (query_alone w (positions_of a) (positions_of b) i j k) queue sofar

pub record OfPair (w : Terms) (a b : LentBody) (i j : ℕ) (queue : List ℕ) (sofar : BodyAnswer) : Type 0 where
  pub start : There a.start.now b.start.now i j
  pub end : There a.end.now b.end.now i j
  pub first : i < 256
  pub second : j < 256
  pub to_hear : ToHear 15 (pair_queries w (positions_of a) (positions_of b) i j) queue sofar

pub record OfRow (w : Terms) (a : LentBody) (i : ℕ) (b : LentBody) (of_b : List ℤ) (queue : List ℕ) (sofar : BodyAnswer) : Type 0 where
  pub start_of_a : 9 * i + 9 ≤ length a.start.now
  pub end_of_a : 9 * i + 9 ≤ length a.end.now
  pub start_of_b : 9 * b.count ≤ length b.start.now
  pub end_of_b : 9 * b.count ≤ length b.end.now
  pub lent : Lent b.count b.start.now b.end.now of_b
  pub first : i < 256
  pub count : b.count ≤ 256
  pub to_hear : ToHear 3840 (row_queries w (positions_of a) (positions_of b) i b.count) queue sofar

-- the bodies are not refused, and the lists, where any are lent, are their bounds
pub record ToWalk (w : Terms) (a : LentBody) (of_a : List ℤ) (b : LentBody) (of_b : List ℤ) (words : ℕ) : Type 0 where
  pub none : body_refusal w (body_of a) (body_of b) words ≡ 0
  pub of_a_lem : Lent a.count a.start.now a.end.now of_a
  pub of_b_lem : Lent b.count b.start.now b.end.now of_b

pub record OfBodies (w : Terms) (a : LentBody) (of_a : List ℤ) (b : LentBody) (of_b : List ℤ) (queue : List ℕ) : Type 0 where
  pub to_walk : ToWalk w a of_a b of_b (length queue)
  pub zero : queue ≡ replicate (length queue) 0
