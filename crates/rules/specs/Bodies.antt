-- Document 02, R-6, "Gangway against hull": the queries of two bodies in order, and what comes back; with the caps of R-7.
use Rattle.std.specs.Prelude.{ℕ, zero, suc, ◌+◌, ◌*◌, ◌-◌, Bool, true, false, cond, ◌&&◌, List, [], ◌∷◌, ◌++◌, ℤ, pos, length, get_or, replicate, ltb, eqb}
use Rattle.rules.specs.declared.Record.{Record}
use Rattle.rules.specs.declared.Told.{Told}
use Rattle.rules.specs.declared.Terms.{Terms}
use Rattle.rules.specs.declared.Ask.{Ask}
use Rattle.rules.specs.declared.BodyAnswer.{BodyAnswer}
use Rattle.rules.specs.declared.BodyAnswer.TheVariants.{Clear, Least, Refused}
use Rattle.rules.specs.Numbers.{between}
use Rattle.rules.specs.Answers.{told, has_moment}
use Rattle.rules.specs.Refusals.{or_else, search_refusal}
use Rattle.rules.specs.Search.{search}

-- ---- the bodies

-- "positions at start and end": nine coordinates a triangle, x, y, z of corners 1, 2, 3
pub record Body : Type 0 where
  pub count : ℕ
  pub start : List ℤ
  pub end : List ℤ

-- "two bodies of 1 to 256 triangles each"; 21 for "a triangle count out of range or positions of another length"
abbrev pub is_body : Body → Bool
is_body m = between 1 256 m.count && eqb (length m.start) (9 * m.count) && eqb (length m.end) (9 * m.count)

-- ---- the queries

-- the corners of a pair of triangles, by the names that R-6 has for them
abbrev pub A1 : ℕ
A1 = 0

abbrev pub A2 : ℕ
A2 = 1

abbrev pub A3 : ℕ
A3 = 2

abbrev pub B1 : ℕ
B1 = 3

abbrev pub B2 : ℕ
B2 = 4

abbrev pub B3 : ℕ
B3 = 5

abbrev pub face : ℕ → ℕ → ℕ → ℕ → Ask
face p v1 v2 v3 = record { kind = 1; p = p; q = v1; r = v2; s = v3 }

abbrev pub edges : ℕ → ℕ → ℕ → ℕ → Ask
edges p1 p2 p3 p4 = record { kind = 2; p = p1; q = p2; r = p3; s = p4 }

-- "corners 1, 2, 3 of A with face B, those of B with face A,
-- then edges 12, 23, 31 of A each with 12, 23, 31 of B, A's edge as the first body"
abbrev pub fifteen : List Ask
fifteen =
    face A1 B1 B2 B3
    ∷ face A2 B1 B2 B3
    ∷ face A3 B1 B2 B3
    ∷ face B1 A1 A2 A3
    ∷ face B2 A1 A2 A3
    ∷ face B3 A1 A2 A3
    ∷ edges A1 A2 B1 B2
    ∷ edges A1 A2 B2 B3
    ∷ edges A1 A2 B3 B1
    ∷ edges A2 A3 B1 B2
    ∷ edges A2 A3 B2 B3
    ∷ edges A2 A3 B3 B1
    ∷ edges A3 A1 B1 B2
    ∷ edges A3 A1 B2 B3
    ∷ edges A3 A1 B3 B1
    ∷ []

-- where a corner's x stands: triangle i of A for the first three, triangle j of B for the others
abbrev pub corner_place : ℕ → ℕ → ℕ → ℕ
corner_place i j n = cond (ltb n 3) (9 * i + 3 * n) (9 * j + 3 * (n - 3))

-- x, y, z from a place on
abbrev pub xyz : List ℤ → ℕ → List ℤ → List ℤ
xyz s at rest = get_or s at (pos 0) ∷ get_or s (at + 1) (pos 0) ∷ get_or s (at + 2) (pos 0) ∷ rest

-- a corner of the pair, of positions a and b at one moment
abbrev pub corner_of : List ℤ → List ℤ → ℕ → ℕ → ℕ → List ℤ → List ℤ
corner_of a b i j n rest = xyz (cond (ltb n 3) a b) (corner_place i j n) rest

-- a query's four points at one moment
abbrev pub four_of : List ℤ → List ℤ → ℕ → ℕ → Ask → List ℤ → List ℤ
four_of a b i j k rest =
    corner_of a b i j k.p (corner_of a b i j k.q (corner_of a b i j k.r (corner_of a b i j k.s rest)))

-- a query of the pair i, j as the search takes it: "one separation triple, tolerance and budget for all queries"; "No flags."
unfoldable pub ask_of : Terms → Body → Body → ℕ → ℕ → Ask → Record
ask_of w a b i j k =
    record {
      kind = k.kind;
      flags = 0;
      byte2 = 0;
      byte3 = 0;
      id = 0;
      dx = w.dx;
      dy = w.dy;
      dz = w.dz;
      tolerance = w.tolerance;
      budget = w.budget;
      cap = 0;
      edition = w.edition;
      points = four_of a.start b.start i j k (four_of a.end b.end i j k []);
    }

-- a query with its pair's triangles and its number: "Triangles count from 0, queries from 1."
pub record Asked : Type 0 where
  pub a : ℕ
  pub b : ℕ
  pub query : ℕ
  pub ask : Record

-- the queries of a pair from number n on
unfoldable pub asked_from : Terms → Body → Body → ℕ → ℕ → ℕ → List Ask → List Asked
asked_from w a b i j n [] = []
asked_from w a b i j n (k ∷ ks) =
    record { a = i; b = j; query = n; ask = ask_of w a b i j k } ∷ asked_from w a b i j (n + 1) ks

-- "For each triangle pair it asks fifteen queries"
abbrev pub pair_queries : Terms → Body → Body → ℕ → ℕ → List Asked
pair_queries w a b i j = asked_from w a b i j 1 fifteen

-- the lists of n numbers from i on, one after the other
unfoldable pub each_from : ℕ → ℕ → (ℕ → List Asked) → List Asked
each_from i zero f = []
each_from i (suc n) f = f i ++ each_from (i + 1) n f

-- "Pairs go by A's triangle, then B's."
unfoldable pub queries_of : Terms → Body → Body → List Asked
queries_of w a b = each_from 0 a.count (λ i. each_from 0 b.count (λ j. pair_queries w a b i j))

-- ---- the refusals

-- "the first refused query's number in order"
unfoldable pub first_refused : ℕ → List Asked → ℕ
first_refused words [] = 0
first_refused words (q ∷ qs) = or_else (search_refusal q.ask words) (first_refused words qs)

-- "21 BODY", "first; then the first refused query's number in order"
unfoldable pub body_refusal : Terms → Body → Body → ℕ → ℕ
body_refusal w a b words = cond (is_body a && is_body b) (first_refused words (queries_of w a b)) 21

-- ---- the answer

-- "the sum of counts": one count more
unfoldable pub counted : ℕ → BodyAnswer → BodyAnswer
counted n (Clear sum) = Clear (sum + n)
counted n (Least t a b query word excess sum) = Least t a b query word excess (sum + n)
counted n (Refused number) = Refused number

-- "the least time", "with the first pair and query that has it": a later query takes its place only with a time that is less
unfoldable pub is_less : ℕ → BodyAnswer → Bool
is_less t (Least t' a b query word excess sum) = ltb t t'
is_less t (Clear sum) = true
is_less t (Refused number) = false

-- the sum so far
unfoldable pub sum_of : BodyAnswer → ℕ
sum_of (Clear sum) = sum
sum_of (Least t a b query word excess sum) = sum
sum_of (Refused number) = 0

-- what the queries so far come to, and one query's answer more
unfoldable pub heard : BodyAnswer → Asked → Told → BodyAnswer
heard sofar q r =
    counted r.count (cond (has_moment r && is_less r.t sofar) (Least r.t q.a q.b q.query r.word r.excess (sum_of sofar)) sofar)

-- "each query takes the least time so far as its cap" (document 02, R-7); no time so far: the whole step
unfoldable pub cap_of : BodyAnswer → ℕ
cap_of (Clear sum) = 0
cap_of (Least t a b query word excess sum) = t
cap_of (Refused number) = 0

unfoldable pub capped : ℕ → Record → Record
capped cap r =
    record {
      kind = r.kind;
      flags = r.flags;
      byte2 = r.byte2;
      byte3 = r.byte3;
      id = r.id;
      dx = r.dx;
      dy = r.dy;
      dz = r.dz;
      tolerance = r.tolerance;
      budget = r.budget;
      cap = cap;
      edition = r.edition;
      points = r.points;
    }

-- "0 time ends the walk" (document 02, R-7): nothing is asked after it
unfoldable pub is_over : BodyAnswer → Bool
is_over (Clear sum) = false
is_over (Least t a b query word excess sum) = eqb t 0
is_over (Refused number) = false

unfoldable pub hear_next : ℕ → BodyAnswer → Asked → BodyAnswer
hear_next words sofar q = cond (is_over sofar) sofar (heard sofar q (told (search (capped (cap_of sofar) q.ask) words)))

-- "the answers": of the written search, to each query in order
unfoldable pub hear_all : ℕ → BodyAnswer → List Asked → BodyAnswer
hear_all words sofar [] = sofar
hear_all words sofar (q ∷ qs) = hear_all words (hear_next words sofar q) qs

-- a refusal's number (0: none), or else the answer
unfoldable pub body_unless : ℕ → BodyAnswer → BodyAnswer
body_unless zero answer = answer
body_unless (suc n) answer = Refused (suc n)

-- "It answers CLEAR if all are clear, else the least time among the answers that have one"; "Every query is checked before the first search"
unfoldable pub body_search : Terms → Body → Body → ℕ → BodyAnswer
body_search w a b words = body_unless (body_refusal w a b words) (hear_all words (Clear 0) (queries_of w a b))

-- "a refusal leaves the queue untouched; an answer leaves it zero"
unfoldable pub queue_after_bodies : BodyAnswer → List ℕ → List ℕ
queue_after_bodies (Clear sum) queue = replicate (length queue) 0
queue_after_bodies (Least t a b query word excess sum) queue = replicate (length queue) 0
queue_after_bodies (Refused number) queue = queue
