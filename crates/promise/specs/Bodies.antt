-- What an answer about two bodies promises (document 02, R-6, with the caps of R-7). Read `Body`, `ask_of` and `body_search` in rules/specs/Bodies.antt and Promise.antt here,
-- then this page; no more is needed. proofs/Bodies/Promised.antt proves `DemandBodies` and `BodiesRefusedExactly`.
use Rattle.std.specs.Prelude.{ℕ, ◌+◌, ◌*◌, ◌-◌, ◌≤◌, ◌<◌, ◌≡◌, ◌↔◌, false, take, T}
use Rattle.rules.specs.declared.Record.{Record}
use Rattle.rules.specs.declared.Terms.{Terms}
use Rattle.rules.specs.declared.Ask.{Ask}
use Rattle.rules.specs.declared.Told.{Told}
use Rattle.rules.specs.declared.BodyAnswer.{BodyAnswer}
use Rattle.rules.specs.declared.BodyAnswer.TheVariants.{Clear, Least, Refused}
use Rattle.rules.specs.Numbers.{parts}
use Rattle.rules.specs.Gap.{Place, OnBodies, Contact}
use Rattle.rules.specs.Answers.{told, has_moment}
use Rattle.rules.specs.Search.{search}
use Rattle.rules.specs.Bodies.{Body, A1, A2, A3, B1, B2, B3, face, edges, ask_of, queries_of, cap_of, capped, is_over, hear_all, body_refusal, body_search}
use Rattle.triangles.specs.Members.{ask_at}
use Rattle.promise.specs.Promise.{Within, NearContact}

-- ---- two triangles

-- "corners 1, 2, 3"
pub data Corner : Type 0 where
  C1 C2 C3 : Corner

abbrev pub on_a : Corner → ℕ
on_a C1 = A1
on_a C2 = A2
on_a C3 = A3

abbrev pub on_b : Corner → ℕ
on_b C1 = B1
on_b C2 = B2
on_b C3 = B3

-- "edges 12, 23, 31": where the edge ends that starts at a corner
abbrev pub next : Corner → Corner
next C1 = C2
next C2 = C3
next C3 = C1

-- how two triangles can touch: a corner of A with face B, a corner of B with face A, an edge of A with an edge of B
pub data Way : Type 0 where
  vertex_face_lem face_vertex : Corner → Way
  edge_edge_lem : Corner → Corner → Way

abbrev pub way : Way → Ask
way (vertex_face_lem c) = face (on_a c) B1 B2 B3
way (face_vertex c) = face (on_b c) A1 A2 A3
way (edge_edge_lem e f) = edges (on_a e) (on_a (next e)) (on_b f) (on_b (next f))

-- ---- no contact

-- what an answer leaves open: a contact not before the answered time, t / parts ≤ a / q; none at all when CLEAR. A refusal promises nothing
abbrev pub NotBefore : BodyAnswer → Place → Type 0
NotBefore (Clear sum) m = ⊥
NotBefore (Least t i j query word excess sum) m = t * m.q ≤ m.a * parts
NotBefore (Refused number) m = Unit {0}

-- "no triangle of A has a vertex-face or edge-edge contact with one of B before the answered time, or at all when CLEAR"
abbrev pub NoContact : (Record → Place → Type 0) → Terms → Body → Body → BodyAnswer → Type 0
NoContact contact w a b answer =
    (i j : ℕ) → i < a.count → j < b.count → (k : Way) (m : Place) → OnBodies (ask_of w a b i j (way k)) m → contact (ask_of w a b i j (way k)) m → NotBefore answer m

-- ---- the least time and its first holder

-- a pair and one of its fifteen queries: "Triangles count from 0, queries from 1."
pub record Named (a b : Body) (i j query : ℕ) : Type 0 where
  pub triangle_of_a : i < a.count
  pub triangle_of_b : j < b.count
  pub from_1 : 1 ≤ query
  pub to_15 : query ≤ 15

abbrev pub numbered : Terms → Body → Body → ℕ → ℕ → ℕ → Record
numbered w a b i j query = ask_of w a b i j (ask_at (query - 1))

-- its place among all of them: "Pairs go by A's triangle, then B's."
abbrev pub place_of : Body → ℕ → ℕ → ℕ → ℕ
place_of b i j query = 15 * (b.count * i + j) + query

-- what the walk has heard before a place
abbrev pub before : Terms → Body → Body → ℕ → ℕ → BodyAnswer
before w a b words place = hear_all words (Clear 0) (take (place - 1) (queries_of w a b))

-- "each query takes the least time so far as its cap" (document 02, R-7): a query as the walk asks it
abbrev pub walked : Terms → Body → Body → ℕ → ℕ → ℕ → ℕ → Record
walked w a b words i j query = capped (cap_of (before w a b words (place_of b i j query))) (numbered w a b i j query)

-- "0 time ends the walk": the queries that are asked
abbrev pub IsAsked : Terms → Body → Body → ℕ → ℕ → ℕ → ℕ → Type 0
IsAsked w a b words i j query = is_over (before w a b words (place_of b i j query)) ≡ false

-- a query's own search answers this, and by demand 3 the bodies are that near there
pub record Own (r : Record) (words t word excess : ℕ) : Type 0 where
  pub a_moment : T (has_moment (told (search r words)))
  pub its_t : (told (search r words)).t ≡ t
  pub its_word : (told (search r words)).word ≡ word
  pub its_excess : (told (search r words)).excess ≡ excess
  pub u : ℕ
  pub v : ℕ
  pub on_bodies : OnBodies r (record { q = parts; a = t; b = u; c = v })
  pub within : Within r excess (record { q = parts; a = t; b = u; c = v })
  pub within_tolerance : word ≡ 1 → excess ≤ r.tolerance

-- t is at most the time of another answer that has one, and where that is t too, the other comes no earlier in order
abbrev pub First : ℕ → ℕ → Told → ℕ → Type 0
First t place r place' = T (has_moment r) → (t ≤ r.t) × (r.t ≤ t → place ≤ place')

-- "the least time among the answers that have one, with the first pair and query that has it, its word, excess", of the queries asked and as they are asked
pub record Held (w : Terms) (a b : Body) (words t i j query word excess : ℕ) : Type 0 where
  pub named : Named a b i j query
  pub is_asked : IsAsked w a b words i j query
  pub own : Own (walked w a b words i j query) words t word excess
  pub first : (i' j' query' : ℕ) → Named a b i' j' query' → IsAsked w a b words i' j' query'
      → First t (place_of b i j query) (told (search (walked w a b words i' j' query') words)) (place_of b i' j' query')

abbrev pub Holder : Terms → Body → Body → ℕ → BodyAnswer → Type 0
Holder w a b words (Clear sum) = Unit {0}
Holder w a b words (Least t i j query word excess sum) = Held w a b words t i j query word excess
Holder w a b words (Refused number) = Unit {0}

-- ---- of the written search

-- all of it; no contact by the margin of demand 3 too
pub record BodiesPromised (w : Terms) (a b : Body) (words : ℕ) (answer : BodyAnswer) : Type 0 where
  pub no_contact : NoContact Contact w a b answer
  pub by_a_margin : NoContact NearContact w a b answer
  pub holder : Holder w a b words answer

abbrev pub DemandBodies : Type 0
DemandBodies = (w : Terms) (a b : Body) (words : ℕ) → BodiesPromised w a b words (body_search w a b words)

-- refused with n exactly when n is 21 or the first refused query's; so what is not refused is answered
abbrev pub BodiesRefusedExactly : Type 0
BodiesRefusedExactly = (w : Terms) (a b : Body) (words n : ℕ) → (body_search w a b words ≡ Refused n) ↔ ((0 < n) × (body_refusal w a b words ≡ n))
