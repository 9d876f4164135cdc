-- Every query checked in one pass over the coordinates: where the first query is not refused, another can be refused for its coordinates alone.
-- Assumes nothing.
use Rattle.std.specs.Prelude.{ℕ, zero, suc, ◌+◌, ◌≡◌, Bool, true, false, not, cond, ◌&&◌, ◌||◌, eqb}
use Rattle.std.proofs.Math.Path.{refl}
use Rattle.std.proofs.Common.{sym, ap, ◌∙◌, arith}
use Rattle.std.proofs.Math.Bool.{and-eq-true_iff}
use mathlib.Core.List.{List, [], ◌∷◌, ◌++◌}
use Rattle.rules.specs.declared.Terms.{Terms}
use Rattle.rules.specs.declared.Ask.{Ask}
use Rattle.rules.specs.Numbers.{limits_of, is_coordinate, is_separation, is_tolerance, is_budget, is_queue}
use Rattle.rules.specs.Refusals.{first, every, or_else, search_refusal}
use Rattle.rules.specs.Bodies.{Body, Asked, A1, B1, B2, B3, face, fifteen, ask_of, asked_from, each_from, queries_of, first_refused}

-- rows 3 to 7, by whether coordinates, separations, tolerance, budget and queue are right
abbrev rows : Bool → Bool → Bool → Bool → Bool → ℕ
rows c s t b q = cond (not c) 3 (cond (not s) 4 (cond (not t) 5 (cond (not b) 6 (cond (not q) 7 0))))

others : (c s t b q c' : Bool) → rows c s t b q ≡ 0 → rows c' s t b q ≡ cond c' 0 3
others false s t b q c' e = let z : suc 2 ≡ 0 = e in absurd (omega arith)
others true false t b q c' e = let z : suc 3 ≡ 0 = e in absurd (omega arith)
others true true false b q c' e = let z : suc 4 ≡ 0 = e in absurd (omega arith)
others true true true false q c' e = let z : suc 5 ≡ 0 = e in absurd (omega arith)
others true true true true false c' e = let z : suc 6 ≡ 0 = e in absurd (omega arith)
others true true true true true true e = refl
others true true true true true false e = refl

-- a query's kind is one of the two
abbrev pub has_kind : Ask → Bool
has_kind k = eqb k.kind 1 || eqb k.kind 2

module _ (w : Terms) (a b : Body) (words : ℕ) where
  -- what a query of the two bodies is refused for
  by_rows : (i j : ℕ) (k : Ask) → has_kind k ≡ true
      → search_refusal (ask_of w a b i j k) words
      ≡ rows (every (is_coordinate (limits_of w.edition)) (ask_of w a b i j k).points) (is_separation w.dx && is_separation w.dy && is_separation w.dz) (is_tolerance (limits_of w.edition) w.tolerance) (is_budget w.budget) (is_queue words)
  unfolding search_refusal first ask_of
  by_rows i j k e = rw e

  pub coordinates_alone : (i j i' j' : ℕ) (k k' : Ask) → has_kind k ≡ true → has_kind k' ≡ true → search_refusal (ask_of w a b i j k) words ≡ 0
      → search_refusal (ask_of w a b i' j' k') words ≡ cond (every (is_coordinate (limits_of w.edition)) (ask_of w a b i' j' k').points) 0 3
  coordinates_alone i j i' j' k k' e e' z =
      by_rows i' j' k' e'
      ∙ others (every (is_coordinate (limits_of w.edition)) (ask_of w a b i j k).points) (is_separation w.dx && is_separation w.dy && is_separation w.dz) (is_tolerance (limits_of w.edition) w.tolerance) (is_budget w.budget) (is_queue words) (every (is_coordinate (limits_of w.edition)) (ask_of w a b i' j' k').points) (sym (by_rows i j k e) ∙ z)

-- whether all coordinates of a list of queries are right
unfoldable pub all_right : List Asked → Bool
all_right [] = true
all_right (q ∷ qs) = every (is_coordinate (limits_of q.ask.edition)) q.ask.points && all_right qs

-- each query of a list is refused for its coordinates alone
unfoldable pub Alone : ℕ → List Asked → Type 0
Alone words [] = Unit {0}
Alone words (q ∷ qs) = (search_refusal q.ask words ≡ cond (every (is_coordinate (limits_of q.ask.edition)) q.ask.points) 0 3) × Alone words qs

-- then the first refused query's number is 3, or there is none
pub first_refused_lem : (words : ℕ) (qs : List Asked) → Alone words qs → first_refused words qs ≡ cond (all_right qs) 0 3
unfolding first_refused all_right Alone
first_refused_lem words [] h = refl
first_refused_lem words (q ∷ qs) h = ap (λ (n : ℕ). or_else n (first_refused words qs)) h.0 ∙ by_case (every (is_coordinate (limits_of q.ask.edition)) q.ask.points) (first_refused_lem words qs h.1)
  where
    by_case : (c : Bool) → first_refused words qs ≡ cond (all_right qs) 0 3 → or_else (cond c 0 3) (first_refused words qs) ≡ cond (c && all_right qs) 0 3
    by_case true ih = ih
    by_case false ih = refl

-- ---- all queries of two bodies

alone_append : (words : ℕ) (ps qs : List Asked) → Alone words ps → Alone words qs → Alone words (ps ++ qs)
unfolding Alone
alone_append words [] qs h g = g
alone_append words (p ∷ ps) qs h g = (h.0, alone_append words ps qs h.1 g)

alone_each : (words i n : ℕ) (f : ℕ → List Asked) → ((m : ℕ) → Alone words (f m)) → Alone words (each_from i n f)
unfolding Alone each_from
alone_each words i zero f h = tt
alone_each words i (suc n) f h = alone_append words (f i) (each_from (i + 1) n f) (h i) (alone_each words (i + 1) n f h)

-- whether all of a list have a kind
abbrev have_kinds : List Ask → Bool
have_kinds [] = true
have_kinds (k ∷ ks) = has_kind k && have_kinds ks

module _ (w : Terms) (a b : Body) (words : ℕ) (none : search_refusal (ask_of w a b 0 0 (face A1 B1 B2 B3)) words ≡ 0) where
  alone_pair : (i j n : ℕ) (ks : List Ask) → have_kinds ks ≡ true → Alone words (asked_from w a b i j n ks)
  unfolding Alone asked_from ask_of
  alone_pair i j n [] e = tt
  alone_pair i j n (k ∷ ks) e =
      let h = (and-eq-true_iff (has_kind k) (have_kinds ks)).0 e in
      (coordinates_alone w a b words 0 0 i j (face A1 B1 B2 B3) k refl h.0 none, alone_pair i j (n + 1) ks h.1)

  -- the plain rule, where the first query is not refused: 3, or none
  pub rest_refused : first_refused words (queries_of w a b) ≡ cond (all_right (queries_of w a b)) 0 3
  unfolding queries_of
  rest_refused =
      first_refused_lem words (queries_of w a b)
      (alone_each words 0 a.count _ (λ i. alone_each words 0 b.count _ (λ j. alone_pair i j 1 fifteen refl)))
