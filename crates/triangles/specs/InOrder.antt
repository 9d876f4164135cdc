-- Queries in order: what the check says of each, and the answers of one list after another.
--     none_refused     none refused: not one of them is
--     capped_none      nor is one with a cap of the step (document 02, R-7)
--     hear_all_append   two lists heard one after the other
--     accepted         two bodies that are not refused
-- Assumes nothing.
use Rattle.std.specs.Prelude.{ℕ, zero, suc, ◌≤◌, ◌≡◌, refl, Bool, true, false, not, cond, ◌&&◌, ◌||◌, List, [], ◌∷◌, ◌++◌, eqb}
use Rattle.std.proofs.Common.{ap, ◌∙◌, arith, le-leb}
use Rattle.rules.specs.declared.Terms.{Terms}
use Rattle.rules.specs.declared.BodyAnswer.{BodyAnswer}
use Rattle.rules.specs.declared.Record.{Record}
use Rattle.rules.specs.Numbers.{limits_of, is_coordinate, is_tolerance, is_budget, is_cap, is_queue}
use Rattle.rules.specs.Refusals.{first, every, are_flags, are_separations, or_else, search_refusal}
use Rattle.rules.specs.Bodies.{Body, Asked, is_body, queries_of, first_refused, body_refusal, capped, hear_next, hear_all}
use Rattle.triangles.specs.Members.{All}

neither : (m n : ℕ) → or_else m n ≡ 0 → (m ≡ 0) × (n ≡ 0)
neither zero n e = (refl, e)
neither (suc m) n e = absurd (omega arith)

pub none_refused : (words : ℕ) (qs : List Asked) → first_refused words qs ≡ 0 → All (λ q. search_refusal q.ask words ≡ 0) qs
unfolding first_refused All
none_refused words [] e = tt
none_refused words (q ∷ qs) e =
    let h = neither (search_refusal q.ask words) (first_refused words qs) e in
    (h.0, none_refused words qs h.1)

-- ---- caps

-- a search's rows, by whether kind, flags, coordinates, separations, tolerance, budget, cap and queue are right
abbrev rows : Bool → Bool → Bool → Bool → Bool → Bool → Bool → Bool → ℕ
rows k f c s t b p q =
    cond (not k) 1 (cond (not f) 2 (cond (not c) 3 (cond (not s) 4 (cond (not t) 5 (cond (not b) 6 (cond (not p) 22 (cond (not q) 7 0)))))))

with_cap : (k f c s t b p q : Bool) → rows k f c s t b p q ≡ 0 → rows k f c s t b true q ≡ 0
with_cap false f c s t b p q e = let z : suc 0 ≡ 0 = e in absurd (omega arith)
with_cap true false c s t b p q e = let z : suc 1 ≡ 0 = e in absurd (omega arith)
with_cap true true false s t b p q e = let z : suc 2 ≡ 0 = e in absurd (omega arith)
with_cap true true true false t b p q e = let z : suc 3 ≡ 0 = e in absurd (omega arith)
with_cap true true true true false b p q e = let z : suc 4 ≡ 0 = e in absurd (omega arith)
with_cap true true true true true false p q e = let z : suc 5 ≡ 0 = e in absurd (omega arith)
with_cap true true true true true true false q e = let z : suc 21 ≡ 0 = e in absurd (omega arith)
with_cap true true true true true true true q e = e

pub capped_none : (cap words : ℕ) (r : Record) → cap ≤ 1048576 → search_refusal r words ≡ 0 → search_refusal (capped cap r) words ≡ 0
unfolding search_refusal first capped
capped_none cap words r h e =
    ap (λ (p : Bool). rows (eqb r.kind 1 || eqb r.kind 2) (are_flags r) (every (is_coordinate (limits_of r.edition)) r.points) (are_separations r) (is_tolerance (limits_of r.edition) r.tolerance) (is_budget r.budget) p (is_queue words)) (in_step cap h)
    ∙ with_cap (eqb r.kind 1 || eqb r.kind 2) (are_flags r) (every (is_coordinate (limits_of r.edition)) r.points) (are_separations r) (is_tolerance (limits_of r.edition) r.tolerance) (is_budget r.budget) (is_cap r.cap) (is_queue words) e
  where
    in_step : (n : ℕ) → n ≤ 1048576 → is_cap n ≡ true
    in_step n h = rw (le-leb 0 n (omega arith), le-leb n 1048576 h) (refl {a = true})

-- ---- in order

pub hear_all_append : (words : ℕ) (sofar : BodyAnswer) (ps qs : List Asked) → hear_all words sofar (ps ++ qs) ≡ hear_all words (hear_all words sofar ps) qs
unfolding hear_all
hear_all_append words sofar [] qs = refl
hear_all_append words sofar (p ∷ ps) qs = hear_all_append words (hear_next words sofar p) ps qs

-- what is not refused: the bodies are bodies, and no query is refused
pub accepted : (w : Terms) (a b : Body) (words : ℕ) → body_refusal w a b words ≡ 0 → ((is_body a && is_body b) ≡ true) × (first_refused words (queries_of w a b) ≡ 0)
unfolding body_refusal
accepted w a b words e = by (is_body a && is_body b) e
  where
    by : (t : Bool) → cond t (first_refused words (queries_of w a b)) 21 ≡ 0 → (t ≡ true) × (first_refused words (queries_of w a b) ≡ 0)
    by true e = (refl, e)
    by false e = absurd (omega arith)
