-- Every query checked in one pass over the coordinates (`one_pass`), which is R-6's plain rule (`one_pass_lem`).
-- Assumes nothing.
use Prim.Native.Nat.{ℕ, zero, suc, ◌<◌}
use Rattle.std.specs.Prelude.{◌≡◌, Bool, ◌&&◌}
use Rattle.std.proofs.Math.Path.{refl, ap}
use Rattle.std.proofs.Common.{sym, ◌∙◌, arith}
use Rattle.std.proofs.Math.Bool.{true, false, cond, and-eq-true_iff}
use Rattle.rules.specs.declared.Terms.{Terms}
use Rattle.rules.specs.Numbers.{limits_of, is_coordinate}
use Rattle.rules.specs.Refusals.{every, or_else, search_refusal}
use Rattle.rules.specs.Bodies.{Body, A1, B1, B2, B3, is_body, face, fifteen, ask_of, asked_from, each_from, queries_of, first_refused, body_refusal}
use Rattle.bounds.specs.Keeping.{Known, known}
use Rattle.bodies.specs.OnePass.{all_right, rest_refused}
use Rattle.bodies.specs.Coordinates.{RightBody, queries_right, all_right_lem, right_all, body_a, body_b}

-- a body's coordinates are right, by a test
abbrev pub is_right : ℕ → Body → Bool
is_right d m = every (is_coordinate (limits_of d)) m.start && every (is_coordinate (limits_of d)) m.end

-- 21; what the first query is refused for; 3 for a coordinate of any
unfoldable pub one_pass : Terms → Body → Body → ℕ → ℕ
one_pass w a b words =
    cond (is_body a && is_body b) (or_else (search_refusal (ask_of w a b 0 0 (face A1 B1 B2 B3)) words) (cond (is_right w.edition a && is_right w.edition b) 0 3)) 21

same : (x y : Bool) → (x ≡ true → y ≡ true) → (y ≡ true → x ≡ true) → x ≡ y
same true y f g = sym (f refl)
same false true f g = g refl
same false false f g = refl

taken : (x r rest : ℕ) → x ≡ suc r → or_else x rest ≡ suc r
taken x r rest e = ap (λ (n : ℕ). or_else n rest) e

right : (d : ℕ) (m : Body) → is_right d m ≡ true → RightBody d m
right d m e = let h = (and-eq-true_iff (every (is_coordinate (limits_of d)) m.start) (every (is_coordinate (limits_of d)) m.end)).0 e in record { start = h.0; end = h.1 }

test : (d : ℕ) (m : Body) → RightBody d m → is_right d m ≡ true
test d m h = (and-eq-true_iff (every (is_coordinate (limits_of d)) m.start) (every (is_coordinate (limits_of d)) m.end)).1 (h.start, h.end)

module _ (w : Terms) (a b : Body) (words : ℕ) where
  -- the first query comes first
  head : (m n r : ℕ) → 0 < m → 0 < n → search_refusal (ask_of w a b 0 0 (face A1 B1 B2 B3)) words ≡ suc r
      → first_refused words (each_from 0 m (λ i. each_from 0 n (λ j. asked_from w a b i j 1 fifteen))) ≡ suc r
  unfolding first_refused each_from asked_from
  head zero n r lm ln e = absurd (omega arith)
  head (suc m) zero r lm ln e = absurd (omega arith)
  head (suc m) (suc n) r lm ln e = taken _ r _ e

  rights : Known a → Known b → all_right (queries_of w a b) ≡ (is_right w.edition a && is_right w.edition b)
  rights ka kb =
      same (all_right (queries_of w a b)) (is_right w.edition a && is_right w.edition b)
      (λ e.
      let h = right_all (queries_of w a b) e in
      (and-eq-true_iff (is_right w.edition a) (is_right w.edition b)).1
      (test w.edition a (body_a w a b h ka.some kb.some ka.start ka.end), test w.edition b (body_b w a b h ka.some kb.some kb.start kb.end)))
      (λ e.
      let h = (and-eq-true_iff (is_right w.edition a) (is_right w.edition b)).0 e in
      all_right_lem (queries_of w a b) (queries_right w a b (right w.edition a h.0) (right w.edition b h.1)))

  by_first : Known a → Known b → (r : ℕ) → search_refusal (ask_of w a b 0 0 (face A1 B1 B2 B3)) words ≡ r → first_refused words (queries_of w a b) ≡ or_else r (cond (is_right w.edition a && is_right w.edition b) 0 3)
  unfolding queries_of
  by_first ka kb zero e = rest_refused w a b words e ∙ ap (λ (t : Bool). cond t 0 3) (rights ka kb)
  by_first ka kb (suc r) e = head a.count b.count r ka.some kb.some e

  pub one_pass_lem : body_refusal w a b words ≡ one_pass w a b words
  unfolding body_refusal one_pass
  one_pass_lem = by_test (is_body a && is_body b) refl
    where
      by_test : (t : Bool) → (is_body a && is_body b) ≡ t
          → cond t (first_refused words (queries_of w a b)) 21
          ≡ cond t (or_else (search_refusal (ask_of w a b 0 0 (face A1 B1 B2 B3)) words) (cond (is_right w.edition a && is_right w.edition b) 0 3)) 21
      by_test true e = let h = (and-eq-true_iff (is_body a) (is_body b)).0 e in by_first (known a h.0) (known b h.1) _ refl
      by_test false e = refl
