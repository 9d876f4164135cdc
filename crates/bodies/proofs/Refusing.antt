-- The check in one pass, step by step: what each step settles of R-6's plain rule. Assumes nothing.
use Prim.Native.Nat.{ℕ, zero, suc}
use mathlib.Core.Path.{◌≡◌, refl, sym, ap, ◌∙◌}
use mathlib.Core.Bool.{Bool, true, false, cond, ◌&&◌, and-eq-true_iff}
use native.Mathlib.Omega.{arith}
use mathlib.Core.List.{List}
use lib.ListN.{length, replicate}
use Rattle.rules.specs.declared.Terms.{Terms}
use Rattle.rules.specs.declared.Refusal.{Refusal}
use Rattle.rules.specs.Refusals.{number_of, or_else, search_refusal}
use Rattle.rules.specs.declared.BodyAnswer.TheVariants.{Clear}
use Rattle.rules.specs.Bodies.{Body, is_body, face, ask_of, queries_of, body_refusal, sum_of, cap_of, is_over}
use Rattle.refusals.specs.Numbered.{not_zero}
use Rattle.triangles.specs.InOrder.{none_refused, accepted}
use Rattle.bodies.specs.Asking.{There}
use Rattle.bodies.specs.Walk.{ToHear}
use Rattle.bounds.specs.Keeping.{Known, known, InRange}
use Rattle.bounds.specs.Ranges.{in_range}
use Rattle.bodies.specs.Check.{is_right, one_pass, one_pass_lem}

-- two tests, each known by another name
pub both : {x y u v : Bool} → x ≡ u → y ≡ v → (x && y) ≡ (u && v)
both {x = x} {y = y} {u = u} {v = v} e f = ap (λ (z : Bool). z && y) e ∙ ap (λ (z : Bool). u && z) f

pub or_else_lem : (n m : ℕ) → (n ≡ 0 → ⊥) → or_else n m ≡ n
or_else_lem zero m h = absurd (h refl)
or_else_lem (suc n) m h = refl

-- a refusal comes before any other
pub comes_first : (r : Refusal) (m : ℕ) → or_else (number_of r) m ≡ number_of r
comes_first r m = or_else_lem (number_of r) m (not_zero r)

module _ (w : Terms) (a b : Body) (words : ℕ) where
  pub no_bodies : (is_body a && is_body b) ≡ false → 21 ≡ body_refusal w a b words
  unfolding one_pass
  no_bodies e = sym (one_pass_lem w a b words ∙ ap (λ (t : Bool). cond t (or_else (search_refusal (ask_of w a b 0 0 (face 0 3 4 5)) words) (cond (is_right w.edition a && is_right w.edition b) 0 3)) 21) e)

  module _ (e : (is_body a && is_body b) ≡ true) where
    by_first : (n : ℕ) → n ≡ search_refusal (ask_of w a b 0 0 (face 0 3 4 5)) words → body_refusal w a b words ≡ or_else n (cond (is_right w.edition a && is_right w.edition b) 0 3)
    unfolding one_pass
    by_first n f =
        one_pass_lem w a b words
        ∙ ap (λ (t : Bool). cond t (or_else (search_refusal (ask_of w a b 0 0 (face 0 3 4 5)) words) (cond (is_right w.edition a && is_right w.edition b) 0 3)) 21) e
        ∙ ap (λ (m : ℕ). or_else m (cond (is_right w.edition a && is_right w.edition b) 0 3)) (sym f)

    pub first_refused_lem : (n : ℕ) → n ≡ search_refusal (ask_of w a b 0 0 (face 0 3 4 5)) words → (n ≡ 0 → ⊥) → n ≡ body_refusal w a b words
    first_refused_lem n f h = sym (by_first n f ∙ or_else_lem n _ h)

    -- of a refusal
    pub first_comes : (r : Refusal) → number_of r ≡ search_refusal (ask_of w a b 0 0 (face 0 3 4 5)) words → number_of r ≡ body_refusal w a b words
    first_comes r f = first_refused_lem (number_of r) f (not_zero r)

    pub by_positions : 0 ≡ search_refusal (ask_of w a b 0 0 (face 0 3 4 5)) words → (t : Bool) → (is_right w.edition a && is_right w.edition b) ≡ t → cond t 0 3 ≡ body_refusal w a b words
    by_positions f t r = sym (by_first 0 f ∙ ap (λ (x : Bool). cond x 0 3) r)

    -- the first triangles are there
    pub starts_there : There a.start b.start 0 0
    starts_there =
        let h = (and-eq-true_iff (is_body a) (is_body b)).0 e in
        let ka = known a h.0 in
        let kb = known b h.1 in
        record { of_a_lem = omega (arith, ka.some, ka.start); of_b_lem = omega (arith, kb.some, kb.start) }

    pub ends_there : There a.end b.end 0 0
    ends_there =
        let h = (and-eq-true_iff (is_body a) (is_body b)).0 e in
        let ka = known a h.0 in
        let kb = known b h.1 in
        record { of_a_lem = omega (arith, ka.some, ka.end); of_b_lem = omega (arith, kb.some, kb.end) }

  -- bodies that are not refused
  module _ (none : body_refusal w a b words ≡ 0) where
    pub known_bodies : Known a × Known b
    known_bodies = let h = (and-eq-true_iff (is_body a) (is_body b)).0 (accepted w a b words none).0 in (known a h.0, known b h.1)

    both_right : (is_right w.edition a && is_right w.edition b) ≡ true
    both_right = by (is_right w.edition a && is_right w.edition b) refl
      where
        never : (n : ℕ) → or_else n 3 ≡ 0 → ⊥
        never zero z = omega arith
        never (suc n) z = omega arith

        by : (t : Bool) → (is_right w.edition a && is_right w.edition b) ≡ t → (is_right w.edition a && is_right w.edition b) ≡ true
        by true r = r
        by false r = absurd (never (search_refusal (ask_of w a b 0 0 (face 0 3 4 5)) words) (sym (by_first (accepted w a b words none).0 (search_refusal (ask_of w a b 0 0 (face 0 3 4 5)) words) refl ∙ ap (λ (x : Bool). or_else (search_refusal (ask_of w a b 0 0 (face 0 3 4 5)) words) (cond x 0 3)) r) ∙ none))

    pub in_range_bodies : InRange a × InRange b
    in_range_bodies =
        let h = (and-eq-true_iff (is_right w.edition a) (is_right w.edition b)).0 both_right in
        (in_range w.edition a known_bodies.0 h.0, in_range w.edition b known_bodies.1 h.1)

pub all_to_hear : (w : Terms) (a b : Body) (queue : List ℕ) → body_refusal w a b (length queue) ≡ 0 → queue ≡ replicate (length queue) 0 → ToHear 983040 (queries_of w a b) queue (Clear 0)
unfolding sum_of cap_of is_over
all_to_hear w a b queue e z = record { none = none_refused (length queue) (queries_of w a b) (accepted w a b (length queue) e).1; zero = z; room = omega arith; step = omega arith; goes = refl }
