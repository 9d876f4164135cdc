-- Refused or answered: what comes back, what is told, and what is left of the queue. Assumes nothing.
use Prim.Native.Nat.{ℕ, zero, suc, ◌≤◌, ◌<◌}
use mathlib.Core.Path.{◌≡◌, refl, sym, ap, ◌∙◌}
use mathlib.Core.Bool.{Bool, true, false, not, cond, ◌&&◌}
use mathlib.Core.List.{List, [], ◌∷◌}
use borrow.Author.Tests.{lt-ltb, le-ltb}
use lib.IntN.{ℤ}
use lib.ListN.{length, replicate}
use Rattle.rules.specs.declared.Told.{Told}
use Rattle.rules.specs.declared.Terms.{Terms}
use Rattle.rules.specs.declared.BodyAnswer.{BodyAnswer}
use Rattle.rules.specs.declared.Refusal.{Refusal}
use Rattle.rules.specs.declared.BodyAnswer.TheVariants.{Clear, Least, Refused}
use Rattle.rules.specs.Answers.{told, has_moment}
use Rattle.rules.specs.QueryFile.{is_edition}
use Rattle.rules.specs.Refusals.{number_of, first, or_else}
use Rattle.rules.specs.Search.{search as searched}
use Rattle.rules.specs.Bodies.{Body, Asked, queries_of, body_refusal, counted, is_less, sum_of, heard, cap_of, capped, is_over, hear_next, hear_all, body_unless, body_search, queue_after_bodies}
use Rattle.rules.specs.Bounds.{are_same, bounds_of, inexact, walk_refusal}
use Rattle.refusals.specs.Numbered.{not_zero}
use Rattle.answers.specs.Walk.{short}
use Rattle.bodies.specs.Walk.{Heard}
use Rattle.bodies.specs.Telling.{Answered, told_refusal}
use Rattle.bodies.proofs.Refusing.{comes_first}

-- what is heard is no refusal
abbrev IsAnswer : BodyAnswer → Type 0
IsAnswer (Clear sum) = Unit {0}
IsAnswer (Least t i j query word excess sum) = Unit {0}
IsAnswer (Refused number) = ⊥

heard_answers : (sofar : BodyAnswer) (q : Asked) (r : Told) → IsAnswer sofar → IsAnswer (heard sofar q r)
unfolding heard counted
heard_answers sofar q r h =
    counted_answers r.count (cond (has_moment r && is_less r.t sofar) (Least r.t q.a q.b q.query r.word r.excess (sum_of sofar)) sofar)
    (by (has_moment r && is_less r.t sofar))
  where
    counted_answers : (n : ℕ) (x : BodyAnswer) → IsAnswer x → IsAnswer (counted n x)
    counted_answers n (Clear sum) h = tt
    counted_answers n (Least t i j query word excess sum) h = tt
    counted_answers n (Refused number) h = h

    by : (t : Bool) → IsAnswer (cond t (Least r.t q.a q.b q.query r.word r.excess (sum_of sofar)) sofar)
    by true = tt
    by false = h

next_answers : (words : ℕ) (sofar : BodyAnswer) (q : Asked) → IsAnswer sofar → IsAnswer (hear_next words sofar q)
unfolding hear_next
next_answers words sofar q h = by (is_over sofar)
  where
    r : Told
    r = told (searched (capped (cap_of sofar) q.ask) words)

    by : (x : Bool) → IsAnswer (cond x sofar (heard sofar q r))
    by true = h
    by false = heard_answers sofar q r h

hear_all_answers : (words : ℕ) (sofar : BodyAnswer) (qs : List Asked) → IsAnswer sofar → IsAnswer (hear_all words sofar qs)
unfolding hear_all
hear_all_answers words sofar [] h = h
hear_all_answers words sofar (q ∷ qs) h = hear_all_answers words (hear_next words sofar q) qs (next_answers words sofar q h)

after_answer : (x : BodyAnswer) (queue : List ℕ) → IsAnswer x → queue_after_bodies x queue ≡ replicate (length queue) 0
unfolding queue_after_bodies
after_answer (Clear sum) queue h = refl
after_answer (Least t i j query word excess sum) queue h = refl
after_answer (Refused number) queue h = absurd h

module _ (w : Terms) (a b : Body) (queue : List ℕ) where
  -- a refusal touches nothing
  pub refused : (r : Refusal) → number_of r ≡ body_refusal w a b (length queue) → Answered w a b queue queue (Refused (number_of r))
  unfolding queue_after_bodies body_search body_unless
  refused r e = by (number_of r) e (not_zero r)
    where
      by : (n : ℕ) → n ≡ body_refusal w a b (length queue) → (n ≡ 0 → ⊥) → Answered w a b queue queue (Refused n)
      by zero e h = absurd (h refl)
      by (suc n) e h =
          let s : Refused (suc n) ≡ body_search w a b (length queue) = ap (λ (m : ℕ). body_unless m (hear_all (length queue) (Clear 0) (queries_of w a b))) e in
          record { says = s; left = ap (λ (x : BodyAnswer). queue_after_bodies x queue) s }

  -- every query heard from a queue of zeros
  pub answered : (cleared queue' : List ℕ) (r : BodyAnswer) → body_refusal w a b (length queue) ≡ 0 → cleared ≡ replicate (length queue) 0 → length cleared ≡ length queue
      → Heard 983040 (queries_of w a b) cleared queue' (Clear 0) r → Answered w a b queue queue' r
  unfolding body_search body_unless
  answered cleared queue' r e z l h =
      let s : body_search w a b (length queue) ≡ hear_all (length queue) (Clear 0) (queries_of w a b) = ap (λ (m : ℕ). body_unless m (hear_all (length queue) (Clear 0) (queries_of w a b))) e in
      record {
        says = h.says ∙ ap (λ (n : ℕ). hear_all n (Clear 0) (queries_of w a b)) l ∙ sym s;
        left = h.kept ∙ z ∙ sym (ap (λ (x : BodyAnswer). queue_after_bodies x queue) s ∙ after_answer _ queue (hear_all_answers (length queue) (Clear 0) (queries_of w a b) tt));
      }

  -- ---- with bounds

  module _ (of_a of_b : List ℤ) where
    abbrev exact : Bool
    exact = are_same of_a (bounds_of a) && are_same of_b (bounds_of b)

    -- 21 and the queries' own come first
    pub walk_refused : (r : Refusal) → number_of r ≡ body_refusal w a b (length queue) → number_of r ≡ walk_refusal w a of_a b of_b (length queue)
    unfolding walk_refusal
    walk_refused r e = sym (ap (λ (m : ℕ). or_else m (first (inexact a of_a b of_b ∷ []))) (sym e) ∙ comes_first r _)

    pub walk_by : 0 ≡ body_refusal w a b (length queue) → (t : Bool) → exact ≡ t → cond t 0 27 ≡ walk_refusal w a of_a b of_b (length queue)
    unfolding walk_refusal first
    walk_by e true f = sym (ap (λ (m : ℕ). or_else m (first (inexact a of_a b of_b ∷ []))) (sym e) ∙ ap (λ (t : Bool). cond (not t) 27 0) f)
    walk_by e false f = sym (ap (λ (m : ℕ). or_else m (first (inexact a of_a b of_b ∷ []))) (sym e) ∙ ap (λ (t : Bool). cond (not t) 27 0) f)

-- ---- the number that is told

module _ (edition own : ℕ) (out : List ℕ) where
  abbrev behind : ℕ
  behind = or_else own (first (short out 8 ∷ []))

  by_edition : (t : Bool) → is_edition edition ≡ t → told_refusal edition own out ≡ cond t behind 10
  unfolding told_refusal first
  by_edition true f = ap (λ (t : Bool). or_else (cond (not t) 10 0) behind) f
  by_edition false f = ap (λ (t : Bool). or_else (cond (not t) 10 0) behind) f

  pub tell_none : is_edition edition ≡ false → 10 ≡ told_refusal edition own out
  tell_none f = sym (by_edition false f)

  module _ (f : is_edition edition ≡ true) where
    pub tell_refused : (r : Refusal) → number_of r ≡ own → number_of r ≡ told_refusal edition own out
    tell_refused r e = sym (by_edition true f ∙ ap (λ (m : ℕ). or_else m (first (short out 8 ∷ []))) (sym e) ∙ comes_first r _)

    module _ (e : 0 ≡ own) where
      accepts : told_refusal edition own out ≡ first (short out 8 ∷ [])
      accepts = by_edition true f ∙ ap (λ (m : ℕ). or_else m (first (short out 8 ∷ []))) (sym e)

      pub tell_short : length out < 8 → 14 ≡ told_refusal edition own out
      unfolding first
      tell_short l = sym (accepts ∙ rw (lt-ltb (length out) 8 l))

      pub tell_good : 8 ≤ length out → 0 ≡ told_refusal edition own out
      unfolding first
      tell_good l = sym (accepts ∙ rw (le-ltb (length out) 8 l))
