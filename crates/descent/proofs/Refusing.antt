-- The ways out of the written answer, by what refuses the question before the search and by whether the point is before the answered time; and the queue after each.
use mathlib.Core.Path.{◌≡◌, refl, sym, ap, ◌∙◌}
use mathlib.Core.Bool.{Bool, true, false, not, cond}
use mathlib.Core.List.{List, [], ◌∷◌, ◌++◌}
use Prim.Native.Nat.{ℕ, zero, suc, ◌≤◌}
use native.Mathlib.Omega.{arith}
use lib.ListN.{length, replicate}
use borrow.Author.Tests.{ne_eqb}
use Rattle.rules.specs.declared.Record.{Record}
use Rattle.rules.specs.declared.Three.{Three}
use Rattle.rules.specs.declared.Ruling.TheVariants.{Refused}
use Rattle.rules.specs.Numbers.{is_queue}
use Rattle.rules.specs.Refusals.{Case, first, or_else, record_cases, search_refusal}
use Rattle.rules.specs.Search.{search}
use Rattle.rules.specs.Why.{in_domain, is_before, from_whole, ask_refusal, why_refusal, unless_why, why_search, why_queue_after}

-- ---- the search's own are 1 to 7 and 22
abbrev pub Most : ℕ → List Case → Type 0
Most n [] = Unit
Most n (c ∷ cs) = (c.number ≤ n) × Most n cs

pub first_most : (n : ℕ) (cs : List Case) → Most n cs → first cs ≤ n
unfolding first
first_most n [] h = omega arith
first_most n (c ∷ cs) h = go c.due (first_most n cs h.1)
  where
    go : (d : Bool) → first cs ≤ n → cond d c.number (first cs) ≤ n
    go true g = h.0
    go false g = g

pub own_most : (r : Record) (words : ℕ) → search_refusal r words ≤ 22
unfolding search_refusal
own_most r words =
    first_most 22 (record_cases r ++ (record { number = 7; due = not (is_queue words) } ∷ []))
    (omega arith, (omega arith, (omega arith, (omega arith, (omega arith, (omega arith, (omega arith, (omega arith, tt))))))))

module _ (r : Record) (words : ℕ) (at : Three) where
  -- ---- by the three tests
  abbrev before : ℕ → Bool → ℕ
  before n x = or_else n (cond (not x) 23 0)

  abbrev all : ℕ → Bool → Bool → ℕ
  all n x y = or_else n (cond (not x) 23 (cond (not y) 24 0))

  ask_is : before (search_refusal r words) (in_domain r at) ≡ ask_refusal r words at
  unfolding ask_refusal first
  ask_is = refl

  pub own_first : (n : ℕ) → n ≡ search_refusal r words → (n ≡ 0 → ⊥) → n ≡ ask_refusal r words at
  own_first zero e h = absurd (h refl)
  own_first (suc n) e h = ap (λ (k : ℕ). before k (in_domain r at)) e ∙ ask_is

  why_is : why_refusal r words at ≡ all (search_refusal r words) (in_domain r at) (is_before (search r words) at.t)
  unfolding why_refusal first
  why_is = refl

  ruling : (n : ℕ) → why_refusal r words at ≡ n → unless_why n (from_whole r words at) ≡ why_search r words at
  unfolding why_search
  ruling n e = ap (λ (k : ℕ). unless_why k (from_whole r words at)) (sym e)

  -- ---- refused before the search
  module _ (n : ℕ) (e : n ≡ ask_refusal r words at) (h : n ≡ 0 → ⊥) where
    asked : why_refusal r words at ≡ n
    asked = why_is ∙ go (search_refusal r words) (in_domain r at) (e ∙ sym ask_is)
      where
        go : (k : ℕ) (x : Bool) → n ≡ before k x → all k x (is_before (search r words) at.t) ≡ n
        go (suc k) x f = sym f
        go zero false f = sym f
        go zero true f = absurd (h f)

    pub few : n ≤ 23
    few = go (search_refusal r words) (in_domain r at) (own_most r words) (e ∙ sym ask_is)
      where
        go : (k : ℕ) (x : Bool) → k ≤ 22 → n ≡ before k x → n ≤ 23
        go (suc k) x f g = omega arith
        go zero false f g = omega arith
        go zero true f g = omega arith

    pub refused_before : Refused n ≡ why_search r words at
    unfolding unless_why
    refused_before = go n h ∙ ruling n asked
      where
        go : (k : ℕ) → (k ≡ 0 → ⊥) → Refused k ≡ unless_why k (from_whole r words at)
        go zero h = absurd (h refl)
        go (suc k) h = refl

    pub untouched : (queue : List ℕ) → queue ≡ why_queue_after (why_refusal r words at) queue
    unfolding why_queue_after
    untouched queue = rw (asked, ne_eqb n 0 h, ne_eqb n 24 (λ z. omega (arith, few)))

  -- ---- not refused before it
  module _ (e : ask_refusal r words at ≡ 0) where
    pub own_none : search_refusal r words ≡ 0
    own_none = go (search_refusal r words) (in_domain r at) (ask_is ∙ e)
      where
        go : (k : ℕ) (x : Bool) → before k x ≡ 0 → k ≡ 0
        go zero x f = refl
        go (suc k) x f = f

    by_time : why_refusal r words at ≡ cond (not (is_before (search r words) at.t)) 24 0
    by_time = why_is ∙ go (search_refusal r words) (in_domain r at) (ask_is ∙ e)
      where
        go : (k : ℕ) (x : Bool) → before k x ≡ 0 → all k x (is_before (search r words) at.t) ≡ cond (not (is_before (search r words) at.t)) 24 0
        go zero true f = refl
        go zero false f = absurd (omega arith)
        go (suc k) x f = absurd (omega arith)

    pub refused_24 : is_before (search r words) at.t ≡ false → Refused 24 ≡ why_search r words at
    unfolding unless_why
    refused_24 f = ruling 24 (by_time ∙ rw f)

    pub its_box : is_before (search r words) at.t ≡ true → from_whole r words at ≡ why_search r words at
    unfolding unless_why
    its_box f = ruling 0 (by_time ∙ rw f)

    pub cleared : (queue : List ℕ) → replicate (length queue) 0 ≡ why_queue_after (why_refusal r words at) queue
    unfolding why_queue_after
    cleared queue = go (is_before (search r words) at.t) by_time
      where
        go : (y : Bool) → why_refusal r words at ≡ cond (not y) 24 0 → replicate (length queue) 0 ≡ why_queue_after (why_refusal r words at) queue
        go true f = rw f
        go false f = rw f
