-- What is not refused is answered: the budget is not 0, and 61 levels are enough.
use mathlib.Core.Path.{◌≡◌, refl, subst}
use mathlib.Core.Bool.{Bool, true, false, not, cond, ◌&&◌}
use mathlib.Core.List.{List, [], ◌∷◌, ◌++◌}
use Prim.Native.Nat.{ℕ, ◌≤◌, ◌<◌}
use native.Mathlib.Nat.{le_trans}
use native.Mathlib.Omega.{arith}
use lib.Dec.{T, leb, ltb, eqb, leb→le, le→leb, ltb→lt}
use Rattle.rules.specs.declared.Record.{Record}
use Rattle.rules.specs.declared.Answer.TheVariants.{Refused}
use Rattle.rules.specs.Numbers.{between, is_budget, is_queue}
use Rattle.rules.specs.Gap.{sided, is_vertex_face}
use Rattle.rules.specs.Refusals.{Case, first, record_cases, search_refusal}
use Rattle.rules.specs.Search.{query, run}
use Rattle.kernel.specs.Kernel.{kernel_of}
use Rattle.kernel.specs.Same.{gap_kernel}
use Rattle.kernel.specs.Ranges.{editions_deep}
use Rattle.promise.specs.More.{with_budget, Raised}
use Rattle.promise.proofs.Box.{HasKernel}
use Rattle.promise.proofs.Survive.{and_both, and_intro}
use Rattle.promise.proofs.Levels.{Kept, run_kept}

-- ---- none is due: the budget is not 0
abbrev NoneDue : List Case → Type 0
NoneDue [] = Unit
NoneDue (c ∷ cs) = T (not c.due) × NoneDue cs

-- no row has the number 0
abbrev numbered : List Case → Bool
numbered [] = true
numbered (c ∷ cs) = ltb 0 c.number && numbered cs

first_none : (cs : List Case) → T (numbered cs) → first cs ≡ 0 → NoneDue cs
unfolding first
first_none [] h e = tt
first_none (c ∷ cs) h e = go c.due e (first_none cs (and_both (ltb 0 c.number) (numbered cs) h).1)
  where
    go : (d : Bool) → cond d c.number (first cs) ≡ 0 → (first cs ≡ 0 → NoneDue cs) → T (not d) × NoneDue cs
    go true f g = absurd (omega (arith, ltb→lt 0 c.number (and_both (ltb 0 c.number) (numbered cs) h).0))
    go false f g = (tt, g f)

none_first : (cs : List Case) → NoneDue cs → first cs ≡ 0
unfolding first
none_first [] h = refl
none_first (c ∷ cs) h = go c.due h.0 (none_first cs h.1)
  where
    go : (d : Bool) → T (not d) → first cs ≡ 0 → cond d c.number (first cs) ≡ 0
    go true t f = absurd t
    go false t f = f

not_not : (b : Bool) → T (not (not b)) → T b
not_not true t = tt
not_not false t = t

-- a row that is due where a test fails
not_due : (b : Bool) → T b → T (not (not b))
not_due true t = tt
not_due false t = t

-- the budget is in its range
pub budget_range : (r : Record) (words : ℕ) → search_refusal r words ≡ 0 → (1 ≤ r.budget) × (r.budget ≤ 1_000_000)
unfolding search_refusal
budget_range r words e = (leb→le 1 r.budget both.0, leb→le r.budget 1_000_000 both.1)
  where
    cases : List Case
    cases = record_cases r ++ (record { number = 7; due = not (is_queue words) } ∷ [])

    none : NoneDue cases
    none = first_none cases tt e

    both : T (leb 1 r.budget) × T (leb r.budget 1_000_000)
    both = and_both (leb 1 r.budget) (leb r.budget 1_000_000) (not_not (is_budget r.budget) none.1.1.1.1.1.0)

accepted_budget : (r : Record) (words : ℕ) → search_refusal r words ≡ 0 → 0 < r.budget
accepted_budget r words e = omega (arith, (budget_range r words e).0)

-- where a record is accepted, so is one with a larger budget and more words within their ranges
pub accepted_more : (r : Record) (words budget words' : ℕ) → Raised r words budget words' → search_refusal r words ≡ 0 → search_refusal (with_budget r budget) words' ≡ 0
unfolding search_refusal
accepted_more r words budget words' R e =
    none_first (record_cases (with_budget r budget) ++ (record { number = 7; due = not (is_queue words') } ∷ []))
    (none.0, (none.1.0, (none.1.1.0, (none.1.1.1.0, (none.1.1.1.1.0, (six, (none.1.1.1.1.1.1.0, (seven, tt))))))))
  where
    cases : List Case
    cases = record_cases r ++ (record { number = 7; due = not (is_queue words) } ∷ [])

    none : NoneDue cases
    none = first_none cases tt e

    raised : (low high n n' : ℕ) → T (not (not (between low high n))) → n ≤ n' → n' ≤ high → T (not (not (between low high n')))
    raised low high n n' t up most =
        let h : low ≤ n = leb→le low n (and_both (leb low n) (leb n high) (not_not (between low high n) t)).0 in
        not_due (between low high n') (and_intro (leb low n') (leb n' high) (le→leb low n' (le_trans h up)) (le→leb n' high most))

    six : T (not (not (is_budget budget)))
    six = raised 1 1_000_000 r.budget budget none.1.1.1.1.1.0 R.budget_up R.budget_most

    seven : T (not (not (is_queue words')))
    seven = raised 2 1_048_576 words words' none.1.1.1.1.1.1.1.0 R.words_up R.words_most

-- ---- what an accepted search answers is kept; `Kept` of a refusal is absurd, so it is an answer
pub record_kernel : (r : Record) (words : ℕ) → HasKernel (query r words)
record_kernel r words =
    record {
      kernel = kernel_of (is_vertex_face r) (sided r);
      same = λ axis q a b c. gap_kernel (sided r) axis q a b c (is_vertex_face r);
    }

pub accepted_kept : (r : Record) (words : ℕ) → search_refusal r words ≡ 0 → Kept (query r words) (run (query r words))
accepted_kept r words e = run_kept (query r words) (record_kernel r words) (editions_deep (eqb r.edition 3)) (accepted_budget r words e)

-- 61 levels are enough: an accepted search is never cut off
pub run_ended : (r : Record) (words n : ℕ) → search_refusal r words ≡ 0 → run (query r words) ≡ Refused n → ⊥
run_ended r words n e f = subst (Kept (query r words)) f (accepted_kept r words e)
