-- Ids compared one by one, as the loop does, and the number of a match. Assumes nothing.
use Prim.Native.Nat.{ℕ, zero, suc, ◌+◌, ◌*◌, ◌≤◌}
use mathlib.Core.Path.{◌≡◌, sym, ap, ◌∙◌}
use mathlib.Core.Bool.{Bool, true, false, cond, not, ◌&&◌, and-true, and_assoc}
use mathlib.Core.List.{List, [], ◌∷◌}
use native.Mathlib.Omega.{arith}
use native.Mathlib.Numerals.{add-one}
use Rattle.std.proofs.Math.Nat.{mul-le-mul_left}
use borrow.Author.Tests.{eq-eqb, ne_eqb}
use lib.Dec.{eqb}
use Rattle.rules.specs.Refusals.{Case, first}
use Rattle.rules.specs.QueryFile.{word, size_by, record_size, edition_of, file_form, record_count, place_in, place_of, open_refusal}
use Rattle.rules.specs.AnswerFile.{answer_form, same_ids, match_refusal}
use Rattle.queries.specs.Sizes.{size_zero, size_suc}
use Rattle.queries.specs.Opening.{Holds, refused_first, opens_first}
use Rattle.shift_log.specs.Calls.{match_rest}

-- one id more at the end
same_more : (size : ℕ) (s : List ℕ) (at : ℕ) (log : List ℕ) (to n : ℕ) → same_ids size s at log to (suc n) ≡ (same_ids size s at log to n && eqb (word s (at + size * n)) (word log (to + 32 * n)))
unfolding same_ids
same_more size s at log to zero =
    let p : at ≡ at + size * 0 = omega (arith, size_zero size) in
    let q : to ≡ to + 32 * 0 = omega arith in
    and-true (eqb (word s at) (word log to)) ∙ (λ i. eqb (word s (p i)) (word log (q i)))
same_more size s at log to (suc n) =
    let p : at + size + size * n ≡ at + size * suc n = omega (arith, size_suc size n) in
    let q : to + 32 + 32 * n ≡ to + 32 * suc n = omega arith in
    let before = same_ids size s (at + size) log (to + 32) n in
    ap (λ (b : Bool). eqb (word s at) (word log to) && b) (same_more size s (at + size) log (to + 32) n)
    ∙ sym (and_assoc (eqb (word s at) (word log to)) before (eqb (word s (at + size + size * n)) (word log (to + 32 + 32 * n))))
    ∙ (λ i. eqb (word s at) (word log to) && before && eqb (word s (p i)) (word log (q i)))

pub one_more : (size : ℕ) (s : List ℕ) (at : ℕ) (log : List ℕ) (to n : ℕ) {x y : ℕ} {all : Bool} → all ≡ same_ids size s at log to n → x ≡ word s (at + size * n) → y ≡ word log (to + 32 * n)
    → (all && eqb x y) ≡ same_ids size s at log to (n + 1)
one_more size s at log to n e ex ey =
    (λ i. e i && eqb (ex i) (ey i)) ∙ sym (same_more size s at log to n) ∙ ap (λ (k : ℕ). same_ids size s at log to k) (sym (add-one n))

-- ---- the number
module _ (size : ℕ) (s : List ℕ) (place n : ℕ) (log : List ℕ) where
  pub rest_refused : (k : ℕ) → open_refusal answer_form log ≡ k → (k ≡ 0 → ⊥) → k ≡ match_rest size s place n log
  unfolding match_rest
  rest_refused k e h = sym (refused_first answer_form log _ k e h)

  row : Bool → List Case
  row agrees = record { number = 17; due = not agrees } ∷ []

  pub rest_is : (agrees : Bool) → open_refusal answer_form log ≡ 0 → (eqb n (record_count log) && same_ids size s (place + 4) log (place_in answer_form log 0) n) ≡ agrees
      → match_rest size s place n log ≡ cond (not agrees) 17 0
  unfolding match_rest first row
  rest_is agrees e f = opens_first answer_form log (row (eqb n (record_count log) && same_ids size s (place + 4) log (place_in answer_form log 0) n)) e ∙ ap (λ (b : Bool). cond (not b) 17 0) f

  module _ {edition to m : ℕ} (h : Holds answer_form log edition to m) where
    pub rest_counts : (n ≡ m → ⊥) → 17 ≡ match_rest size s place n log
    rest_counts k = sym (rest_is false h.none (ap (λ (b : Bool). b && same_ids size s (place + 4) log (place_in answer_form log 0) n) (ne_eqb n (record_count log) (λ e. k (e ∙ sym h.counts)))))

    pub rest_ids : {size' : ℕ} {same : Bool} → n ≡ m → size' ≡ size → same ≡ same_ids size' s (place + 4) log to m → cond (not same) 17 0 ≡ match_rest size s place n log
    rest_ids {size'} {same} e z f =
        let p : to ≡ place_in answer_form log 0 = omega (arith, h.starts) in
        sym (rest_is same h.none
        (ap (λ (b : Bool). b && same_ids size s (place + 4) log (place_in answer_form log 0) n) (eq-eqb n (record_count log) (e ∙ h.counts))
        ∙ sym (f ∙ (λ i. same_ids (z i) s (place + 4) log (p i) (sym e i)))))

-- ---- of a query file that opens
-- fewer records take no more bytes
pub fewer : (first size : ℕ) {m n l : ℕ} → m ≤ n → first + size * n ≤ l → first + size * m ≤ l
fewer first size e h = omega (arith, mul-le-mul_left size e, h)

pub eight_least : (wide : Bool) → 8 ≤ size_by wide
eight_least true = omega arith
eight_least false = omega arith

module _ (s log : List ℕ) where
  pub match_refused : (k : ℕ) → open_refusal (file_form s) s ≡ k → (k ≡ 0 → ⊥) → k ≡ match_refusal s log
  unfolding match_refusal
  match_refused k e h = sym (refused_first (file_form s) s _ k e h)

  pub match_opens : {edition place count : ℕ} → Holds (file_form s) s edition place count → match_rest (record_size edition) s place count log ≡ match_refusal s log
  unfolding match_refusal match_rest
  match_opens {edition} {place} {count} h =
      let start : place ≡ place_of s 0 = h.starts ∙ omega (arith, size_zero (record_size (edition_of s))) in
      (λ i. match_rest (record_size (h.names i)) s (start i) (h.counts i) log) ∙ sym (opens_first (file_form s) s _ h.none)
