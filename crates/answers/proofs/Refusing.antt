-- Refused or not: the file's own refusals first, then what else there is; and what a question then does. Assumes nothing.
use Prim.Native.Nat.{ℕ, ◌*◌, ◌≤◌, ◌<◌}
use mathlib.Core.Path.{◌≡◌, sym, ap, ◌∙◌}
use mathlib.Core.Bool.{not}
use mathlib.Core.List.{List, [], ◌∷◌}
use borrow.Author.Tests.{lt-ltb, le-ltb}
use lib.Dec.{ltb}
use native.Mathlib.Omega.{arith}
use lib.ListN.{length, set}
use Rattle.rules.specs.declared.Form.{Form}
use Rattle.rules.specs.Refusals.{Case, first}
use Rattle.rules.specs.QueryFile.{file_form, record_count, open_refusal, put, put_unless}
use Rattle.queries.specs.Opening.{refused_first, opens_first}
use Rattle.answers.specs.Walk.{short, Counted, one_refusal, all_refusal, count_refusal}

-- ---- the numbers

module _ (s out : List ℕ) (k : ℕ) (e : open_refusal (file_form s) s ≡ k) (h : k ≡ 0 → ⊥) where
  pub one_refused : (n : ℕ) → k ≡ one_refusal s n out
  unfolding one_refusal
  one_refused n = sym (refused_first (file_form s) s _ k e h)

  pub all_refused : k ≡ all_refusal s out
  unfolding all_refusal
  all_refused = sym (refused_first (file_form s) s _ k e h)

module _ (s out : List ℕ) (e : open_refusal (file_form s) s ≡ 0) where
  rows : ℕ → List Case
  rows n = record { number = 13; due = not (ltb n (record_count s)) } ∷ short out 8 ∷ []

  pub one_index : (n : ℕ) → record_count s ≤ n → 13 ≡ one_refusal s n out
  unfolding one_refusal first rows
  one_index n h = sym (opens_first (file_form s) s (rows n) e ∙ rw (le-ltb n (record_count s) h))

  pub one_short : (n : ℕ) → n < record_count s → length out < 8 → 14 ≡ one_refusal s n out
  unfolding one_refusal first rows
  one_short n h k = sym (opens_first (file_form s) s (rows n) e ∙ rw (lt-ltb n (record_count s) h, lt-ltb (length out) 8 k))

  pub one_good : (n : ℕ) → n < record_count s → 8 ≤ length out → 0 ≡ one_refusal s n out
  unfolding one_refusal first rows
  one_good n h k = sym (opens_first (file_form s) s (rows n) e ∙ rw (lt-ltb n (record_count s) h, le-ltb (length out) 8 k))

  pub all_short : length out < 8 * record_count s → 14 ≡ all_refusal s out
  unfolding all_refusal first
  all_short k = sym (opens_first (file_form s) s (short out (8 * record_count s) ∷ []) e ∙ rw (lt-ltb (length out) (8 * record_count s) k))

  pub all_good : 8 * record_count s ≤ length out → 0 ≡ all_refusal s out
  unfolding all_refusal first
  all_good k = sym (opens_first (file_form s) s (short out (8 * record_count s) ∷ []) e ∙ rw (le-ltb (length out) (8 * record_count s) k))

module _ (form : Form) (s out : List ℕ) where
  pub count_refused : (k : ℕ) → open_refusal form s ≡ k → (k ≡ 0 → ⊥) → k ≡ count_refusal form s out
  unfolding count_refusal
  count_refused k e h = sym (refused_first form s _ k e h)

  pub count_short : open_refusal form s ≡ 0 → length out < 1 → 14 ≡ count_refusal form s out
  unfolding count_refusal first
  count_short e k = sym (opens_first form s (short out 1 ∷ []) e ∙ rw (lt-ltb (length out) 1 k))

  pub count_good : open_refusal form s ≡ 0 → 1 ≤ length out → 0 ≡ count_refusal form s out
  unfolding count_refusal first
  count_good e k = sym (opens_first form s (short out 1 ∷ []) e ∙ rw (le-ltb (length out) 1 k))

-- ---- what is done then

pub counts : (form : Form) (s out : List ℕ) {n : ℕ} → 0 ≡ count_refusal form s out → n ≡ record_count s → 1 ≤ length out → Counted form s out (set out 0 n) 0
unfolding put_unless put
counts form s [] e c h = absurd (omega arith)
counts form s (x ∷ out) e c h = record { says = e; leaves = ap (λ (k : ℕ). k ∷ out) c }
