-- The numbers that come back: 16's table with 14 before or behind it, and the file's own refusals before both. Assumes nothing.
use Prim.Native.Nat.{ℕ, ◌≤◌, ◌<◌}
use mathlib.Core.Path.{◌≡◌, refl, sym, ◌∙◌, subst}
use mathlib.Core.Bool.{Bool, true, false, cond, not, ◌&&◌, ◌||◌}
use mathlib.Core.List.{List, [], ◌∷◌, ◌++◌}
use borrow.Author.Tests.{lt-ltb, le-ltb, ne_eqb}
use lib.Dec.{ltb, eqb}
use lib.ListN.{length}
use Rattle.std.specs.Prelude.{Result, Ok, Err}
use Rattle.std.specs.Result.{is_ok}
use Rattle.rules.specs.declared.Refusal.{Refusal}
use Rattle.rules.specs.declared.Told.{Told}
use Rattle.rules.specs.Answers.{has_moment}
use Rattle.rules.specs.Refusals.{Case, number_of, refusal_in, first}
use Rattle.rules.specs.QueryFile.{record_count, place_in, open_refusal, index, space}
use Rattle.rules.specs.AnswerFile.{told_at, answer_form, is_refused, no_moment, word_cases, word_refusal}
use Rattle.refusals.specs.Cases.{refused_before, refused_behind}
use Rattle.refusals.specs.Numbered.{not_zero}
use Rattle.queries.specs.Opening.{refused_first, opens_first}
use Rattle.answers.specs.Walk.{short}
use Rattle.shift_log.specs.Laws.{skip}
use Rattle.shift_log.specs.Calls.{told_in, writes_refusal, reads_refusal, Reads, ReadsAt}

-- a result is no refusal where its number is 0
pub ok_is : {T : Type 0} (r : Result T Refusal) → is_ok r ≡ eqb (refusal_in r) 0
ok_is (Ok x) = refl
ok_is (Err r) = sym (ne_eqb (number_of r) 0 (not_zero r))

-- a row of two tests is two rows
either : (a b : Bool) (n rest : ℕ) → cond (a || b) n rest ≡ cond a n (cond b n rest)
either true b n rest = refl
either false b n rest = refl

-- 16's rows as one
pub any_row : (a : Told) {wrong : Bool}
    → (ltb 5 a.word
    || (ltb 1_048_575 a.t || ltb 1_048_575 a.u || ltb 1_048_575 a.v)
    || not (is_refused a) && (eqb a.count 0 || ltb 1_000_000 a.count)
    || is_refused a && eqb a.number 0
    || not (has_moment a) && not (no_moment a)
    || is_refused a && not (eqb a.count 0)
    || not (is_refused a) && not (eqb a.number 0)) ≡ wrong
    → cond wrong 16 0 ≡ word_refusal a
unfolding word_refusal first
any_row a e = rw (← e) (simp either)

-- 14, where the last row stands alone
module _ (m n : ℕ) where
  pub too_few : m < n → 14 ≡ first (record { number = 14; due = ltb m n } ∷ [])
  unfolding first
  too_few h = rw (lt-ltb m n h)

  pub enough : n ≤ m → 0 ≡ first (record { number = 14; due = ltb m n } ∷ [])
  unfolding first
  enough h = rw (le-ltb m n h)

-- 16's table before a row
module _ (a : Told) (row : List Case) where
  pub wrong_first : (r : Refusal) → number_of r ≡ word_refusal a → number_of r ≡ first (word_cases a ++ row)
  unfolding word_refusal
  wrong_first r e = refused_before r (word_cases a) row tt e

  pub right_then : 0 ≡ word_refusal a → first row ≡ first (word_cases a ++ row)
  unfolding word_refusal
  right_then e = refused_behind (word_cases a) row tt e

-- ---- writing
module _ (out : List ℕ) (at : ℕ) (numbers : List ℕ) where
  pub writes_short : length numbers < 8 → 14 ≡ writes_refusal out at numbers
  unfolding writes_refusal first
  writes_short h = rw (lt-ltb (length numbers) 8 h)

  pub writes_is : 8 ≤ length numbers → first (word_cases (told_in numbers) ++ (space out at 32 ∷ [])) ≡ writes_refusal out at numbers
  unfolding writes_refusal first
  writes_is h = rw (le-ltb (length numbers) 8 h)

-- ---- reading
module _ (s : List ℕ) (n : ℕ) (out : List ℕ) where
  pub reads_refused : (k : ℕ) → open_refusal answer_form s ≡ k → (k ≡ 0 → ⊥) → k ≡ reads_refusal s n out
  unfolding reads_refusal
  reads_refused k e h = sym (refused_first answer_form s _ k e h)

  behind : List Case
  behind = word_cases (told_at s (place_in answer_form s n)) ++ (short out 8 ∷ [])

  pub reads_index : open_refusal answer_form s ≡ 0 → record_count s ≤ n → 13 ≡ reads_refusal s n out
  unfolding reads_refusal first behind
  reads_index e h = sym (opens_first answer_form s (index s n ∷ behind) e ∙ rw (le-ltb n (record_count s) h))

  reads_is : open_refusal answer_form s ≡ 0 → n < record_count s → reads_refusal s n out ≡ first behind
  unfolding reads_refusal behind
  reads_is e h = opens_first answer_form s (index s n ∷ behind) e ∙ skip 13 (ltb n (record_count s)) behind (lt-ltb n (record_count s) h)

  pub reads_there : {at : ℕ} {out' : List ℕ} {number : ℕ} → open_refusal answer_form s ≡ 0 → n < record_count s → at ≡ place_in answer_form s n → ReadsAt s at out out' number → Reads s n out out' number
  unfolding behind
  reads_there {at} {out'} {number} e h p r =
      let q = subst (λ (k : ℕ). ReadsAt s k out out' number) p r in
      record { says = q.says ∙ sym (reads_is e h); leaves = q.leaves }
