-- What the definitions of the page promise.
--     long, opened, refused    the refusal of an input: by its length, by what it opens to, by an answer that reading refuses
--     told_text                the text of an input that is not refused; `refused_text_lem` of one that is
--     retold_once              no second answer and no second buffer fits what the page promises
-- Assumes nothing.
use Rattle.std.specs.Prelude.{ℕ, ◌≤◌, ◌<◌, ◌≡◌, Bool, not, List, [], ◌∷◌, Option, length}
use Rattle.std.proofs.Math.Path.{sym, ap}
use Rattle.std.proofs.Common.{◌∙◌, lt-ltb, le-ltb}
use Rattle.std.proofs.Math.Bool.{cond}
use Rattle.rules.specs.Refusals.{Case, first}
use Rattle.rules.specs.QueryFile.{record_count, place_in, open_refusal}
use Rattle.rules.specs.AnswerFile.{answer_form}
use Rattle.queries.specs.Opening.{refused_first, opens_first}
use Rattle.shift_log.specs.Calls.{are_taken}
use Rattle.text.specs.Text.{rows, file_text, refused_text}
use Rattle.text.specs.Laws.{printed_once}
use Rattle.page.specs.Page.{page_unless}
use Rattle.page.proofs.Paging.{refused_page}
use Rattle.retold.specs.Page.{tell_cases, tell_refusal, tell_told, tell_text, Retold}

module _ (log : List ℕ) where
  -- ---- the input's refusal
  pub long : 262144 < length log → tell_refusal log ≡ 15
  unfolding tell_refusal first
  long h = rw (lt-ltb 262144 (length log) h)

  short : length log ≤ 262144 → tell_refusal log ≡ first (tell_cases log)
  unfolding tell_refusal first
  short h = rw (le-ltb 262144 (length log) h)

  pub refused : (k : ℕ) → length log ≤ 262144 → open_refusal answer_form log ≡ k → (k ≡ 0 → ⊥) → tell_refusal log ≡ k
  refused k h e n = short h ∙ refused_first answer_form log _ k e n

  row : Bool → List Case
  row fine = record { number = 16; due = not fine } ∷ []

  pub opened : (fine : Bool) → length log ≤ 262144 → open_refusal answer_form log ≡ 0 → are_taken log (place_in answer_form log 0) (record_count log) ≡ fine → tell_refusal log ≡ cond (not fine) 16 0
  unfolding first row
  opened fine h e f = short h ∙ opens_first answer_form log (row (are_taken log (place_in answer_form log 0) (record_count log))) e ∙ ap (λ (b : Bool). cond (not b) 16 0) f

  -- ---- its text
  page_of : {k : ℕ} → tell_refusal log ≡ k → tell_text log ≡ page_unless k (file_text (rows (record_count log) (tell_told log)))
  unfolding tell_text
  page_of e = ap (λ (k : ℕ). page_unless k (file_text (rows (record_count log) (tell_told log)))) e

  pub refused_text_lem : {k : ℕ} → tell_refusal log ≡ k → (k ≡ 0 → ⊥) → refused_text k ≡ tell_text log
  refused_text_lem e n = sym (page_of e ∙ refused_page _ _ n)

  pub told_text : tell_refusal log ≡ 0 → file_text (rows (record_count log) (tell_told log)) ≡ tell_text log
  unfolding page_unless
  told_text e = sym (page_of e)

pub retold_once : (log : List ℕ) {out out' out'' : List ℕ} {r r' : Option ℕ} → Retold log out out' r → Retold log out out'' r' → (r ≡ r') × (out' ≡ out'')
retold_once log p q = printed_once p q
