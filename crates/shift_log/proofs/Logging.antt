-- A whole query file answered into an answer file: its refusals, and the trailer behind what was told. Assumes nothing.
use Prim.Native.Nat.{ℕ, zero, suc, ◌+◌, ◌*◌, ◌≤◌, ◌<◌}
use mathlib.Core.Path.{◌≡◌, refl, sym, ap, ◌∙◌}
use mathlib.Core.List.{List, [], ◌∷◌, ◌++◌}
use native.Mathlib.Omega.{arith}
use lib.ListN.{length}
use borrow.Author.Tests.{lt-ltb, le-ltb}
use Rattle.rules.specs.declared.Form.{Form}
use Rattle.rules.specs.declared.Told.{Told}
use Rattle.rules.specs.Refusals.{first}
use Rattle.rules.specs.QueryFile.{word_bytes, file_form, open_refusal, put, trailer_bytes, record_count}
use Rattle.rules.specs.AnswerFile.{entry_bytes, answer_form}
use Rattle.little.specs.Put.{one_more}
use Rattle.queries.specs.Opening.{Holds, refused_first, opens_first}
use Rattle.answers.specs.Walk.{short, tells_all, queue_from}
use Rattle.answers.specs.Walking.{length_told, told_place, queue_place}
use Rattle.answers.specs.Doing.{answers}
use Rattle.shift_log.specs.Calls.{bytes_of, log_refusal, Logs, size_unless, log_size}

-- an answer takes 32 bytes
pub long : (id : ℕ) (a : Told) → length (bytes_of id a) ≡ 32
unfolding entry_bytes word_bytes
long id a = refl

module _ (s out : List ℕ) where
  pub log_refused : (k : ℕ) → open_refusal (file_form s) s ≡ k → (k ≡ 0 → ⊥) → k ≡ log_refusal s out
  unfolding log_refusal
  log_refused k e h = sym (refused_first (file_form s) s _ k e h)

  pub log_short : open_refusal (file_form s) s ≡ 0 → length out < 32 * record_count s + 16 → 14 ≡ log_refusal s out
  unfolding log_refusal first
  log_short e h = sym (opens_first (file_form s) s (short out (32 * record_count s + 16) ∷ []) e ∙ rw (lt-ltb (length out) (32 * record_count s + 16) h))

  pub log_good : open_refusal (file_form s) s ≡ 0 → 32 * record_count s + 16 ≤ length out → 0 ≡ log_refusal s out
  unfolding log_refusal first
  log_good e h = sym (opens_first (file_form s) s (short out (32 * record_count s + 16) ∷ []) e ∙ rw (le-ltb (length out) (32 * record_count s + 16) h))

-- the records' answers, and the trailer behind them
pub logs : (s queue out : List ℕ) {edition place count : ℕ} {form : Form} {out₁ out₂ queue' : List ℕ}
    → Holds (file_form s) s edition place count
    → 32 * count + 16 ≤ length out
    → form ≡ answer_form
    → out₁ ≡ put out 0 (tells_all bytes_of edition s (length queue) count place)
    → out₂ ≡ put out₁ (32 * count) (trailer_bytes form count)
    → queue' ≡ queue_from edition s count place queue
    → Logs s queue queue' out out₂ 0
logs s queue out {edition} {place} {count} {form} {out₁} {out₂} h room f e₁ e₂ q =
    let bytes = tells_all bytes_of edition s (length queue) count place in
    let n : length bytes ≡ 32 * count = length_told bytes_of 32 long edition s (length queue) count place in
    let all = told_place s h.names h.starts h.counts bytes_of (length queue) in
    answers (log_good s out h.none (omega (arith, h.counts)))
    (one_more out out₁ out₂ 0 (32 * count) bytes (trailer_bytes answer_form count) e₁ (e₂ ∙ ap (λ (x : Form). put out₁ (32 * count) (trailer_bytes x count)) f) (omega arith) (omega arith)
    ∙ (λ i. put out 0 (all i ++ trailer_bytes answer_form (h.counts i))))
    (q ∙ queue_place s h.names h.starts h.counts queue)

-- ---- how many bytes that is
module _ (s : List ℕ) where
  pub refused_size : (k : ℕ) → open_refusal (file_form s) s ≡ k → (k ≡ 0 → ⊥) → 0 ≡ log_size s
  unfolding size_unless
  refused_size zero e h = absurd (h refl)
  refused_size (suc k) e h = rw e

  pub opened_size : {edition place count : ℕ} → Holds (file_form s) s edition place count → 32 * count + 16 ≡ log_size s
  unfolding size_unless
  opened_size h = rw (h.none, h.counts)
