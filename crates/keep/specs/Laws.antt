-- What the definitions of `keep` promise.
--     refuses, keeps    what a refused input does, and one that is answered, by what the log's writer says
--     refuses_long      so an input over 65,536 bytes is refused with 15
--     kept_fits         what is written lies in the buffer
--     keeps_once        no second answer and no second buffer fits; said_once, by its number
-- Assumes nothing.
use Rattle.std.specs.Prelude.{ℕ, zero, suc, ◌+◌, ◌*◌, ◌<◌, ◌≤◌, ◌≡◌, refl, List, Result, Ok, Err, length}
use Rattle.std.proofs.Common.{sym, ap, ◌∙◌, arith, length-append}
use Rattle.rules.specs.QueryFile.{is_wide, edition_of, file_form, record_count, place_of, open_refusal, trailer_bytes, put, put_unless}
use Rattle.rules.specs.AnswerFile.{answer_form}
use Rattle.rules.specs.declared.Refusal.{Refusal}
use Rattle.rules.specs.Refusals.{numbered}
use Rattle.refusals.specs.Numbered.{same_numbered}
use Rattle.queries.specs.Sizes.{short_size}
use Rattle.queries.specs.Opening.{opens}
use Rattle.queries.specs.Files.{length_trailer}
use Rattle.answers.specs.Walk.{tells_all}
use Rattle.answers.specs.Walking.{length_told}
use Rattle.shift_log.specs.Calls.{bytes_of, log_refusal, log_bytes, size_unless, log_size, Logs}
use Rattle.shift_log.proofs.Logging.{long, log_refused, log_good}
use Rattle.page.specs.Page.{sweep_refusal}
use Rattle.page.specs.Laws.{long as too_long, short}
use Rattle.keep.specs.Keeping.{logged_as, Keeps}

pub refuses : (s out : List ℕ) (k : ℕ) → sweep_refusal s ≡ k → (k ≡ 0 → ⊥) → Keeps s out out (Err k)
unfolding logged_as put_unless
refuses s out zero e h = absurd (h refl)
refuses s out (suc k) e h = record { says = rw e; leaves = rw e }

pub refuses_long : (s out : List ℕ) → 65536 < length s → Keeps s out out (Err 15)
refuses_long s out h = refuses s out 15 (too_long s h) (λ z. omega arith)

module _ (s : List ℕ) (most : length s ≤ 65536) where
  -- 65,536 bytes hold at most 564 records, and 18,064 bytes their answers
  room_for : open_refusal (file_form s) s ≡ 0 → 32 * record_count s + 16 ≤ 18064
  room_for e =
      let o = opens (file_form s) s e in
      omega (arith, short_size (is_wide (edition_of s)) (record_count s) (omega (arith, o.whole, o.room, o.long)))

  -- so the log's writer refuses what `sweep` refuses
  same_refusal : (out : List ℕ) → 18064 ≤ length out → log_refusal s out ≡ sweep_refusal s
  same_refusal out room = go (open_refusal (file_form s) s) refl ∙ sym (short s most)
    where
      go : (k : ℕ) → open_refusal (file_form s) s ≡ k → log_refusal s out ≡ open_refusal (file_form s) s
      go zero e = sym (log_good s out e (omega (arith, room_for e))) ∙ sym e
      go (suc k) e = sym (log_refused s out (suc k) e (λ z. omega arith)) ∙ sym e

  log_long : open_refusal (file_form s) s ≡ 0 → log_size s ≡ length (log_bytes s 4096)
  unfolding size_unless
  log_long e =
      let all = tells_all bytes_of (edition_of s) s 4096 (record_count s) (place_of s 0) in
      let n : length all ≡ 32 * record_count s = length_told bytes_of 32 long (edition_of s) s 4096 (record_count s) (place_of s 0) in
      rw e (sym (length-append all (trailer_bytes answer_form (record_count s)) ∙ omega (arith, n, length_trailer answer_form (record_count s) refl)))

  module _ {queue queue' out out' : List ℕ} {number : ℕ} (room : 18064 ≤ length out) (h : Logs s queue queue' out out' number) where
    pub stays : (number ≡ 0 → ⊥) → Keeps s out out' (Err number)
    unfolding logged_as put_unless
    stays n = go number (h.says ∙ same_refusal out room) h.told n
      where
        go : (k : ℕ) → k ≡ sweep_refusal s → out' ≡ put_unless k out 0 (log_bytes s (length queue)) → (k ≡ 0 → ⊥) → Keeps s out out' (Err k)
        go zero e f n = absurd (n refl)
        go (suc k) e f n = record { says = rw (sym e); leaves = rw (sym e) f }

    pub keeps : {size : ℕ} → length queue ≡ 4096 → number ≡ 0 → size ≡ log_size s → Keeps s out out' (Ok size)
    unfolding logged_as put_unless
    keeps words z size =
        let none : sweep_refusal s ≡ 0 = sym (h.says ∙ same_refusal out room) ∙ z in
        let opened : open_refusal (file_form s) s ≡ 0 = sym (short s most) ∙ none in
        record {
          says = rw none (ap Ok (size ∙ log_long opened));
          leaves = rw none (h.told ∙ (λ i. put_unless (z i) out 0 (log_bytes s (words i))));
        }

-- ---- what is written
fits_put : (out bytes : List ℕ) → length bytes ≤ length (put out 0 bytes)
unfolding put
fits_put out bytes = simp length-append (omega arith)

fits_if : (k n : ℕ) (out out' bytes : List ℕ) → Ok n ≡ logged_as k (length bytes) → out' ≡ put_unless k out 0 bytes → length out' ≡ length out → n ≤ length out
unfolding logged_as put_unless
fits_if zero n out out' bytes e f kept = let l : n ≡ length bytes = cc in omega (arith, l, fits_put out bytes, ap length f, kept)
fits_if (suc k) n out out' bytes e f kept = let z : ◌≡◌ {A = ℕ} 0 1 = cc in absurd (omega arith)

pub kept_fits : {s out out' : List ℕ} {a : Result ℕ ℕ} {n : ℕ} → Keeps s out out' a → a ≡ Ok n → length out' ≡ length out → n ≤ length out
kept_fits {s} {out} {out'} h e kept = fits_if (sweep_refusal s) _ out out' (log_bytes s 4096) (sym e ∙ h.says) h.leaves kept

pub said_once : {s out out' out'' : List ℕ} {a a' : Result ℕ ℕ} → Keeps s out out' a → Keeps s out out'' a' → (a ≡ a') × (out' ≡ out'')
said_once p q = (p.says ∙ sym q.says, p.leaves ∙ sym q.leaves)

pub keeps_once : {s out out' out'' : List ℕ} {a a' : Result ℕ Refusal} → Keeps s out out' (numbered a) → Keeps s out out'' (numbered a') → (a ≡ a') × (out' ≡ out'')
keeps_once {a = a} {a' = a'} p q = let once = said_once p q in (same_numbered a a' once.0, once.1)
