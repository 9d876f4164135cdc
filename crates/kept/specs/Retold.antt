-- `keep FILE | tell` prints what `sweep FILE` prints: of every query file that `sweep` does not refuse. (`keep` writes nothing of one that it refuses.)
--     own_taken       reading refuses no answer of our own log
--     own_told        what is told of it are the numbers that `sweep` prints
--     retold_same     so the two texts are the same bytes
-- Assumes nothing but that a byte is one (`Bytes`).
use Rattle.std.specs.Prelude.{ℕ, zero, suc, ◌+◌, ◌*◌, ◌≤◌, ◌≡◌, refl, Bool, true, ◌&&◌, List, ltb, length}
use Rattle.std.proofs.Math.Path.{sym, ap}
use Rattle.std.proofs.Common.{◌∙◌, arith, eq-eqb, length-append}
use Rattle.rules.specs.QueryFile.{joined, read_from, record_size, record_at, edition_of, file_form, record_count, place_in, place_of, open_cases, open_refusal, trailer_bytes}
use Rattle.rules.specs.AnswerFile.{Entry, told_at, entry_at, answer_form, word_refusal}
use Rattle.refusals.specs.Cases.{not_due}
use Rattle.little.specs.Word.{Bytes}
use Rattle.queries.specs.Opening.{Holds, opens, opened_records}
use Rattle.queries.specs.Files.{length_trailer}
use Rattle.answers.specs.Eight.{eight}
use Rattle.answers.specs.Walk.{tells_by, tells_all}
use Rattle.answers.specs.Walking.{length_told}
use Rattle.shift_log.specs.Calls.{bytes_of, log_bytes, are_taken}
use Rattle.shift_log.proofs.Logging.{long}
use Rattle.text.specs.Text.{rows, file_text}
use Rattle.page.specs.Page.{sweep_refusal, sweep_told, page_unless, sweep_text}
use Rattle.retold.specs.Page.{tell_told, tell_text}
use Rattle.retold.specs.Laws.{opened, told_text}
use Rattle.promise.proofs.Log.{can_be_written}
use Rattle.kept.specs.Log.{answers_to, entries_from, joined_map, own_opens, own_reads}

-- ---- reading refuses none
taken_from : (s log : List ℕ) (words n edition at to : ℕ) → read_from entry_at 32 log to n ≡ entries_from edition s words n at → are_taken log to n ≡ true
unfolding are_taken read_from
taken_from s log words zero edition at to h = refl
taken_from s log words (suc n) edition at to h =
    let r = record_at edition s at in
    let one : entry_at log to ≡ answers_to words r = cc in
    let more : read_from entry_at 32 log (to + 32) n ≡ entries_from edition s words n (at + record_size edition) = cc in
    let fine : word_refusal (told_at log to) ≡ 0 = ap (λ (e : Entry). word_refusal e.told) one ∙ can_be_written r words in
    ap (λ (b : Bool). b && are_taken log (to + 32) n) (eq-eqb (word_refusal (told_at log to)) 0 fine) ∙ taken_from s log words n edition (at + record_size edition) (to + 32) more

-- a file that `sweep` does not refuse opens
sweep_opens : (s : List ℕ) → sweep_refusal s ≡ 0 → open_refusal (file_form s) s ≡ 0
unfolding sweep_refusal open_refusal
sweep_opens s e = (not_due 14 (ltb 65_536 (length s)) (open_cases (file_form s) s) e).1

module _ (s : List ℕ) (b : Bytes s) (words : ℕ) (e : open_refusal (file_form s) s ≡ 0) where
  log : List ℕ
  log = log_bytes s words

  holds : Holds answer_form log 1 0 (record_count s)
  unfolding log
  holds = opened_records answer_form (log_bytes s words) (record { edition = 1; first = 0; count = record_count s }) (own_opens s b words e)

  start : place_in answer_form log 0 ≡ 0
  start = omega (arith, holds.starts)

  pub own_taken : are_taken (log_bytes s words) (place_in answer_form (log_bytes s words) 0) (record_count (log_bytes s words)) ≡ true
  unfolding log
  own_taken = (λ i. are_taken (log_bytes s words) (start i) (sym holds.counts i)) ∙ taken_from s (log_bytes s words) words (record_count s) (edition_of s) (place_of s 0) 0 (own_reads s b words e)

  -- eight numbers of an entry
  numbers : Entry → List ℕ
  numbers x = eight x.id x.told

  pub own_told : tell_told (log_bytes s words) ≡ tells_all eight (edition_of s) s words (record_count s) (place_of s 0)
  unfolding log numbers tells_by
  own_told =
      (λ i. joined numbers (read_from entry_at 32 (log_bytes s words) (start i) (sym holds.counts i)))
      ∙ ap (joined numbers) (own_reads s b words e)
      ∙ joined_map numbers (answers_to words) (read_from (record_at (edition_of s)) (record_size (edition_of s)) s (place_of s 0) (record_count s))

  pub own_count : record_count (log_bytes s words) ≡ record_count s
  unfolding log
  own_count = sym holds.counts

  pub own_opened : open_refusal answer_form (log_bytes s words) ≡ 0
  unfolding log
  own_opened = holds.none

  pub own_short : length (log_bytes s words) ≤ 262144
  own_short =
      let all = tells_all bytes_of (edition_of s) s words (record_count s) (place_of s 0) in
      let n : length all ≡ 32 * record_count s = length_told bytes_of 32 long (edition_of s) s words (record_count s) (place_of s 0) in
      let t = length_trailer answer_form (record_count s) refl in
      omega (arith, length-append all (trailer_bytes answer_form (record_count s)), n, t, (opens (file_form s) s e).few)

pub retold_same : (s : List ℕ) → Bytes s → sweep_refusal s ≡ 0 → tell_text (log_bytes s 4096) ≡ sweep_text s
unfolding sweep_text page_unless
retold_same s b e =
    let o = sweep_opens s e in
    let log = log_bytes s 4096 in
    let text : List ℕ = file_text (rows (record_count s) (sweep_told s)) in
    sym (told_text log (opened log true (own_short s b 4096 o) (own_opened s b 4096 o) (own_taken s b 4096 o)))
    ∙ (λ i. file_text (rows (own_count s b 4096 o i) (own_told s b 4096 o i)))
    ∙ sym (ap (λ (k : ℕ). page_unless k text) e)
