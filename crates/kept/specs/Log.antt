-- `taperhive_log`: the answer file that it writes opens, reads back as what the written search answers, and matches its query file; by the calls' contracts alone.
--     entries_of       the ids of a query file's records, with what the written search answers
--     own_file        the bytes that are written are the answer file of these
--     own_opens       it opens to exactly so many; `own_reads`: read back they are these
--     own_answer      reading answer k gives the numbers of record k's answer: never 16
--     own_matches     17 is not given
--     log_kept        so of the buffer that `taperhive_log` leaves where it returns 0
-- Of every query file that opens. Assumes nothing but that a byte is one (`Bytes`).
use Prim.Native.Nat.{ℕ, zero, suc, ◌+◌, ◌*◌, ◌≤◌, ◌<◌}
use Rattle.std.specs.Prelude.{◌≡◌, Bool, ◌&&◌, length, take, drop}
use Rattle.std.proofs.Math.Path.{refl, sym, ap, subst}
use Rattle.std.proofs.Common.{◌∙◌, eq-eqb, le-ltb, take_at}
use Rattle.std.proofs.Math.Bool.{true, cond, not}
use mathlib.Core.List.{List, [], ◌∷◌, ◌++◌, map}
use native.Mathlib.Omega.{arith}
use Rattle.std.proofs.Math.ListN.{get_or}
use Rattle.rules.specs.declared.Record.{Record}
use Rattle.rules.specs.declared.Told.{Told}
use Rattle.rules.specs.Answers.{told}
use Rattle.rules.specs.Refusals.{Case, first}
use Rattle.rules.specs.Search.{search}
use Rattle.rules.specs.QueryFile.{joined, read_from, form_bytes, word, records, record_size, record_at, record_by, edition_of, file_form, record_count, place_in, place_of, open_cases, open_refusal, opened, trailer_bytes, put, put_unless}
use Rattle.rules.specs.AnswerFile.{Entry, entry_at, entry_bytes, answer_form, answer_bytes, word_cases, word_refusal, same_ids, matches, match_refusal}
use Rattle.refusals.specs.Cases.{first_then}
use Rattle.little.specs.Word.{Bytes, word_lt}
use Rattle.queries.specs.Sizes.{size_zero, size_suc}
use Rattle.queries.specs.Layout.{All, length_read}
use Rattle.queries.specs.Opening.{Holds, opens, opens_first, refused_first, opened_records}
use Rattle.answers.specs.Eight.{eight}
use Rattle.answers.specs.Walk.{tells_by, tells, short}
use Rattle.shift_log.specs.Calls.{log_refusal, log_bytes, Logs, Reads}
use Rattle.shift_log.specs.Entries.{Held}
use Rattle.shift_log.specs.Laws.{file_opens, file_read, reads_file}
use Rattle.promise.proofs.Log.{can_be_written}
use Rattle.kept.specs.Fits.{search_held}

-- what is written for a record that is searched with so many words
abbrev pub answers_to : ℕ → Record → Entry
answers_to words r = record { id = r.id; told = told (search r words) }

-- of n records of an edition, the first at a place
abbrev pub entries_from : ℕ → List ℕ → ℕ → ℕ → ℕ → List Entry
entries_from edition s words n at = map (answers_to words) (read_from (record_at edition) (record_size edition) s at n)

abbrev pub entries_of : List ℕ → ℕ → List Entry
entries_of s words = entries_from (edition_of s) s words (record_count s) (place_of s 0)

-- ---- lists of them
pub joined_map : {R E : Type 0} (bytes : E → List ℕ) (f : R → E) (rs : List R) → joined bytes (map f rs) ≡ joined (λ (r : R). bytes (f r)) rs
unfolding joined
joined_map bytes f [] = refl
joined_map bytes f (r ∷ rs) = ap (λ (l : List ℕ). bytes (f r) ++ l) (joined_map bytes f rs)

length_map : {R E : Type 0} (f : R → E) (rs : List R) → length (map f rs) ≡ length rs
length_map f [] = refl
length_map f (r ∷ rs) = ap suc (length_map f rs)

held_from : (s : List ℕ) → Bytes s → (words n edition at : ℕ) → All Held (entries_from edition s words n at)
unfolding read_from record_by
held_from s b words zero edition at = tt
held_from s b words (suc n) edition at = (search_held (record_at edition s at) words (word_lt s b (at + 4)), held_from s b words n edition (at + record_size edition))

-- an answer that 16 does not refuse, with room for its eight numbers
not_refused : (a : Told) (out : List ℕ) → word_refusal a ≡ 0 → 8 ≤ length out → first (word_cases a ++ (short out 8 ∷ [])) ≡ 0
unfolding word_refusal first
not_refused a out e room = first_then (word_cases a) (short out 8 ∷ []) tt ∙ rw (e, le-ltb (length out) 8 room)

-- ---- the answer file of a query file that opens
module _ (s : List ℕ) (b : Bytes s) (words : ℕ) (e : open_refusal (file_form s) s ≡ 0) where
  count : length (entries_of s words) ≡ record_count s
  count = length_map (answers_to words) (read_from (record_at (edition_of s)) (record_size (edition_of s)) s (place_of s 0) (record_count s)) ∙ length_read (record_at (edition_of s)) (record_size (edition_of s)) s (record_count s) (place_of s 0)

  pub own_held : All Held (entries_of s words)
  own_held = held_from s b words (record_count s) (edition_of s) (place_of s 0)

  pub own_few : length (entries_of s words) ≤ 4096
  own_few = omega (arith, (opens (file_form s) s e).few, count)

  pub own_file : log_bytes s words ≡ answer_bytes [] (entries_of s words)
  unfolding form_bytes tells_by
  own_file =
      let rs = read_from (record_at (edition_of s)) (record_size (edition_of s)) s (place_of s 0) (record_count s) in
      λ i. sym (joined_map entry_bytes (answers_to words) rs) i ++ trailer_bytes answer_form (sym count i)

  pub own_opens : opened answer_form (log_bytes s words) ≡ records 1 0 (record_count s)
  own_opens = ap (opened answer_form) own_file ∙ file_opens [] (entries_of s words) own_held own_few ∙ ap (records 1 0) count

  holds : Holds answer_form (log_bytes s words) 1 0 (record_count s)
  holds = opened_records answer_form (log_bytes s words) (record { edition = 1; first = 0; count = record_count s }) own_opens

  pub own_reads : read_from entry_at 32 (log_bytes s words) 0 (record_count s) ≡ entries_of s words
  own_reads = (λ i. read_from entry_at 32 (own_file i) 0 (sym count i)) ∙ file_read [] (entries_of s words) own_held

  -- ---- the ids
  same_from : (log : List ℕ) (n edition at to : ℕ) → read_from entry_at 32 log to n ≡ entries_from edition s words n at → same_ids (record_size edition) s (at + 4) log to n ≡ true
  unfolding same_ids read_from record_by
  same_from log zero edition at to h = refl
  same_from log (suc n) edition at to h =
      let one : entry_at log to ≡ answers_to words (record_at edition s at) = cc in
      let more : read_from entry_at 32 log (to + 32) n ≡ entries_from edition s words n (at + record_size edition) = cc in
      let id : word s (at + 4) ≡ word log to = sym (ap (λ (x : Entry). x.id) one) in
      let p : at + record_size edition + 4 ≡ at + 4 + record_size edition = omega arith in
      ap (λ (b : Bool). b && same_ids (record_size edition) s (at + 4 + record_size edition) log (to + 32) n) (eq-eqb (word s (at + 4)) (word log to) id)
      ∙ ap (λ (k : ℕ). same_ids (record_size edition) s k log (to + 32) n) (sym p)
      ∙ same_from log n edition (at + record_size edition) (to + 32) more

  pub own_matches : match_refusal s (log_bytes s words) ≡ 0
  unfolding match_refusal first
  own_matches =
      let log = log_bytes s words in
      let start : place_in answer_form log 0 ≡ 0 = omega (arith, holds.starts) in
      let ids : same_ids (record_size (edition_of s)) s (place_of s 0 + 4) log (place_in answer_form log 0) (record_count s) ≡ true =
      ap (λ (k : ℕ). same_ids (record_size (edition_of s)) s (place_of s 0 + 4) log k (record_count s)) start ∙ same_from log (record_count s) (edition_of s) (place_of s 0) 0 own_reads in
      let agrees : matches s log ≡ true =
      ap (λ (b : Bool). b && same_ids (record_size (edition_of s)) s (place_of s 0 + 4) log (place_in answer_form log 0) (record_count s)) (eq-eqb (record_count s) (record_count log) holds.counts) ∙ ids in
      let row : List Case = record { number = 17; due = not (matches s log) } ∷ [] in
      opens_first (file_form s) s (open_cases answer_form log ++ row) e ∙ opens_first answer_form log row holds.none ∙ ap (λ (b : Bool). cond (not b) 17 0) agrees

  -- ---- answer k
  entry_at_lem : (none : Entry) (n k edition at : ℕ) → k < n → get_or (entries_from edition s words n at) k none ≡ answers_to words (record_at edition s (at + record_size edition * k))
  unfolding read_from
  entry_at_lem none zero k edition at l = absurd (omega arith)
  entry_at_lem none (suc n) zero edition at l = let p : at ≡ at + record_size edition * 0 = omega (arith, size_zero (record_size edition)) in ap (λ (m : ℕ). answers_to words (record_at edition s m)) p
  entry_at_lem none (suc n) (suc k) edition at l =
      let p : at + record_size edition + record_size edition * k ≡ at + record_size edition * suc k = omega (arith, size_suc (record_size edition) k) in
      entry_at_lem none n k edition (at + record_size edition) (omega arith) ∙ ap (λ (m : ℕ). answers_to words (record_at edition s m)) p

  pub own_answer : (k : ℕ) (out out' : List ℕ) (number : ℕ) → k < record_count s → 8 ≤ length out → Reads (log_bytes s words) k out out' number
      → (number ≡ 0) × (out' ≡ put out 0 (tells (record_at (edition_of s) s (place_of s k)) words))
  unfolding tells_by put_unless
  own_answer k out out' number l room r =
      let x : Entry = answers_to words (record_at (edition_of s) s (place_of s k)) in
      let p : place_of s 0 + record_size (edition_of s) * k ≡ place_of s k = omega (arith, size_zero (record_size (edition_of s))) in
      let is : get_or (entries_of s words) k x ≡ x = entry_at_lem x (record_count s) k (edition_of s) (place_of s 0) l ∙ ap (λ (m : ℕ). answers_to words (record_at (edition_of s) s m)) p in
      let told_as : Reads (answer_bytes [] (entries_of s words)) k out out' number = subst (λ (f : List ℕ). Reads f k out out' number) own_file r in
      let h = reads_file [] (entries_of s words) own_held own_few x k out out' number told_as (omega (arith, count)) in
      let none : number ≡ 0 = h.says ∙ ap (λ (y : Entry). first (word_cases y.told ++ (short out 8 ∷ []))) is ∙ not_refused x.told out (can_be_written (record_at (edition_of s) s (place_of s k)) words) room in
      (none, h.leaves ∙ (λ i. put_unless (none i) out 0 (eight (is i).id (is i).told)))

-- ---- what `taperhive_log` leaves, where it returns 0: from the first byte on an answer file of the written search's answers, which matches

-- a call that is not refused was asked of a file that opens
log_opens : (s out : List ℕ) → 0 ≡ log_refusal s out → open_refusal (file_form s) s ≡ 0
unfolding log_refusal
log_opens s out e = go (open_refusal (file_form s) s) refl
  where
    go : (k : ℕ) → open_refusal (file_form s) s ≡ k → k ≡ 0
    go zero f = refl
    go (suc k) f = sym (refused_first (file_form s) s (short out (32 * record_count s + 16) ∷ []) (suc k) f (λ z. omega arith)) ∙ sym e

-- the bytes put in from the first place on
front_put : (out bytes : List ℕ) → take (length bytes) (put out 0 bytes) ≡ bytes
unfolding put
front_put out bytes = take_at bytes (drop (0 + length bytes) out) (length bytes) refl

pub log_kept : (s queue queue' out out' : List ℕ) → Bytes s → Logs s queue queue' out out' 0
    → let log : List ℕ = take (length (log_bytes s (length queue))) out' in
    (log ≡ answer_bytes [] (entries_of s (length queue))) × (match_refusal s log ≡ 0)
unfolding put_unless
log_kept s queue queue' out out' b h =
    let bytes = log_bytes s (length queue) in
    let e = log_opens s out h.says in
    let same : take (length bytes) out' ≡ bytes = ap (take (length bytes)) h.told ∙ front_put out bytes in
    (same ∙ own_file s b (length queue) e, ap (match_refusal s) same ∙ own_matches s b (length queue) e)
