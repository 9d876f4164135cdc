-- What holds of the answer file: each law is that of every layout, read off for answers.
--     written_read, read_written   an answer put at a place is read there; one read and put there again changes no byte
--     file_read, file_same         a whole file's answers are read back; a file that opens, read and written back, is the same bytes
--     no_two                       no two lists of (id, answer in numbers) give the same bytes, whatever free bytes stand before them
--     no_two_lists                 no two lists of (id, answer) give the same bytes
--     wrote_read                   what a writer wrote from eight numbers is read there
--     reads_file, reads_past       answer k of a file is the k-th of its list, or refused 16 as writing it would be; past the last there is none
-- Assumes nothing.
use Rattle.std.specs.Prelude.{ℕ, ◌+◌, ◌*◌, ◌≤◌, ◌<◌, ◌≡◌, refl, Bool, true, not, List, [], ◌∷◌, ◌++◌, map, ltb, take}
use Rattle.std.proofs.Common.{sym, ◌∙◌, arith, lt-ltb, le-ltb}
use Rattle.std.proofs.Math.Path.{ap}
use Rattle.std.proofs.Math.ListN.{length, get_or}
use Rattle.rules.specs.declared.Answer.{Answer}
use Rattle.rules.specs.Answers.{told}
use Rattle.rules.specs.Refusals.{Case, first}
use Rattle.rules.specs.QueryFile.{read_from, records, opened, record_count, place_in, index, put, put_unless}
use Rattle.rules.specs.AnswerFile.{Entry, told_at, entry_at, entry_bytes, answer_form, answer_bytes, word_cases}
use Rattle.little.specs.Word.{Bytes}
use Rattle.queries.specs.Layout.{All, read_back, write_back}
use Rattle.queries.specs.Opening.{Holds, opened_records, opens_first}
use Rattle.queries.specs.Writing.{Puts}
use Rattle.queries.specs.Files.{formed_opens, formed_read, formed_record, formed_once}
use Rattle.queries.specs.Same.{formed_same}
use Rattle.answers.specs.Eight.{eight}
use Rattle.answers.specs.Walk.{short}
use Rattle.shift_log.specs.Calls.{told_in, Writes, reads_refusal, Reads}
use Rattle.shift_log.specs.Entries.{Held, answer_layout}
use Rattle.shift_log.specs.Words.{answer_of, told_back}

-- ---- one answer
pub written_read : (s : List ℕ) (at : ℕ) (e : Entry) → Held e → at + 32 ≤ length s → entry_at (put s at (entry_bytes e)) at ≡ e
written_read = read_back answer_layout

pub read_written : (s : List ℕ) (at : ℕ) → Bytes s → at + 32 ≤ length s → put s at (entry_bytes (entry_at s at)) ≡ s
read_written = write_back answer_layout

-- ---- whole files
pub file_opens : (free : List ℕ) (es : List Entry) → All Held es → length es ≤ 4096 → opened answer_form (answer_bytes free es) ≡ records 1 (length free) (length es)
file_opens = formed_opens answer_layout

pub file_read : (free : List ℕ) (es : List Entry) → All Held es → read_from entry_at 32 (answer_bytes free es) (length free) (length es) ≡ es
file_read = formed_read answer_layout

pub file_same : (s : List ℕ) (edition place n : ℕ) → Bytes s → opened answer_form s ≡ records edition place n → answer_bytes (take place s) (read_from entry_at 32 s place n) ≡ s
file_same = formed_same answer_layout

pub no_two : (free free' : List ℕ) (es es' : List Entry) → All Held es → All Held es' → length es ≤ 4096 → length es' ≤ 4096 → answer_bytes free es ≡ answer_bytes free' es' → (free ≡ free') × (es ≡ es')
no_two = formed_once answer_layout

-- ---- answers
pub record Noted : Type 0 where
  pub id : ℕ
  pub answer : Answer

abbrev pub noted : Noted → Entry
noted n = record { id = n.id; told = told n.answer }

unnoted : Entry → Noted
unnoted e = record { id = e.id; answer = answer_of e.told }

noted_back : (l : List Noted) → map unnoted (map noted l) ≡ l
unfolding unnoted
noted_back [] = refl
noted_back (n ∷ l) = λ i. record { id = n.id; answer = told_back n.answer i } ∷ noted_back l i

pub no_two_lists : (free free' : List ℕ) (l l' : List Noted) → All Held (map noted l) → All Held (map noted l') → length (map noted l) ≤ 4096 → length (map noted l') ≤ 4096
    → answer_bytes free (map noted l) ≡ answer_bytes free' (map noted l') → (free ≡ free') × (l ≡ l')
no_two_lists free free' l l' h h' few few' e =
    let same = no_two free free' (map noted l) (map noted l') h h' few few' e in
    (same.0, sym (noted_back l) ∙ ap (map unnoted) same.1 ∙ noted_back l')

-- ---- what is written from eight numbers
pub wrote_read : (out : List ℕ) (at : ℕ) (numbers out' : List ℕ) → let e : Entry = record { id = get_or numbers 0 0; told = told_in numbers } in
    Held e → at + 32 ≤ length out → Writes out at numbers out' 0 → entry_at out' at ≡ e
unfolding put_unless
wrote_read out at numbers out' h room w = ap (λ (l : List ℕ). entry_at l at) w.leaves ∙ written_read out at (record { id = get_or numbers 0 0; told = told_in numbers }) h room

-- ---- what is read of a file

-- a row that is not due
pub skip : (number : ℕ) (met : Bool) (cs : List Case) → met ≡ true → first (record { number = number; due = not met } ∷ cs) ≡ first cs
unfolding first
skip number met cs e = rw e

module _ (free : List ℕ) (es : List Entry) (all : All Held es) (few : length es ≤ 4096) where
  holds : Holds answer_form (answer_bytes free es) 1 (length free) (length es)
  holds = opened_records answer_form (answer_bytes free es) (record { edition = 1; first = length free; count = length es }) (file_opens free es all few)

  module _ (none : Entry) (k : ℕ) (out out' : List ℕ) (number : ℕ) (r : Reads (answer_bytes free es) k out out' number) where
    pub reads_file : k < length es → let e : Entry = get_or es k none in Puts (first (word_cases e.told ++ (short out 8 ∷ []))) (eight e.id e.told) out 0 out' number
    unfolding reads_refusal
    reads_file l =
        let s = answer_bytes free es in
        let place : place_in answer_form s k ≡ length free + 32 * k = ap (λ (n : ℕ). n + 32 * k) (sym holds.starts) in
        let one : entry_at s (place_in answer_form s k) ≡ get_or es k none = ap (entry_at s) place ∙ formed_record answer_layout free es all none k l in
        let open_row = opens_first answer_form s (index s k ∷ (word_cases (told_at s (place_in answer_form s k)) ++ (short out 8 ∷ []))) holds.none in
        let in_row = skip 13 (ltb k (record_count s)) (word_cases (told_at s (place_in answer_form s k)) ++ (short out 8 ∷ [])) (lt-ltb k (record_count s) (omega (arith, holds.counts))) in
        record {
          says = r.says ∙ open_row ∙ in_row ∙ ap (λ (e : Entry). first (word_cases e.told ++ (short out 8 ∷ []))) one;
          leaves = r.leaves ∙ ap (λ (e : Entry). put_unless number out 0 (eight e.id e.told)) one;
        }

    pub reads_past : length es ≤ k → number ≡ 13
    unfolding reads_refusal first
    reads_past l =
        let s = answer_bytes free es in
        r.says
        ∙ opens_first answer_form s (index s k ∷ (word_cases (told_at s (place_in answer_form s k)) ++ (short out 8 ∷ []))) holds.none
        ∙ rw (le-ltb k (record_count s) (omega (arith, holds.counts)))
