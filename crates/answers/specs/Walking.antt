-- The walk over a file's records, as a loop makes it: one record more at the end of what is told and of what is left. By how an answer is told, so that it serves numbers and bytes.
--     told_more, length_told      what is told of one record more, and how long it is
--     queue_more, clean_after     the queue after one record more; after an answer it is zero
--     Walked                      what holds after i records: none of them, one more, all of them
--     answered                    what one record's search and its telling leave
--     alone, known, at_place      a walk of one record is that record's, where the record or its place in the file is known
--     told_place, queue_place     the walk over so many records from a place on is that over all of the file's
-- Assumes nothing.
use Prim.Native.Nat.{ℕ, zero, suc, ◌+◌, ◌-◌, ◌*◌, ◌≤◌, ◌<◌}
use Rattle.std.proofs.Math.Path.{◌≡◌, sym, ap, subst}
use Rattle.std.specs.Prelude.{refl, Bool, true, false, ◌||◌, replicate}
use Rattle.std.proofs.Common.{◌∙◌, arith, add-one}
use mathlib.Core.List.{List, ◌++◌, append-nil}
use Rattle.std.proofs.Math.ListN.{length, length-append}
use Rattle.std.proofs.lemmas.List.{length-replicate}
use Rattle.rules.specs.declared.Record.{Record}
use Rattle.rules.specs.declared.Told.{Told}
use Rattle.rules.specs.declared.Answer.{Answer}
use Rattle.rules.specs.declared.Answer.TheVariants.{Met, Clear, Spent, Room, Floor, Refused}
use Rattle.rules.specs.Answers.{told, queue_after}
use Rattle.rules.specs.Search.{search}
use Rattle.rules.specs.QueryFile.{joined, read_from, record_size, record_at, edition_of, put, trailer_place, back_pointer, record_count, place_of}
use Rattle.little.specs.Put.{put_nil, length_put, one_more}
use Rattle.queries.specs.Sizes.{size_zero, size_suc, record_within}
use Rattle.queries.specs.Layout.{joined_more, read_more}
use Rattle.answers.specs.Walk.{tells_by, tells_all, queue_from}
use Rattle.search.specs.Levels.{Clean}
use Rattle.answers.specs.Step.{is_answered, Answered}

-- the place of record i behind the first
next_place : (edition at n : ℕ) → at + record_size edition + record_size edition * n ≡ at + record_size edition * suc n
next_place edition at n = omega (arith, size_suc (record_size edition) n)

first_place : (edition at : ℕ) → at ≡ at + record_size edition * 0
first_place edition at = omega (arith, size_zero (record_size edition))

pub queue_more : (edition : ℕ) (s : List ℕ) (n at : ℕ) (queue : List ℕ)
    → queue_from edition s (suc n) at queue ≡ queue_after (search (record_at edition s (at + record_size edition * n)) (length (queue_from edition s n at queue))) (queue_from edition s n at queue)
unfolding queue_from
queue_more edition s zero at queue =
    let e = first_place edition at in
    ap (λ (k : ℕ). queue_after (search (record_at edition s k) (length queue)) queue) e
queue_more edition s (suc n) at queue =
    let q = queue_after (search (record_at edition s at) (length queue)) queue in
    queue_more edition s n (at + record_size edition) q
    ∙ ap (λ (k : ℕ). queue_after (search (record_at edition s k) (length (queue_from edition s n (at + record_size edition) q))) (queue_from edition s n (at + record_size edition) q)) (next_place edition at n)

-- no answer changes how many words there are
pub length_after : (a : Answer) (queue : List ℕ) → length (queue_after a queue) ≡ length queue
unfolding queue_after
length_after (Met t u v excess count) queue = length-replicate (length queue) 0
length_after (Clear count) queue = length-replicate (length queue) 0
length_after (Spent t u v excess count) queue = length-replicate (length queue) 0
length_after (Room t u v excess count) queue = length-replicate (length queue) 0
length_after (Floor t u v excess count) queue = length-replicate (length queue) 0
length_after (Refused number) queue = refl

zeros : (queue : List ℕ) → replicate {A = ℕ} (length queue) 0 ≡ replicate (length (replicate {A = ℕ} (length queue) 0)) 0
zeros queue = ap (λ (n : ℕ). replicate {A = ℕ} n 0) (sym (length-replicate (length queue) 0))

-- after an answer the queue is zero, and a refusal leaves it so
pub clean_after : (a : Answer) (clean : Bool) (queue : List ℕ) → Clean clean queue → Clean (clean || is_answered a) (queue_after a queue)
unfolding queue_after
clean_after (Refused number) true queue h = h
clean_after (Refused number) false queue h = h
clean_after (Met t u v excess count) clean queue h = λ _. zeros queue
clean_after (Clear count) clean queue h = λ _. zeros queue
clean_after (Spent t u v excess count) clean queue h = λ _. zeros queue
clean_after (Room t u v excess count) clean queue h = λ _. zeros queue
clean_after (Floor t u v excess count) clean queue h = λ _. zeros queue

module _ (by : ℕ → Told → List ℕ) where
  -- ---- what is told
  pub told_more : (edition : ℕ) (s : List ℕ) (words n at : ℕ) → tells_all by edition s words (suc n) at ≡ tells_all by edition s words n at ++ tells_by by (record_at edition s (at + record_size edition * n)) words
  told_more edition s words n at =
      ap (joined (λ (r : Record). tells_by by r words)) (read_more (record_at edition) (record_size edition) s n at)
      ∙ joined_more (λ (r : Record). tells_by by r words) (read_from (record_at edition) (record_size edition) s at n) (record_at edition s (at + record_size edition * n))

  pub length_told : (size : ℕ) → ((id : ℕ) (n : Told) → length (by id n) ≡ size) → (edition : ℕ) (s : List ℕ) (words n at : ℕ) → length (tells_all by edition s words n at) ≡ size * n
  unfolding joined read_from tells_by
  length_told size long edition s words zero at = sym (size_zero size)
  length_told size long edition s words (suc n) at =
      length-append (tells_by by (record_at edition s at) words) (tells_all by edition s words n (at + record_size edition))
      ∙ (λ i. long (record_at edition s at).id (told (search (record_at edition s at) words)) i + length_told size long edition s words n (at + record_size edition) i)
      ∙ sym (size_suc size n)

  -- ---- the walk: i records are told, and the queue is as they leave it
  pub record Walked (edition : ℕ) (s : List ℕ) (first count : ℕ) (queue₀ out₀ queue out : List ℕ) (clean : Bool) (i : ℕ) : Type 0 where
    pub few : i ≤ count
    pub told : out ≡ put out₀ 0 (tells_all by edition s (length queue₀) i first)
    pub left : queue ≡ queue_from edition s i first queue₀
    pub words : length queue ≡ length queue₀
    pub numbers : length out ≡ length out₀
    pub zero : Clean clean queue

  pub walked_none : (edition : ℕ) (s : List ℕ) (first count : ℕ) (queue out : List ℕ) → Walked edition s first count queue out queue out false 0
  unfolding joined read_from queue_from
  walked_none edition s first count queue out =
      record { few = omega arith; told = sym (put_nil out 0); left = refl; words = refl; numbers = refl; zero = λ e. let z : ◌≡◌ {A = ℕ} 0 1 = cc in absurd (omega arith) }

  module _ (size : ℕ) (long : (id : ℕ) (n : Told) → length (by id n) ≡ size) {edition : ℕ} {s : List ℕ} {first count : ℕ} {queue₀ out₀ queue out : List ℕ} {clean : Bool} {i : ℕ}
      (w : Walked edition s first count queue₀ out₀ queue out clean i) (more : i < count) (room : size * count ≤ length out₀) where
    pub walked_more : {at : ℕ} {queue' out' : List ℕ} {clean' : Bool} → at ≡ first + record_size edition * i → Answered by edition s at queue queue' clean out (size * i) out' clean'
        → Walked edition s first count queue₀ out₀ queue' out' clean' (i + 1)
    unfolding tells_by
    walked_more {at} {queue'} {out'} {clean'} p b =
        let a = subst (λ (k : ℕ). Answered by edition s k queue queue' clean out (size * i) out' clean') p b in
        let r = record_at edition s (first + record_size edition * i) in
        let before = tells_all by edition s (length queue₀) i first in
        let n : length before ≡ size * i = length_told size long edition s (length queue₀) i first in
        let l : length (tells_by by r (length queue₀)) ≡ size = long r.id (told (search r (length queue₀))) in
        let fits : 0 + size * i + size ≤ length out₀ = record_within size 0 count i (length out₀) more (omega arith) in
        let k : out' ≡ put out (size * i) (tells_by by r (length queue₀)) = a.told ∙ ap (λ (m : ℕ). put out (size * i) (tells_by by r m)) w.words in
        record {
          few = omega arith;
          told =
              one_more out₀ out out' 0 (size * i) before (tells_by by r (length queue₀)) w.told k (omega arith) (omega arith)
              ∙ ap (λ (x : List ℕ). put out₀ 0 x) (sym (told_more edition s (length queue₀) i first) ∙ ap (λ (m : ℕ). tells_all by edition s (length queue₀) m first) (sym (add-one i)));
          left =
              a.left
              ∙ ap (λ (x : List ℕ). queue_after (search r (length x)) x) w.left
              ∙ sym (queue_more edition s i first queue₀)
              ∙ ap (λ (m : ℕ). queue_from edition s m first queue₀) (sym (add-one i));
          words = ap length a.left ∙ length_after (search r (length queue)) queue ∙ w.words;
          numbers = ap length k ∙ length_put out (size * i) (tells_by by r (length queue₀)) (omega (arith, w.numbers)) ∙ w.numbers;
          zero = a.zero;
        }

  -- at the end
  pub walked_all : {edition : ℕ} {s : List ℕ} {first count : ℕ} {queue₀ out₀ queue out : List ℕ} {clean : Bool} {i : ℕ} → Walked edition s first count queue₀ out₀ queue out clean i → i ≡ count
      → (out ≡ put out₀ 0 (tells_all by edition s (length queue₀) count first)) × (queue ≡ queue_from edition s count first queue₀)
  walked_all {edition} {s} {first} {count} {queue₀} {out₀} w e =
      (w.told ∙ ap (λ (m : ℕ). put out₀ 0 (tells_all by edition s (length queue₀) m first)) e, w.left ∙ ap (λ (m : ℕ). queue_from edition s m first queue₀) e)

  -- ---- one record: what was answered and told
  pub answered : {edition at to id : ℕ} {s queue queue' out out' : List ℕ} {clean b : Bool} {a : Answer} {n : Told}
      → let r : Record = record_at edition s at in
      a ≡ search r (length queue)
      → queue' ≡ queue_after (search r (length queue)) queue
      → n ≡ told a
      → id ≡ r.id
      → out' ≡ put out to (by id n)
      → b ≡ is_answered a
      → Clean clean queue
      → Answered by edition s at queue queue' clean out to out' (clean || b)
  unfolding tells_by
  answered {edition} {at} {to} {s = s} {queue = queue} {out = out} {clean = clean} says left same names wrote is clear =
      record {
        told = wrote ∙ (λ i. put out to (by (names i) (same i))) ∙ ap (λ (x : Answer). put out to (by (record_at edition s at).id (told x))) says;
        left = left;
        zero = rw (left, is, says) (clean_after (search (record_at edition s at) (length queue)) clean queue clear);
      }

  -- a walk of one record is that record's
  pub alone : {edition at : ℕ} {s queue queue' out out' : List ℕ} → out' ≡ put out 0 (tells_all by edition s (length queue) 1 at) → queue' ≡ queue_from edition s 1 at queue
      → Answered by edition s at queue queue' false out 0 out' false
  unfolding joined read_from queue_from
  alone {edition} {at} {s} {queue} {out = out} told left =
      record { told = told ∙ ap (λ (l : List ℕ). put out 0 l) (append-nil (tells_by by (record_at edition s at) (length queue))); left = left; zero = λ e. let z : ◌≡◌ {A = ℕ} 0 1 = cc in absurd (omega arith) }

  -- where a record is known, what is told and left is that record's
  pub known : {edition at to : ℕ} {s queue queue' out out' : List ℕ} {clean clean' : Bool} {r : Record} → record_at edition s at ≡ r → Answered by edition s at queue queue' clean out to out' clean'
      → (out' ≡ put out to (tells_by by r (length queue))) × (queue' ≡ queue_after (search r (length queue)) queue)
  known {to = to} {queue = queue} {out = out} e a =
      (a.told ∙ ap (λ (x : Record). put out to (tells_by by x (length queue))) e, a.left ∙ ap (λ (x : Record). queue_after (search x (length queue)) queue) e)

  -- the record that stands n records behind the first is record n of the file
  pub at_place : {edition place at : ℕ} {queue queue' out out' : List ℕ} {to : ℕ} {clean clean' : Bool} (s : List ℕ) (n : ℕ) → edition ≡ edition_of s → place ≡ trailer_place s - back_pointer s
      → at ≡ place + record_size edition * n → Answered by edition s at queue queue' clean out to out' clean' → Answered by (edition_of s) s (place_of s n) queue queue' clean out to out' clean'
  at_place {edition = edition} {place = place} {queue = queue} {queue' = queue'} {out = out} {out' = out'} {to = to} {clean = clean} {clean' = clean'} s n d e p a =
      subst (λ (k : ℕ). Answered by (edition_of s) s (k + record_size (edition_of s) * n) queue queue' clean out to out' clean') e
      (subst (λ (k : ℕ). Answered by k s (place + record_size k * n) queue queue' clean out to out' clean') d
      (subst (λ (k : ℕ). Answered by edition s k queue queue' clean out to out' clean') p a))

-- so many records from a place on are all of the file's
module _ (s : List ℕ) {edition place n : ℕ} (d : edition ≡ edition_of s) (e : place ≡ trailer_place s - back_pointer s) (k : n ≡ record_count s) where
  start : place ≡ place_of s 0
  start = e ∙ first_place (edition_of s) (trailer_place s - back_pointer s)

  pub told_place : (by : ℕ → Told → List ℕ) (words : ℕ) → tells_all by edition s words n place ≡ tells_all by (edition_of s) s words (record_count s) (place_of s 0)
  told_place by words = λ i. tells_all by (d i) s words (k i) (start i)

  pub queue_place : (queue : List ℕ) → queue_from edition s n place queue ≡ queue_from (edition_of s) s (record_count s) (place_of s 0) queue
  queue_place queue = λ i. queue_from (d i) s (k i) (start i) queue
