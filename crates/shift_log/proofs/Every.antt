-- Every answer of a file, one by one as the loops go: whether all before can be read, and the numbers told so far. Assumes nothing.
use Prim.Native.Nat.{ℕ, zero, suc, ◌+◌, ◌*◌, ◌≤◌, ◌<◌}
use mathlib.Core.Path.{◌≡◌, refl, sym, ap, ◌∙◌}
use mathlib.Core.Bool.{Bool, ◌&&◌, and-true, and_assoc}
use mathlib.Core.List.{List, ◌++◌}
use native.Mathlib.Omega.{arith}
use native.Mathlib.Numerals.{add-one}
use lib.Dec.{eqb}
use lib.ListN.{length, length-append}
use Rattle.rules.specs.declared.Told.{Told}
use Rattle.rules.specs.QueryFile.{word, joined, read_from, put}
use Rattle.rules.specs.AnswerFile.{Entry, told_at, entry_at, word_refusal}
use Rattle.little.specs.Put.{put_nil, length_put, one_more}
use Rattle.queries.specs.Layout.{joined_more, read_more}
use Rattle.answers.specs.Eight.{eight}
use Rattle.shift_log.specs.Calls.{are_taken, entries_told}

-- ---- whether the first can be read: one more at the end
taken_more : (s : List ℕ) (at n : ℕ) → are_taken s at (suc n) ≡ (are_taken s at n && eqb (word_refusal (told_at s (at + 32 * n))) 0)
unfolding are_taken
taken_more s at zero =
    let p : at ≡ at + 32 * 0 = omega arith in
    and-true (eqb (word_refusal (told_at s at)) 0) ∙ (λ i. eqb (word_refusal (told_at s (p i))) 0)
taken_more s at (suc n) =
    let p : at + 32 + 32 * n ≡ at + 32 * suc n = omega arith in
    let here = eqb (word_refusal (told_at s at)) 0 in
    ap (λ (b : Bool). here && b) (taken_more s (at + 32) n)
    ∙ sym (and_assoc here (are_taken s (at + 32) n) (eqb (word_refusal (told_at s (at + 32 + 32 * n))) 0))
    ∙ (λ i. here && are_taken s (at + 32) n && eqb (word_refusal (told_at s (p i))) 0)

pub looked_more : (s : List ℕ) (at n : ℕ) {all one : Bool} → all ≡ are_taken s at n → one ≡ eqb (word_refusal (told_at s (at + 32 * n))) 0 → (all && one) ≡ are_taken s at (n + 1)
looked_more s at n e is = (λ i. e i && is i) ∙ sym (taken_more s at n) ∙ ap (λ (k : ℕ). are_taken s at k) (sym (add-one n))

-- ---- i of them are told
abbrev numbers : Entry → List ℕ
numbers e = eight e.id e.told

told_more : (s : List ℕ) (n at : ℕ) → entries_told s at (suc n) ≡ entries_told s at n ++ eight (word s (at + 32 * n)) (told_at s (at + 32 * n))
told_more s n at = ap (joined numbers) (read_more entry_at 32 s n at) ∙ joined_more numbers (read_from entry_at 32 s at n) (entry_at s (at + 32 * n))

length_told : (s : List ℕ) (n at : ℕ) → length (entries_told s at n) ≡ 8 * n
unfolding joined read_from
length_told s zero at = refl
length_told s (suc n) at = length-append (numbers (entry_at s at)) (entries_told s (at + 32) n) ∙ omega (arith, length_told s n (at + 32))

pub record ToldSoFar (s : List ℕ) (first count : ℕ) (out₀ out : List ℕ) (i : ℕ) : Type 0 where
  pub few : i ≤ count
  pub told : out ≡ put out₀ 0 (entries_told s first i)
  pub numbers : length out ≡ length out₀

pub told_none : (s : List ℕ) (first count : ℕ) (out : List ℕ) → ToldSoFar s first count out out 0
unfolding joined read_from
told_none s first count out = record { few = omega arith; told = sym (put_nil out 0); numbers = refl }

pub told_one : {s : List ℕ} {first count : ℕ} {out₀ out : List ℕ} {i : ℕ} → ToldSoFar s first count out₀ out i → i < count → 8 * count ≤ length out₀
    → {at id : ℕ} {a : Told} {out' : List ℕ} → at ≡ first + 32 * i → id ≡ word s at → a ≡ told_at s at → out' ≡ put out (8 * i) (eight id a)
    → ToldSoFar s first count out₀ out' (i + 1)
told_one {s} {first} {count} {out₀} {out} {i} w more room {at} {id} {a} {out'} p d e wrote =
    let x = eight (word s (first + 32 * i)) (told_at s (first + 32 * i)) in
    let k : out' ≡ put out (8 * i) x = wrote ∙ (λ j. put out (8 * i) (eight (d j) (e j))) ∙ ap (λ (n : ℕ). put out (8 * i) (eight (word s n) (told_at s n))) p in
    let n = length_told s i first in
    record {
      few = omega arith;
      told =
          one_more out₀ out out' 0 (8 * i) (entries_told s first i) x w.told k (omega arith) (omega arith)
          ∙ ap (λ (l : List ℕ). put out₀ 0 l) (sym (told_more s i first) ∙ ap (λ (m : ℕ). entries_told s first m) (sym (add-one i)));
      numbers = ap length k ∙ length_put out (8 * i) x (omega (arith, w.numbers)) ∙ w.numbers;
    }

pub told_all : {s : List ℕ} {first count : ℕ} {out₀ out : List ℕ} {i : ℕ} → ToldSoFar s first count out₀ out i → i ≡ count → out ≡ put out₀ 0 (entries_told s first count)
told_all {s} {first} {out₀ = out₀} w e = w.told ∙ ap (λ (m : ℕ). put out₀ 0 (entries_told s first m)) e
