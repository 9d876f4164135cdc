-- Loops over the answers: what is done and what is left make the whole.
--     rows_more                          the first of what is left, and the others
--     lined_none, lined_more, lined_all  the lines written so far: at the start, one more, all of them
--     tallied_none, tallied_more, tallied_all   the tallies written so far, in the order of the words
--     counted_none, counted_more, counted_all   the same of a tally
-- Assumes nothing.
use Prim.Native.Nat.{ℕ, zero, suc, ◌+◌, ◌-◌, ◌*◌, ◌≤◌, ◌<◌}
use mathlib.Core.Bool.{Bool, true, false, cond}
use mathlib.Core.Path.{◌≡◌, refl, sym, ap, ◌∙◌}
use mathlib.Core.List.{List, [], ◌∷◌, ◌++◌, append_assoc, append-nil}
use native.Mathlib.Omega.{arith}
use lib.Dec.{eqb}
use lib.ListN.{length, get_or, drop}
use lib.Seq.{drop-drop, drop-cons, get_or-drop}
use mir.Val.{bool_byte}
use Rattle.std.proofs.Common.{add-one}
use Rattle.rules.specs.QueryFile.{joined}
use Rattle.text.specs.declared.Row.{Row}
use Rattle.text.specs.Text.{kind_of, line, lines, tally, tallied, tallies, row_of, rows}
use Rattle.text.specs.Writers.{Wrote}
use Rattle.text.proofs.Writing.{then, roomier}
use Rattle.little.specs.Put.{put_nil}

pub length_rows : (n : ℕ) (s : List ℕ) → length (rows n s) ≡ n
unfolding rows
length_rows zero s = refl
length_rows (suc n) s = ap suc (length_rows n (drop 8 s))

-- the answers from the i-th on
abbrev pub left : List ℕ → ℕ → ℕ → List Row
left s n i = rows (n - i) (drop (8 * i) s)

module _ (s : List ℕ) (n : ℕ) where
  left_all : left s n 0 ≡ rows n s
  left_all = let e : n - 0 ≡ n = omega arith in rw e

  left_none : left s n n ≡ []
  unfolding rows
  left_none = let e : n - n ≡ 0 = omega arith in rw e

  pub rows_more : (i : ℕ) → i < n → left s n i ≡ row_of (drop (8 * i) s) ∷ left s n (i + 1)
  unfolding rows
  rows_more i h =
      let e : n - i ≡ suc (n - (i + 1)) = omega arith in
      let d : 8 * (i + 1) ≡ 8 * i + 8 = omega arith in
      rw (e, d, drop-drop)

-- the lines of the first i answers stand in the buffer
pub record Lined (told out₀ : List ℕ) (n i at : ℕ) (out : List ℕ) : Type 0 where
  pub done : List ℕ
  pub some : i ≤ n
  pub same : length out ≡ length out₀
  pub wrote : Wrote (80 * i) out₀ 0 done out at
  pub rest : done ++ lines (left told n i) ≡ lines (rows n told)

module _ (told out₀ : List ℕ) (n : ℕ) where
  pub lined_none : Lined told out₀ n 0 0 out₀
  lined_none =
      record {
        done = [];
        some = omega arith;
        same = refl;
        wrote = record { bytes = sym (put_nil out₀ 0); behind = refl; few = omega arith };
        rest = ap lines (left_all told n);
      }

  pub lined_more : {i at at' : ℕ} {out out' : List ℕ}
      → Lined told out₀ n i at out
      → i < n
      → 80 * n ≤ length out₀
      → length out' ≡ length out
      → Wrote 80 out at (line (row_of (drop (8 * i) told))) out' at'
      → Lined told out₀ n (i + 1) at' out'
  unfolding lines
  lined_more {i} l h room same w =
      let new = line (row_of (drop (8 * i) told)) in
      let both = then l.wrote w (omega arith) in
      record {
        done = l.done ++ new;
        some = omega arith;
        same = same ∙ l.same;
        wrote = roomier both (omega (arith, both.few));
        rest = append_assoc l.done new (lines (left told n (i + 1))) ∙ ap (λ (rs : List Row). l.done ++ lines rs) (sym (rows_more told n i h)) ∙ l.rest;
      }

  pub lined_all : {at : ℕ} {out : List ℕ} → Lined told out₀ n n at out → Wrote (80 * n) out₀ 0 (lines (rows n told)) out at
  unfolding lines
  lined_all l =
      let e : l.done ≡ lines (rows n told) = sym (append-nil l.done) ∙ ap (λ (rs : List Row). l.done ++ lines rs) (sym (left_none told n)) ∙ l.rest in
      rw (← e) l.wrote

-- the words in the order of their tallies
abbrev words : List ℕ
words = 1 ∷ 2 ∷ 3 ∷ 4 ∷ 5 ∷ 0 ∷ []

-- the tallies of the first i words stand in the buffer
pub record Tallied (told : List ℕ) (n : ℕ) (out₀ : List ℕ) (at i end : ℕ) (out : List ℕ) : Type 0 where
  pub done : List ℕ
  pub same : length out ≡ length out₀
  pub wrote : Wrote (19 * i) out₀ at done out end
  pub rest : done ++ joined (λ (k : ℕ). tallied k (rows n told)) (drop i words) ≡ tallies (rows n told)

module _ (told : List ℕ) (n : ℕ) (out₀ : List ℕ) (at : ℕ) where
  abbrev each : List ℕ → List ℕ
  each ks = joined (λ (k : ℕ). tallied k (rows n told)) ks

  each_more : (i : ℕ) → i < 6 → each (drop i words) ≡ tallied (get_or words i 0) (rows n told) ++ each (drop (suc i) words)
  unfolding joined
  each_more i h = rw (drop-cons words i 0 h)

  all_words : each words ≡ tallies (rows n told)
  unfolding joined tallies
  all_words = simp (append_assoc, append-nil, tallies)

  pub tallied_none : Tallied told n out₀ at 0 at out₀
  tallied_none =
      record {
        done = [];
        same = refl;
        wrote = record { bytes = sym (put_nil out₀ at); behind = omega arith; few = omega arith };
        rest = all_words;
      }

  pub tallied_more : {i end end' : ℕ} {out out' : List ℕ}
      → Tallied told n out₀ at i end out
      → i < 6
      → at + 114 ≤ length out₀
      → length out' ≡ length out
      → Wrote 19 out end (tallied (get_or words i 0) (rows n told)) out' end'
      → Tallied told n out₀ at (i + 1) end' out'
  unfolding joined
  tallied_more {i} t h room same w =
      let one = tallied (get_or words i 0) (rows n told) in
      let both = then t.wrote w (omega arith) in
      record {
        done = t.done ++ one;
        same = same ∙ t.same;
        wrote = roomier both (omega (arith, both.few));
        rest = rw (append_assoc, add-one, ← each_more i h) t.rest;
      }

  pub tallied_all : {end : ℕ} {out : List ℕ} → Tallied told n out₀ at 6 end out → Wrote 114 out₀ at (tallies (rows n told)) out end
  unfolding joined
  tallied_all t = rw (← (sym (append-nil t.done) ∙ t.rest)) t.wrote

-- of the first i answers `sum` have the word k
pub record Counted (told : List ℕ) (n k i sum : ℕ) : Type 0 where
  pub some : i ≤ n
  pub few : sum ≤ i
  pub rest : sum + tally k (left told n i) ≡ tally k (rows n told)

at_most_one : (b : Bool) → bool_byte b ≤ 1
at_most_one true = omega arith
at_most_one false = omega arith

number_of : (b : Bool) → bool_byte b ≡ cond b 1 0
number_of true = refl
number_of false = refl

module _ (told : List ℕ) (n k : ℕ) where
  pub counted_none : Counted told n k 0 0
  counted_none = record { some = omega arith; few = omega arith; rest = omega (arith, ap (tally k) (left_all told n)) }

  pub counted_more : {i sum one : ℕ}
      → Counted told n k i sum
      → i < n
      → one ≡ bool_byte (eqb (kind_of (get_or told (8 * i + 1) 0)) k)
      → Counted told n k (i + 1) (sum + one)
  unfolding tally row_of
  counted_more {i} {sum} {one} l h e =
      let first : one + tally k (left told n (i + 1)) ≡ tally k (left told n i) =
      rw (rows_more told n i h, get_or-drop (8 * i) told 1 0, e, number_of (eqb (kind_of (get_or told (8 * i + 1) 0)) k)) in
      record {
        some = omega arith;
        few = omega (arith, at_most_one (eqb (kind_of (get_or told (8 * i + 1) 0)) k));
        rest = omega (arith, l.rest);
      }

  pub counted_all : {sum : ℕ} → Counted told n k n sum → sum ≡ tally k (rows n told)
  unfolding tally
  counted_all l = omega (arith, l.rest, ap (tally k) (left_none told n))
