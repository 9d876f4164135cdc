-- Laws of the words: how a number that is no answer's is named, and which numbers stand behind a word.
-- Assumes nothing.
use Prim.Native.Nat.{ℕ, zero, suc, ◌<◌}
use mathlib.Core.Path.{◌≡◌, refl}
use mathlib.Core.List.{◌++◌}
use native.Mathlib.Omega.{arith}
use borrow.Author.Tests.{lt-leb, eq-eqb, ne_eqb}
use Rattle.text.specs.Text.{ascii, field, kind_of, named, values}
use Rattle.rules.specs.declared.Told.{Told}

kind_high : (w : ℕ) → 5 < w → 0 ≡ kind_of w
unfolding kind_of
kind_high w h = rw (lt-leb w 5 h)

named_high : (w : ℕ) → 5 < w → ascii " REFUSED" ≡ named w
unfolding named
named_high w h = rw (← kind_high w h)

-- a number other than 1 to 5 is named as 0 is
pub named_other : (w : ℕ) → (w ≡ 1 → ⊥) → (w ≡ 2 → ⊥) → (w ≡ 3 → ⊥) → (w ≡ 4 → ⊥) → (w ≡ 5 → ⊥) → ascii " REFUSED" ≡ named w
unfolding named kind_of
named_other zero n1 n2 n3 n4 n5 = refl
named_other (suc w) n1 n2 n3 n4 n5 = named_high (suc w) (omega arith)

-- the numbers behind a refusal's name, and behind any other
module _ (a : Told) where
  pub values_refused : kind_of a.word ≡ 0 → field a.number ≡ values a
  unfolding values
  values_refused h = rw (eq-eqb (kind_of a.word) 0 h)

  pub values_answered : (kind_of a.word ≡ 0 → ⊥) → field a.t ++ field a.u ++ field a.v ++ field a.excess ++ field a.count ≡ values a
  unfolding values
  values_answered h = rw (ne_eqb (kind_of a.word) 0 h)
