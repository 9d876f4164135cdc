-- A number read digit by digit.
use Rattle.std.specs.Prelude.{ℕ, ◌+◌, ◌≤◌, ◌<◌, ◌≡◌, refl, true, false, List, [], ◌∷◌, Some, None, length, drop}
use Rattle.std.proofs.Common.{◌∙◌, arith, add-one, drop-cons, get_or}
use Rattle.std.proofs.Math.Path.{sym}
use Rattle.std.proofs.Math.ListN.{drop_of_length-le}
use Rattle.console.specs.Number.{is_digit, and_digit, read_from, number_of}

pub none : (s : List ℕ) → length s ≡ 0 → None ≡ number_of s
unfolding number_of
none [] h = refl
none (b ∷ bs) h = absurd (omega arith)

pub some : (s : List ℕ) → (length s ≡ 0 → ⊥) → read_from 0 s ≡ number_of s
unfolding number_of
some [] h = absurd (h refl)
some (b ∷ bs) h = refl

module _ (s : List ℕ) (n i : ℕ) where
  front : i < length s → read_from n (drop i s) ≡ read_from n (get_or s i 0 ∷ drop (i + 1) s)
  front h = rw (add-one, ← drop-cons s i 0)

  pub stops : i < length s → is_digit (get_or s i 0) ≡ false → None ≡ read_from n (drop i s)
  unfolding read_from
  stops h e = sym (front h ∙ rw e)

  pub goes_on : i < length s → is_digit (get_or s i 0) ≡ true → read_from (and_digit n (get_or s i 0)) (drop (i + 1) s) ≡ read_from n (drop i s)
  unfolding read_from
  goes_on h e = sym (front h ∙ rw e)

  pub ends : length s ≤ i → Some n ≡ read_from n (drop i s)
  unfolding read_from
  ends h = rw (drop_of_length-le s h)
