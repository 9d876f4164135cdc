-- Laws of `word` and `word_bytes`: a number of 32 bits read from bytes and written as bytes.
--     word_drop     a word of what stands from a place on
--     word_back     of bytes just written: the number
--     word_at       the same at a place
--     digits        the bytes of a number given by its four bytes
--     word_same     of a word just read: the bytes that stood there
-- Assumes nothing.
use Prim.Native.Nat.{ℕ, suc, ◌+◌, ◌*◌, ◌/◌, ◌%◌, ◌≤◌, ◌<◌}
use Rattle.std.specs.Prelude.{◌≡◌, refl, length}
use Rattle.std.proofs.Math.Path.{sym, ap}
use Rattle.std.proofs.Common.{◌∙◌, add_assoc, add-zero, div-add-mod', get_or-drop}
use mathlib.Core.List.{List, [], ◌∷◌, ◌++◌}
use Rattle.std.proofs.Math.Nat.{div-div-eq-div-mul}
use native.Mathlib.Omega.{arith}
use Rattle.std.proofs.Math.ListN.{get_or, take, drop}
use Rattle.std.proofs.Math.Seq.{drop-cons}
use Rattle.rules.specs.QueryFile.{word, word_bytes}

pub length_word : (n : ℕ) → length (word_bytes n) ≡ 4
unfolding word_bytes
length_word n = refl

pub word_drop : (s : List ℕ) (at k : ℕ) → word (drop at s) k ≡ word s (at + k)
unfolding word
word_drop s at k = simp (get_or-drop, ← add_assoc)

-- four digits to the base 256 make the number again
four : (n q1 q2 q3 r0 r1 r2 r3 : ℕ) → q1 * 256 + r0 ≡ n → q2 * 256 + r1 ≡ q1 → q3 * 256 + r2 ≡ q2 → r3 ≡ q3 → r0 + 256 * r1 + 65536 * r2 + 16777216 * r3 ≡ n
four n q1 q2 q3 r0 r1 r2 r3 e0 e1 e2 e3 = omega arith

pub word_back : (n : ℕ) (t : List ℕ) → n < 4294967296 → word (word_bytes n ++ t) 0 ≡ n
unfolding word word_bytes
word_back n t h =
    let q2 : n / 256 / 256 ≡ n / 65536 = div-div-eq-div-mul n 256 256 in
    let q3 : n / 65536 / 256 ≡ n / 16777216 = div-div-eq-div-mul n 65536 256 in
    four n (n / 256) (n / 65536) (n / 16777216) _ _ _ _
    (div-add-mod' n 256)
    (rw q2 at (div-add-mod' (n / 256) 256))
    (rw q3 at (div-add-mod' (n / 65536) 256))
    (omega arith)

pub digits : (a b c d : ℕ) → a < 256 → b < 256 → c < 256 → d < 256 → word_bytes (a + 256 * b + 65536 * c + 16777216 * d) ≡ a ∷ b ∷ c ∷ d ∷ []
unfolding word_bytes
digits a b c d ha hb hc hd =
    let n = a + 256 * b + 65536 * c + 16777216 * d in
    let q1 : n / 256 ≡ b + 256 * c + 65536 * d = omega arith in
    let q2 : n / 65536 ≡ c + 256 * d = omega arith in
    let q3 : n / 16777216 ≡ d = omega arith in
    let e0 : n % 256 ≡ a = omega arith in
    let e1 : (b + 256 * c + 65536 * d) % 256 ≡ b = omega arith in
    let e2 : (c + 256 * d) % 256 ≡ c = omega arith in
    let e3 : d % 256 ≡ d = omega arith in
    rw (e0, q1, q2, q3, e1, e2, e3)

-- every element is a byte
abbrev pub Bytes : List ℕ → Type 0
Bytes s = (i : ℕ) → get_or s i 0 < 256

module _ (s : List ℕ) (bytes : Bytes s) where
  pub word_lt : (at : ℕ) → word s at < 4294967296
  unfolding word
  word_lt at = omega (arith, bytes at, bytes (at + 1), bytes (at + 2), bytes (at + 3))

  pub word_same : (at : ℕ) → at + 4 ≤ length s → word_bytes (word s at) ≡ take 4 (drop at s)
  unfolding word
  word_same at h =
      let e1 : suc at ≡ at + 1 = omega arith in
      let e2 : suc (at + 1) ≡ at + 2 = omega arith in
      let e3 : suc (at + 2) ≡ at + 3 = omega arith in
      digits _ _ _ _ (bytes at) (bytes (at + 1)) (bytes (at + 2)) (bytes (at + 3))
      ∙ sym (ap (take 4) (drop-cons s at 0 (omega arith))
      ∙ ap (λ (l : List ℕ). get_or s at 0 ∷ take 3 l) (ap (λ (k : ℕ). drop k s) e1 ∙ drop-cons s (at + 1) 0 (omega arith))
      ∙ ap (λ (l : List ℕ). get_or s at 0 ∷ get_or s (at + 1) 0 ∷ take 2 l) (ap (λ (k : ℕ). drop k s) e2 ∙ drop-cons s (at + 2) 0 (omega arith))
      ∙ ap (λ (l : List ℕ). get_or s at 0 ∷ get_or s (at + 1) 0 ∷ get_or s (at + 2) 0 ∷ take 1 l) (ap (λ (k : ℕ). drop k s) e3 ∙ drop-cons s (at + 3) 0 (omega arith)))

pub word_at : (l t : List ℕ) (k n : ℕ) → drop k l ≡ word_bytes n ++ t → n < 4294967296 → word l k ≡ n
word_at l t k n e h =
    ap (word l) (sym (add-zero k)) ∙ sym (word_drop l k 0) ∙ ap (λ (x : List ℕ). word x 0) e ∙ word_back n t h
