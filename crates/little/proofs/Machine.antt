-- std's words for bytes, in the rules' words: `from_le_bytes`, `to_le_bytes`, two equal arrays of four, and a part of a slice that was copied over.
-- Assumes nothing.
use Rattle.std.specs.Prelude.{ℕ, ◌+◌, ◌≡◌, refl, List, [], ◌∷◌, length, get_or}
use Rattle.std.proofs.Common.{sym, ap, ◌∙◌, arith, append_assoc, drop-drop, nat_eq}
use Rattle.std.specs.Int.{w32, to_le_bytes, from_le_bytes}
use Rattle.std.specs.Cmp.Lexicographic.{pointwise}
use borrow.Rule.Slice.PartMut.{put_mid}
use Rattle.little.specs.Stands.{four}
use Rattle.rules.specs.QueryFile.{word, word_bytes, stands, put}

-- the four bytes from a place on
abbrev pub four_at : List ℕ → ℕ → List ℕ
four_at s at = get_or s at 0 ∷ get_or s (at + 1) 0 ∷ get_or s (at + 2) 0 ∷ get_or s (at + 3) 0 ∷ []

pub word_is : (s : List ℕ) (at : ℕ) → from_le_bytes w32 (four_at s at) ≡ word s at
unfolding word
word_is s at = omega arith

pub word_bytes_is : (n : ℕ) → to_le_bytes w32 n ≡ word_bytes n
unfolding word_bytes
word_bytes_is n = refl

four_stand : (s : List ℕ) (at a b c d : ℕ) → pointwise nat_eq (four_at s at) (a ∷ b ∷ c ∷ d ∷ []) ≡ stands s at (a ∷ b ∷ c ∷ d ∷ [])
unfolding stands
four_stand s at a b c d =
    let e2 : at + 1 + 1 ≡ at + 2 = omega arith in
    let e3 : at + 2 + 1 ≡ at + 3 = omega arith in
    rw (e2, e3) refl

pub stands_is : (s : List ℕ) (at : ℕ) (bytes : List ℕ) → length bytes ≡ 4 → pointwise nat_eq (four_at s at) bytes ≡ stands s at bytes
stands_is s at bytes e =
    ap (pointwise nat_eq (four_at s at)) (four bytes e) ∙ four_stand s at _ _ _ _ ∙ ap (stands s at) (sym (four bytes e))

pub put_mid_is : (s bytes : List ℕ) (at k : ℕ) → length bytes ≡ k → put_mid at k s bytes ≡ put s at bytes
unfolding put
put_mid_is s bytes at k e = rw (drop-drop, ← append_assoc, e) refl
