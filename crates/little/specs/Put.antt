-- Laws of `put`: a run of bytes written into a list.
--     put_one, put4          one store, and four in a row, are one run
--     length_put             the length stays
--     put_nil                a run of no bytes changes nothing
--     put_put, one_more      two runs, the second right behind the first, are one
--     drop_put               what stands from the place on afterwards
--     put_same               a run written over itself changes nothing
--     put_below, put_above   no other byte changes
-- Assumes nothing.
use Rattle.std.specs.Prelude.{ℕ, suc, ◌+◌, ◌-◌, ◌≤◌, ◌<◌, ◌≡◌, set}
use Rattle.std.proofs.Common.{sym, ◌∙◌, add-zero, length-drop, take-append-drop, drop_at, take-add}
use Rattle.std.proofs.Math.Path.{ap}
use mathlib.Core.List.{List, [], ◌∷◌, ◌++◌, append_assoc, append-nil}
use native.Mathlib.Omega.{arith}
use Rattle.std.proofs.Math.ListN.{length, get_or, take, drop, length-append, get_or-append}
use Rattle.std.proofs.lemmas.List.Edits.{sets-eq}
use Rattle.std.proofs.Math.Seq.{length-take-le, take_at, drop-append-add, drop-drop, get_or-take, get_or-append-add, get_or-drop}
use Rattle.rules.specs.QueryFile.{put}

pub put_one : {A : Type 0} (s : List A) (at : ℕ) (b : A) → at + 1 ≤ length s → set s at b ≡ put s at (b ∷ [])
unfolding put
put_one s at b h = sets-eq (b ∷ []) s at h

-- four stores in a row are one run put in
pub put4 : {A : Type 0} (s : List A) (at : ℕ) (a b c d : A) → at + 4 ≤ length s → set (set (set (set s at a) (at + 1) b) (at + 2) c) (at + 3) d ≡ put s at (a ∷ b ∷ c ∷ d ∷ [])
unfolding put
put4 s at a b c d h =
    let e1 : at + 1 ≡ suc at = omega arith in
    let e2 : at + 2 ≡ suc (suc at) = omega arith in
    let e3 : at + 3 ≡ suc (suc (suc at)) = omega arith in
    rw (e1, e2, e3) (sets-eq (a ∷ b ∷ c ∷ d ∷ []) s at h)

pub put_nil : {A : Type 0} (s : List A) (at : ℕ) → put s at [] ≡ s
unfolding put
put_nil s at = simp (append-nil, add-zero, take-append-drop)

module _ {A : Type 0} (s : List A) (at : ℕ) (xs : List A) (fits : at + length xs ≤ length s) where
  length_head : length (take at s ++ xs) ≡ at + length xs
  length_head = simp (length-append) (omega (arith, length-take-le at s (omega arith)))

  pub length_put : length (put s at xs) ≡ length s
  unfolding put
  length_put = simp (length-append, length-drop) (omega (arith, length-take-le at s (omega arith)))

  pub drop_put : drop at (put s at xs) ≡ xs ++ drop (at + length xs) s
  unfolding put
  drop_put = rw append_assoc (drop_at (take at s) (xs ++ drop (at + length xs) s) at (length-take-le at s (omega arith)))

  pub put_put : (ys : List A) → put (put s at xs) (at + length xs) ys ≡ put s at (xs ++ ys)
  unfolding put
  put_put ys =
      let H = take at s ++ xs in
      let D = drop (at + length xs) s in
      let t : take (at + length xs) (H ++ D) ≡ H = take_at H D (at + length xs) length_head in
      let d : drop (at + length xs + length ys) (H ++ D) ≡ drop (at + length xs + length ys) s =
      ap (λ (n : ℕ). drop (n + length ys) (H ++ D)) (sym length_head) ∙ drop-append-add H D (length ys) ∙ drop-drop (length ys) (at + length xs) s in
      let e : at + length xs + length ys ≡ at + length (xs ++ ys) = omega (arith, length-append xs ys) in
      ap (λ (l : List A). l ++ ys ++ drop (at + length xs + length ys) (H ++ D)) t
      ∙ ap (λ (l : List A). H ++ ys ++ l) (d ∙ ap (λ (n : ℕ). drop n s) e)
      ∙ ap (λ (l : List A). l ++ drop (at + length (xs ++ ys)) s) (append_assoc (take at s) xs ys)

  pub put_below : (i : ℕ) (d : A) → i < at → get_or (put s at xs) i d ≡ get_or s i d
  unfolding put
  put_below i d h =
      let n : length (take at s) ≡ at = length-take-le at s (omega arith) in
      ap (λ (l : List A). get_or l i d) (append_assoc (take at s) xs (drop (at + length xs) s))
      ∙ get_or-append (take at s) (xs ++ drop (at + length xs) s) d i (omega arith)
      ∙ get_or-take at s i d h

  pub put_above : (i : ℕ) (d : A) → at + length xs ≤ i → get_or (put s at xs) i d ≡ get_or s i d
  unfolding put
  put_above i d h =
      let H = take at s ++ xs in
      let n : length H ≡ at + length xs = length-append (take at s) xs ∙ ap (λ (k : ℕ). k + length xs) (length-take-le at s (omega arith)) in
      let j = i - (at + length xs) in
      let e : i ≡ length H + j = omega arith in
      let e' : at + length xs + j ≡ i = omega arith in
      ap (λ (k : ℕ). get_or (H ++ drop (at + length xs) s) k d) e
      ∙ get_or-append-add H (drop (at + length xs) s) j d
      ∙ get_or-drop (at + length xs) s j d
      ∙ ap (λ (k : ℕ). get_or s k d) e'

pub put_same : {A : Type 0} (s : List A) (at n : ℕ) → at + n ≤ length s → put s at (take n (drop at s)) ≡ s
unfolding put
put_same s at n h =
    let e : length (take n (drop at s)) ≡ n = length-take-le n (drop at s) (simp length-drop (omega arith)) in
    rw (e, ← take-add) (take-append-drop (at + n) s)

-- one run more: s₁ is s₀ with xs at `at`, and s₂ is s₁ with ys right behind
pub one_more : {A : Type 0} (s₀ s₁ s₂ : List A) (at k : ℕ) (xs ys : List A) → s₁ ≡ put s₀ at xs → s₂ ≡ put s₁ k ys → k ≡ at + length xs → at + length xs ≤ length s₀ → s₂ ≡ put s₀ at (xs ++ ys)
one_more {A} s₀ s₁ s₂ at k xs ys e₁ e₂ ek h =
    e₂ ∙ ap (λ (l : List A). put l k ys) e₁ ∙ ap (λ (n : ℕ). put (put s₀ at xs) n ys) ek ∙ put_put s₀ at xs h ys
