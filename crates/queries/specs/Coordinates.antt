-- Laws of `coordinates_at` and `coordinate_bytes`: one coordinate more at the end, as a loop adds it; written and read back they are the same.
-- Assumes nothing.
use Rattle.std.specs.Prelude.{ℕ, zero, suc, ◌+◌, ◌*◌, ◌≤◌, ◌<◌, ◌≡◌, refl, cond, List, [], ◌∷◌, ◌++◌, ℤ, pos, length, take, drop, set, get_or}
use Rattle.std.proofs.Common.{sym, ap, ◌∙◌, append_assoc, append-nil, add_assoc, arith, add-one, length-append, take-suc, take-suc-set, take-add, drop-drop, length-take-le, SFits}
use Rattle.std.proofs.Math.Seq.{take-length}
use Rattle.std.specs.Int.{w32}
use Rattle.little.specs.Put.{put_put, length_put}
use Rattle.little.specs.Word.{Bytes, length_word, word_drop, word_back, word_lt, word_same}
use Rattle.little.specs.Signed.{signed_bits, signed_fits, bits_signed, bits_below}
use Rattle.rules.specs.QueryFile.{is_wide, word, word_bytes, signed, bits, coordinates_at, coordinate_bytes, put}

-- where the points of a record at `at` stand
abbrev pub points_place : ℕ → ℕ → ℕ
points_place edition at = at + cond (is_wide edition) 32 20

-- a coordinate by its number
pub coords_at : (s : List ℕ) (at n i : ℕ) → i < n → get_or (coordinates_at s at n) i (pos 0) ≡ signed (word s (at + 4 * i))
unfolding coordinates_at
coords_at s at zero i h = absurd (omega arith)
coords_at s at (suc n) zero h = let e : at ≡ at + 4 * 0 = omega arith in ap (λ (k : ℕ). signed (word s k)) e
coords_at s at (suc n) (suc i) h =
    let e : at + 4 + 4 * i ≡ at + 4 * suc i = omega arith in coords_at s (at + 4) n i (omega arith) ∙ ap (λ (k : ℕ). signed (word s k)) e

pub coords_more : (s : List ℕ) (at n : ℕ) → coordinates_at s at (suc n) ≡ coordinates_at s at n ++ (signed (word s (at + 4 * n)) ∷ [])
unfolding coordinates_at
coords_more s at zero = let e : at ≡ at + 4 * 0 = omega arith in ap (λ (k : ℕ). signed (word s k) ∷ []) e
coords_more s at (suc n) =
    let e : at + 4 + 4 * n ≡ at + 4 * suc n = omega arith in
    ap (λ (l : List ℤ). signed (word s at) ∷ l)
    (coords_more s (at + 4) n ∙ ap (λ (k : ℕ). coordinates_at s (at + 4) n ++ (signed (word s k) ∷ [])) e)

pub bytes_more : (zs : List ℤ) (z : ℤ) → coordinate_bytes (zs ++ (z ∷ [])) ≡ coordinate_bytes zs ++ word_bytes (bits z)
unfolding coordinate_bytes
bytes_more [] z = append-nil (word_bytes (bits z))
bytes_more (x ∷ zs) z = rw (bytes_more zs z) (sym (append_assoc (word_bytes (bits x)) (coordinate_bytes zs) (word_bytes (bits z))))

pub length_bytes : (zs : List ℤ) → length (coordinate_bytes zs) ≡ 4 * length zs
unfolding coordinate_bytes
length_bytes [] = refl
length_bytes (z ∷ zs) = simp length-append (omega (arith, length_word (bits z), length_bytes zs))

-- ---- one turn of the loop that reads, and its end
module _ (s : List ℕ) (at : ℕ) (p : List ℤ) (i : ℕ) (inv : take i p ≡ coordinates_at s at i) where
  pub read_more : (v : ℤ) → i < length p → v ≡ signed (word s (at + 4 * i)) → take (i + 1) (set p i v) ≡ coordinates_at s at (i + 1)
  read_more v h e =
      rw (add-one i) (take-suc-set p i v h ∙ ap (λ (l : List ℤ). l ++ (v ∷ [])) inv ∙ ap (λ (z : ℤ). coordinates_at s at i ++ (z ∷ [])) e ∙ sym (coords_more s at i))

  pub read_end : i ≡ length p → p ≡ coordinates_at s at i
  read_end e = sym (ap (λ (n : ℕ). take n p) e ∙ take-length p) ∙ inv

-- ---- one turn of the loop that writes
module _ (s₀ : List ℕ) (at : ℕ) (p : List ℤ) (i : ℕ) (room : at + 4 * length p ≤ length s₀) where
  length_first : i ≤ length p → length (coordinate_bytes (take i p)) ≡ 4 * i
  length_first h = length_bytes (take i p) ∙ ap (λ (n : ℕ). 4 * n) (length-take-le i p h)

  pub write_length : (s : List ℕ) → i ≤ length p → s ≡ put s₀ at (coordinate_bytes (take i p)) → length s ≡ length s₀
  write_length s h inv = ap length inv ∙ length_put s₀ at (coordinate_bytes (take i p)) (omega (arith, length_first h))

  pub write_more : (s s' : List ℕ) (z : ℤ) → i < length p → s ≡ put s₀ at (coordinate_bytes (take i p)) → z ≡ get_or p i (pos 0)
      → s' ≡ put s (at + 4 * i) (word_bytes (bits z)) → s' ≡ put s₀ at (coordinate_bytes (take (i + 1) p))
  write_more s s' z h inv ez new =
      let n : length (coordinate_bytes (take i p)) ≡ 4 * i = length_first (omega arith) in
      new
      ∙ ap (λ (l : List ℕ). put l (at + 4 * i) (word_bytes (bits z))) inv
      ∙ ap (λ (k : ℕ). put (put s₀ at (coordinate_bytes (take i p))) (at + k) (word_bytes (bits z))) (sym n)
      ∙ put_put s₀ at (coordinate_bytes (take i p)) (omega arith) (word_bytes (bits z))
      ∙ ap (λ (l : List ℕ). put s₀ at l)
      (sym (bytes_more (take i p) z) ∙ ap (λ (x : ℤ). coordinate_bytes (take i p ++ (x ∷ []))) ez ∙ ap coordinate_bytes (sym (take-suc p i (pos 0) h) ∙ ap (λ (k : ℕ). take k p) (sym (add-one i))))

-- ---- written and read back, read and written back
pub coordinates_drop : (n : ℕ) (s : List ℕ) (at k : ℕ) → coordinates_at (drop at s) k n ≡ coordinates_at s (at + k) n
unfolding coordinates_at
coordinates_drop zero s at k = refl
coordinates_drop (suc n) s at k =
    rw (word_drop s at k, coordinates_drop n s at (k + 4), ← add_assoc at k 4)

-- each number is one that 32 bits hold
abbrev pub Each : List ℤ → Type 0
Each [] = Unit {0}
Each (z ∷ zs) = SFits w32 z × Each zs

drop_word : (n : ℕ) (xs ys : List ℕ) → drop 4 (word_bytes n ++ xs ++ ys) ≡ xs ++ ys
unfolding word_bytes
drop_word n xs ys = refl

pub coordinates_back : (zs : List ℤ) (t : List ℕ) → Each zs → coordinates_at (coordinate_bytes zs ++ t) 0 (length zs) ≡ zs
unfolding coordinates_at coordinate_bytes
coordinates_back [] t h = refl
coordinates_back (z ∷ zs) t h =
    let l = word_bytes (bits z) ++ coordinate_bytes zs ++ t in
    let e : word l 0 ≡ bits z =
    ap (λ (x : List ℕ). word x 0) (append_assoc (word_bytes (bits z)) (coordinate_bytes zs) t) ∙ word_back (bits z) (coordinate_bytes zs ++ t) (bits_below z h.0) in
    let r : coordinates_at l 4 (length zs) ≡ zs =
    sym (coordinates_drop (length zs) l 4 0)
    ∙ ap (λ (x : List ℕ). coordinates_at x 0 (length zs)) (drop_word (bits z) (coordinate_bytes zs) t)
    ∙ coordinates_back zs t h.1 in
    rw (e, r, signed_bits z h.0)

pub coordinates_same : (n : ℕ) (s : List ℕ) (at : ℕ) → Bytes s → at + 4 * n ≤ length s → coordinate_bytes (coordinates_at s at n) ≡ take (4 * n) (drop at s)
unfolding coordinates_at coordinate_bytes
coordinates_same zero s at b h = refl
coordinates_same (suc n) s at b h =
    let e : 4 * suc n ≡ 4 + 4 * n = omega arith in
    rw (e, take-add 4 (4 * n) (drop at s), drop-drop 4 at s, bits_signed (word s at) (word_lt s b at), word_same s b at (omega arith), coordinates_same n s (at + 4) b (omega arith))

pub each_read : (n : ℕ) (s : List ℕ) (at : ℕ) → Bytes s → (length (coordinates_at s at n) ≡ n) × Each (coordinates_at s at n)
unfolding coordinates_at
each_read zero s at b = (refl, tt)
each_read (suc n) s at b = let h = each_read n s (at + 4) b in (ap suc h.0, (signed_fits (word s at) (word_lt s b at), h.1))
