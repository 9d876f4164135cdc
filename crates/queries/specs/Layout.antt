-- How the records of a file stand in bytes, said once for every form: what one record must be, and what follows of each place and of lists.
--     Layout             how a record is written and read, that each undoes the other, and how long it is
--     read-back          what was put at a place is read there
--     write_back         to put the record that stands at a place there again changes nothing
--     same_record        no two records have the same bytes
--     joined_more        records one behind another, one more at the end; `length_joined` how long they are; `read_more` the same of records read
--     read_joined        so many read from where they were joined are they
--     joined_read        so many read and joined are the bytes that stood there
-- Assumes nothing.
use Prim.Native.Nat.{ℕ, zero, suc, ◌+◌, ◌*◌, ◌≤◌, ◌<◌}
use Rattle.std.specs.Prelude.{◌≡◌, get_or, drop}
use Rattle.std.proofs.Math.Path.{refl, sym, ap}
use Rattle.std.proofs.Common.{◌∙◌, arith, take-add, drop-drop}
use mathlib.Core.List.{List, [], ◌∷◌, ◌++◌, append_assoc, append-nil}
use Rattle.std.proofs.Math.ListN.{length, take, length-append}
use Rattle.std.proofs.Math.Seq.{drop-append_seam}
use Rattle.rules.specs.declared.Form.{Form}
use Rattle.rules.specs.QueryFile.{joined, read_from, put}
use Rattle.little.specs.Put.{drop_put, put_same}
use Rattle.little.specs.Word.{Bytes}
use Rattle.queries.specs.Sizes.{size_zero, size_suc}

pub record Layout (form : Form) (R : Type 0) : Type 1 where
  pub bytes : R → List ℕ
  pub read : List ℕ → ℕ → R
  pub Held : R → Type 0
  pub four_long : length form.mark ≡ 4
  pub small : form.size < 256
  pub long : (r : R) → Held r → length (bytes r) ≡ form.size
  pub read_drop : (s : List ℕ) (at : ℕ) → read (drop at s) 0 ≡ read s at
  pub front : (r : R) (t : List ℕ) → Held r → read (bytes r ++ t) 0 ≡ r
  pub same : (s : List ℕ) (at : ℕ) → Bytes s → at + form.size ≤ length s → bytes (read s at) ≡ take form.size (drop at s)
  pub read_held : (s : List ℕ) (at : ℕ) → Bytes s → Held (read s at)

-- each of a list is such
abbrev pub All : {R : Type 0} → (R → Type 0) → List R → Type 0
All P [] = Unit {0}
All P (r ∷ rs) = P r × All P rs

-- ---- lists
module _ {R : Type 0} (bytes : R → List ℕ) where
  pub joined_more : (rs : List R) (r : R) → joined bytes (rs ++ (r ∷ [])) ≡ joined bytes rs ++ bytes r
  unfolding joined
  joined_more [] r = append-nil (bytes r)
  joined_more (x ∷ rs) r = rw (joined_more rs r) (sym (append_assoc (bytes x) (joined bytes rs) (bytes r)))

module _ {R : Type 0} (read : List ℕ → ℕ → R) (size : ℕ) (s : List ℕ) where
  pub read_more : (n at : ℕ) → read_from read size s at (suc n) ≡ read_from read size s at n ++ (read s (at + size * n) ∷ [])
  unfolding read_from
  read_more zero at = let e : at ≡ at + size * 0 = omega (arith, size_zero size) in ap (λ (k : ℕ). read s k ∷ []) e
  read_more (suc n) at =
      let e : at + size + size * n ≡ at + size * suc n = omega (arith, size_suc size n) in
      ap (λ (l : List R). read s at ∷ l) (read_more n (at + size) ∙ ap (λ (k : ℕ). read_from read size s (at + size) n ++ (read s k ∷ [])) e)

  pub length_read : (n at : ℕ) → length (read_from read size s at n) ≡ n
  unfolding read_from
  length_read zero at = refl
  length_read (suc n) at = ap suc (length_read n (at + size))

module _ {form : Form} {R : Type 0} (w : Layout form R) where
  -- ---- one record
  pub at_front : (before rest : List ℕ) (r : R) → w.Held r → w.read (before ++ (w.bytes r ++ rest)) (length before) ≡ r
  at_front before rest r h =
      sym (w.read_drop (before ++ (w.bytes r ++ rest)) (length before))
      ∙ ap (λ (l : List ℕ). w.read l 0) (drop-append_seam before (w.bytes r ++ rest))
      ∙ w.front r rest h

  pub read_back : (s : List ℕ) (at : ℕ) (r : R) → w.Held r → at + form.size ≤ length s → w.read (put s at (w.bytes r)) at ≡ r
  read_back s at r h room =
      sym (w.read_drop (put s at (w.bytes r)) at)
      ∙ ap (λ (l : List ℕ). w.read l 0) (drop_put s at (w.bytes r) (omega (arith, w.long r h)))
      ∙ w.front r (drop (at + length (w.bytes r)) s) h

  pub same_record : (r r' : R) → w.Held r → w.Held r' → w.bytes r ≡ w.bytes r' → r ≡ r'
  same_record r r' h h' e = sym (w.front r [] h) ∙ ap (λ (l : List ℕ). w.read (l ++ []) 0) e ∙ w.front r' [] h'

  pub write_back : (s : List ℕ) (at : ℕ) → Bytes s → at + form.size ≤ length s → put s at (w.bytes (w.read s at)) ≡ s
  write_back s at b room = ap (put s at) (w.same s at b room) ∙ put_same s at form.size room

  -- ---- lists of them
  pub length_joined : (rs : List R) → All w.Held rs → length (joined w.bytes rs) ≡ form.size * length rs
  unfolding joined
  length_joined [] h = sym (size_zero form.size)
  length_joined (r ∷ rs) h =
      length-append (w.bytes r) (joined w.bytes rs)
      ∙ (λ i. w.long r h.0 i + length_joined rs h.1 i)
      ∙ sym (size_suc form.size (length rs))

  pub read_joined : (rs : List R) (before rest : List ℕ) → All w.Held rs
      → read_from w.read form.size (before ++ joined w.bytes rs ++ rest) (length before) (length rs) ≡ rs
  unfolding joined read_from
  read_joined [] before rest h = refl
  read_joined (r ∷ rs) before rest h =
      let bytes = joined w.bytes rs in
      let s = before ++ (w.bytes r ++ bytes) ++ rest in
      let e : s ≡ before ++ (w.bytes r ++ (bytes ++ rest)) = simp append_assoc in
      let one : w.read s (length before) ≡ r = ap (λ (l : List ℕ). w.read l (length before)) e ∙ at_front before (bytes ++ rest) r h.0 in
      let f : s ≡ before ++ w.bytes r ++ bytes ++ rest = simp append_assoc in
      let p : length before + form.size ≡ length (before ++ w.bytes r) = omega (arith, length-append before (w.bytes r), w.long r h.0) in
      let more : read_from w.read form.size s (length before + form.size) (length rs) ≡ rs =
      ap (λ (l : List ℕ). read_from w.read form.size l (length before + form.size) (length rs)) f
      ∙ ap (λ (k : ℕ). read_from w.read form.size (before ++ w.bytes r ++ bytes ++ rest) k (length rs)) p
      ∙ read_joined rs (before ++ w.bytes r) rest h.1 in
      λ i. one i ∷ more i

  pub record_in : (rs : List R) (none : R) (k : ℕ) (before rest : List ℕ) → All w.Held rs → k < length rs
      → w.read (before ++ joined w.bytes rs ++ rest) (length before + form.size * k) ≡ get_or rs k none
  unfolding joined
  record_in [] none k before rest h l = absurd (omega arith)
  record_in (r ∷ rs) none zero before rest h l =
      let bytes = joined w.bytes rs in
      let s = before ++ (w.bytes r ++ bytes) ++ rest in
      let e : s ≡ before ++ (w.bytes r ++ (bytes ++ rest)) = simp append_assoc in
      let p : length before + form.size * 0 ≡ length before = omega (arith, size_zero form.size) in
      ap (w.read s) p ∙ ap (λ (x : List ℕ). w.read x (length before)) e ∙ at_front before (bytes ++ rest) r h.0
  record_in (r ∷ rs) none (suc k) before rest h l =
      let one = w.bytes r in
      let bytes = joined w.bytes rs in
      let e : before ++ (one ++ bytes) ++ rest ≡ before ++ one ++ bytes ++ rest = simp append_assoc in
      let p : length before + form.size * suc k ≡ length (before ++ one) + form.size * k =
      omega (arith, length-append before one, w.long r h.0, size_suc form.size k) in
      ap (λ (x : List ℕ). w.read x (length before + form.size * suc k)) e
      ∙ ap (w.read (before ++ one ++ bytes ++ rest)) p
      ∙ record_in rs none k (before ++ one) rest h.1 (omega arith)

  pub joined_read : (n : ℕ) (s : List ℕ) (at : ℕ) → Bytes s → at + form.size * n ≤ length s
      → joined w.bytes (read_from w.read form.size s at n) ≡ take (form.size * n) (drop at s)
  unfolding read_from joined
  joined_read zero s at b h = ap (λ (n : ℕ). take n (drop at s)) (sym (size_zero form.size))
  joined_read (suc n) s at b h =
      let size = form.size in
      let e : size * suc n ≡ size + size * n = size_suc size n in
      let one = w.same s at b (omega arith) in
      let rest = joined_read n s (at + size) b (omega arith) in
      (λ i. one i ++ rest i)
      ∙ ap (λ (l : List ℕ). take size (drop at s) ++ take (size * n) l) (sym (drop-drop size at s))
      ∙ sym (take-add size (size * n) (drop at s))
      ∙ ap (λ (k : ℕ). take k (drop at s)) (sym e)

  pub all_held : (n : ℕ) (s : List ℕ) (at : ℕ) → Bytes s → All w.Held (read_from w.read form.size s at n)
  unfolding read_from
  all_held zero s at b = tt
  all_held (suc n) s at b = (w.read_held s at b, all_held n s (at + form.size) b)
