-- Laws of a walk over a list whose front is written and whose rest is still as it was.
use Rattle.std.specs.Prelude.{◌≡◌, List, ◌∷◌, ◌++◌, map, ℕ, ◌+◌, ◌≤◌, ◌<◌, length, get_or, set, take, drop}
use Rattle.std.proofs.Common.{sym, ap, ◌∙◌, add-zero, add-one, get_or-drop, drop-drop, take-suc-set}
use Rattle.std.proofs.lemmas.List.{map-append}
use Rattle.std.proofs.Math.Seq.{append_snoc, slice-cons}
use Rattle.rules.specs.Search.{Box}
use Rattle.boxes.specs.Boxes.{box_of}

-- two lists that agree from i on agree at each later place, and from i + 1 on
pub same_later : (i k : ℕ) (q p : List ℕ) → drop i q ≡ drop i p → get_or q (i + k) 0 ≡ get_or p (i + k) 0
same_later i k q p e = sym (get_or-drop i q k 0) ∙ ap (λ (l : List ℕ). get_or l k 0) e ∙ get_or-drop i p k 0

pub same_at : (i : ℕ) (q p : List ℕ) → drop i q ≡ drop i p → get_or q i 0 ≡ get_or p i 0
same_at i q p e = simp add-zero at (same_later i 0 q p e)

pub same_after : (i : ℕ) (q p : List ℕ) → drop i q ≡ drop i p → drop (i + 1) q ≡ drop (i + 1) p
same_after i q p e = sym (drop-drop 1 i q) ∙ ap (λ (l : List ℕ). drop 1 l) e ∙ drop-drop 1 i p

-- the part from i to n, by its first word and the part from i + 1
pub part_cons : (i n : ℕ) (l : List ℕ) → i < n → n ≤ length l → drop i (take n l) ≡ get_or l i 0 ∷ drop (i + 1) (take n l)
part_cons i n l h k = rw (add-one) (slice-cons i n l 0 h k)

-- a word stored at the end of the front is one box more there
pub put : (m : ℕ) (q : List ℕ) (w : ℕ) (rest : List Box) → m < length q
    → map box_of (take (m + 1) (set q m w)) ++ rest ≡ map box_of (take m q) ++ box_of w ∷ rest
put m q w rest h = rw (add-one, take-suc-set q m w h, map-append) (append_snoc (map box_of (take m q)) (box_of w) rest)
