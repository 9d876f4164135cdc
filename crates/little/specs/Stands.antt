-- Laws of `stands`: bytes compared one by one.
--     four, stands_four           four bytes at once, as the code compares them
--     stands_there, stands_bytes  bytes stand at a place exactly where the list goes on with them
-- Assumes nothing.
use Rattle.std.specs.Prelude.{ℕ, suc, ◌+◌, ◌≤◌, ◌≡◌, refl, Bool, true, false, ◌&&◌, List, [], ◌∷◌, ◌++◌, eqb, length, get_or, take, drop}
use Rattle.std.proofs.Common.{sym, ap, ◌∙◌, add-zero, arith, add-one, eq-eqb, eqb-true, get_or-drop, drop-cons, drop-drop}
use Rattle.std.proofs.Math.Bool.{and-eq-true_iff}
use Rattle.rules.specs.QueryFile.{stands}

-- a list of four is its four
pub four : (l : List ℕ) → length l ≡ 4 → l ≡ get_or l 0 0 ∷ get_or l 1 0 ∷ get_or l 2 0 ∷ get_or l 3 0 ∷ []
four [] h = absurd (omega arith)
four (a ∷ []) h = absurd (omega arith)
four (a ∷ b ∷ []) h = absurd (omega arith)
four (a ∷ b ∷ c ∷ []) h = absurd (omega arith)
four (a ∷ b ∷ c ∷ d ∷ []) h = refl
four (a ∷ b ∷ c ∷ d ∷ e ∷ l) h = absurd (omega arith)

-- `&&` from the left is `&&` from the right
regroup : (w x y z : Bool) → (w && x && y && z) ≡ (w && (x && (y && (z && true))))
regroup false x y z = refl
regroup true false y z = refl
regroup true true false z = refl
regroup true true true false = refl
regroup true true true true = refl

pub stands_four : (s : List ℕ) (at a b c d : ℕ) → (eqb (get_or s at 0) a && eqb (get_or s (at + 1) 0) b && eqb (get_or s (at + 2) 0) c && eqb (get_or s (at + 3) 0) d) ≡ stands s at (a ∷ b ∷ c ∷ d ∷ [])
unfolding stands
stands_four s at a b c d =
    let e2 : at + 1 + 1 ≡ at + 2 = omega arith in
    let e3 : at + 2 + 1 ≡ at + 3 = omega arith in
    rw (e2, e3) (regroup (eqb (get_or s at 0) a) (eqb (get_or s (at + 1) 0) b) (eqb (get_or s (at + 2) 0) c) (eqb (get_or s (at + 3) 0) d))

-- bytes that a list goes on with stand there
pub stands_there : (bytes rest s : List ℕ) (at : ℕ) → drop at s ≡ bytes ++ rest → stands s at bytes ≡ true
unfolding stands
stands_there [] rest s at e = refl
stands_there (b ∷ bytes) rest s at e =
    let g : get_or s at 0 ≡ b = ap (λ (k : ℕ). get_or s k 0) (sym (add-zero at)) ∙ sym (get_or-drop at s 0 0) ∙ ap (λ (l : List ℕ). get_or l 0 0) e in
    let d : drop (at + 1) s ≡ bytes ++ rest = sym (drop-drop 1 at s) ∙ ap (drop 1) e in
    rw (eq-eqb (get_or s at 0) b g, stands_there bytes rest s (at + 1) d)

-- and bytes that stand there are what the list goes on with
pub stands_bytes : (bytes s : List ℕ) (at : ℕ) → at + length bytes ≤ length s → stands s at bytes ≡ true → take (length bytes) (drop at s) ≡ bytes
unfolding stands
stands_bytes [] s at h e = refl
stands_bytes (b ∷ bytes) s at h e =
    let both = (and-eq-true_iff (eqb (get_or s at 0) b) (stands s (at + 1) bytes)).0 e in
    let here : get_or s at 0 ≡ b = eqb-true (get_or s at 0) b both.0 in
    let rest : take (length bytes) (drop (at + 1) s) ≡ bytes = stands_bytes bytes s (at + 1) (omega arith) both.1 in
    ap (take (suc (length bytes))) (drop-cons s at 0 (omega arith))
    ∙ ap (λ (k : ℕ). get_or s at 0 ∷ take (length bytes) (drop k s)) (sym (add-one at))
    ∙ (λ i. here i ∷ rest i)
