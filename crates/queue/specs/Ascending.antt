-- Words in ascending order. Equal ones may follow each other here; that no box comes twice is said of the written search (crates/promise).
use Rattle.std.specs.Prelude.{List, [], ◌∷◌, ◌++◌, ℕ, zero, suc, ◌≤◌, ◌<◌, length, get_or, drop}
use Rattle.std.proofs.Common.{not-suc-le-zero, le_of_suc-le-suc, arith}
use Rattle.queue.specs.All.{All, all_snoc}

-- no word is less than one before it
abbrev pub Ascending : List ℕ → Type 0
Ascending [] = Unit
Ascending (w ∷ ws) = All (λ v. w ≤ v) ws × Ascending ws

-- one more at the end
pub ascending_snoc : (ws : List ℕ) (w : ℕ) → Ascending ws → All (λ v. v ≤ w) ws → Ascending (ws ++ (w ∷ []))
ascending_snoc [] w a h = (tt, tt)
ascending_snoc (v ∷ ws) w a h = (all_snoc (λ x. v ≤ x) ws w a.0 h.0, ascending_snoc ws w a.1 h.1)

-- one less anywhere
all_without : (P : ℕ → Type 0) (xs : List ℕ) (y : ℕ) (ys : List ℕ) → All P (xs ++ (y ∷ ys)) → All P (xs ++ ys)
all_without P [] y ys a = a.1
all_without P (x ∷ xs) y ys a = (a.0, all_without P xs y ys a.1)

pub ascending_without : (xs : List ℕ) (y : ℕ) (ys : List ℕ) → Ascending (xs ++ (y ∷ ys)) → Ascending (xs ++ ys)
ascending_without [] y ys a = a.1
ascending_without (x ∷ xs) y ys a = (all_without (λ v. x ≤ v) xs y ys a.0, ascending_without xs y ys a.1)

-- what follows from the order of two words holds of a word and each from it on
module _ (P : ℕ → Type 0) (R : ℕ → ℕ → Type 0) (follows : (w v : ℕ) → P w → P v → w ≤ v → R w v) where
  each : (w : ℕ) (vs : List ℕ) → P w → All (λ v. w ≤ v) vs → All P vs → All (R w) vs
  each w [] p a h = tt
  each w (v ∷ vs) p a h = (follows w v p h.0 a.0, each w vs p a.1 h.1)

  pub ascending_from : (ws : List ℕ) (i : ℕ) → Ascending ws → All P ws → i < length ws → All (R (get_or ws i 0)) (drop i ws)
  ascending_from [] i a h l = absurd (not-suc-le-zero l)
  ascending_from (w ∷ ws) zero a h l = (follows w w h.0 h.0 (omega arith), each w ws h.0 a.0 h.1)
  ascending_from (w ∷ ws) (suc i) a h l = ascending_from ws i a.1 h.1 (le_of_suc-le-suc l)
