-- What holds of every word of a list.
use Rattle.std.specs.Prelude.{List, [], ◌∷◌, ◌++◌, ℕ, zero, suc, ◌≤◌, ◌<◌, length, get_or, take}
use Rattle.std.proofs.Common.{not-suc-le-zero, le_of_suc-le-suc, get_or-take, length-take-le}

abbrev pub All : (ℕ → Type 0) → List ℕ → Type 0
All P [] = Unit
All P (w ∷ ws) = P w × All P ws

module _ (P : ℕ → Type 0) where
  pub all_snoc : (ws : List ℕ) (w : ℕ) → All P ws → P w → All P (ws ++ (w ∷ []))
  all_snoc [] w a h = (h, tt)
  all_snoc (v ∷ ws) w a h = (a.0, all_snoc ws w a.1 h)

  pub all_at : (ws : List ℕ) (i : ℕ) → All P ws → i < length ws → P (get_or ws i 0)
  all_at [] i a l = absurd (not-suc-le-zero l)
  all_at (w ∷ ws) zero a l = a.0
  all_at (w ∷ ws) (suc i) a l = all_at ws i a.1 (le_of_suc-le-suc l)

  -- of each of the first n words
  pub all_front : (q : List ℕ) (n i : ℕ) → n ≤ length q → All P (take n q) → i < n → P (get_or q i 0)
  all_front q n i h a l = rw (get_or-take n q i 0 l) at (all_at (take n q) i a (rw (length-take-le n q h) l))

pub all_imp : (P Q : ℕ → Type 0) → ((w : ℕ) → P w → Q w) → (ws : List ℕ) → All P ws → All Q ws
all_imp P Q f [] a = tt
all_imp P Q f (w ∷ ws) a = (f w a.0, all_imp P Q f ws a.1)
