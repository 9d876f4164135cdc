-- Laws of `every`, the test of all: one more by an index, as a loop makes it, and what it says of each.
-- Assumes nothing.
use Rattle.std.specs.Prelude.{ℕ, zero, suc, ◌+◌, ◌<◌, ◌≤◌, ◌≡◌, Bool, true, ◌&&◌, ℤ, pos, length, get_or, drop}
use Rattle.std.proofs.Math.Path.{sym, ap}
use Rattle.std.proofs.Common.{◌∙◌, add-one, drop_of_length-le, drop-cons}
use Rattle.std.proofs.Math.Bool.{and-true, and_assoc, and-eq-true_iff}
use mathlib.Core.List.{List, [], ◌∷◌}
use Rattle.rules.specs.Refusals.{every}

module _ (f : ℤ → Bool) (xs : List ℤ) where
  -- what was found so far and the test of what is left, with the next taken in
  pub every_next : (so_far now : Bool) (i : ℕ) (z : ℤ) → i < length xs → now ≡ f z → z ≡ get_or xs i (pos 0) → (so_far && every f (drop i xs)) ≡ (so_far && now && every f (drop (i + 1) xs))
  unfolding every
  every_next so_far now i z h e ez =
      ap (λ (l : List ℤ). so_far && every f l) (drop-cons xs i (pos 0) h)
      ∙ ap (λ (n : ℕ). so_far && (f (get_or xs i (pos 0)) && every f (drop n xs))) (sym (add-one i))
      ∙ ap (λ (b : Bool). so_far && (b && every f (drop (i + 1) xs))) (sym (e ∙ ap f ez))
      ∙ sym (and_assoc so_far now (every f (drop (i + 1) xs)))

  pub every_end : (so_far : Bool) (i : ℕ) → length xs ≤ i → (so_far && every f (drop i xs)) ≡ so_far
  unfolding every
  every_end so_far i h = ap (λ (l : List ℤ). so_far && every f l) (drop_of_length-le xs h) ∙ and-true so_far

-- each is such, also past the end where 0 is
pub every_at : (f : ℤ → Bool) (xs : List ℤ) → every f xs ≡ true → f (pos 0) ≡ true → (i : ℕ) → f (get_or xs i (pos 0)) ≡ true
unfolding every
every_at f [] e z i = z
every_at f (x ∷ xs) e z zero = ((and-eq-true_iff (f x) (every f xs)).0 e).0
every_at f (x ∷ xs) e z (suc i) = every_at f xs ((and-eq-true_iff (f x) (every f xs)).0 e).1 z i
