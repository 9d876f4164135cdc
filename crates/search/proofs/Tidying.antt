-- The words that no level has used stay zero, and the rest can be cleared.
use mathlib.Core.Path.{◌≡◌, sym, ap, ◌∙◌}
use mathlib.Core.List.{List}
use Prim.Native.Nat.{ℕ, ◌+◌, ◌-◌, ◌≤◌, ◌<◌}
use native.Mathlib.Omega.{arith}
use mathlib.Core.Logic.{⊎_elim}
use Rattle.std.proofs.lemmas.Bool.{cases_lt}
use lib.ListN.{length, get_or, take, drop, replicate, length-replicate, get_or-replicate}
use lib.Seq.{get_or-take, ext_get_or}
use Rattle.queue.specs.Walk.{same_later}
use Rattle.queue.specs.Cleared.{cleared, cleared_before, cleared_in, cleared_after}
use Rattle.search.specs.Levels.{Tidy}

same_from : (i a : ℕ) (new old : List ℕ) → i ≤ a → drop i new ≡ drop i old → get_or new a 0 ≡ get_or old a 0
same_from i a new old h e = let f : i + (a - i) ≡ a = omega arith in rw f at (same_later i (a - i) new old e)

same_below : (h a : ℕ) (new old : List ℕ) → a < h → take h new ≡ take h old → get_or new a 0 ≡ get_or old a 0
same_below h a new old l e = sym (get_or-take h new a 0 l) ∙ ap (λ (x : List ℕ). get_or x a 0) e ∙ get_or-take h old a 0 l

-- words of the front are written
pub tidy_front : (h used i : ℕ) (new old : List ℕ) → i ≤ used → drop i new ≡ drop i old → Tidy h used old → Tidy h used new
tidy_front h used i new old l e t = record {
  low = λ a x y. same_from i a new old (omega arith) e ∙ t.low a x y;
  high = λ a x. same_from i a new old (omega arith) e ∙ t.high a x;
}

-- m words from h on are written
pub tidy_grown : (h used more m : ℕ) (new old : List ℕ) → used ≤ more → m ≤ more → take h new ≡ take h old → drop (h + m) new ≡ drop (h + m) old
    → Tidy h used old → Tidy h more new
tidy_grown h used more m new old l k e f t = record {
  low = λ a x y. same_below h a new old y e ∙ t.low a (omega arith) y;
  high = λ a x. same_from (h + m) a new old (omega arith) f ∙ t.high a (omega arith);
}

-- all the words from h on that can be used are cleared again
pub tidy_back : (h used : ℕ) (new old : List ℕ) → h + h ≤ length new → take h new ≡ take h old → drop (h + h) new ≡ drop (h + h) old
    → Tidy h used old → Tidy h used (cleared h (h + h) new)
tidy_back h used new old l e f t =
    let fits : h ≤ h + h = omega arith in
    record {
      low = λ a x y. cleared_before h (h + h) new fits l a y ∙ same_below h a new old y e ∙ t.low a x y;
      high = λ a x. ⊎_elim
          (λ y. cleared_in h (h + h) new fits l a (omega arith) y)
          (λ y. cleared_after h (h + h) new fits l a y ∙ same_from (h + h) a new old y f ∙ t.high a x)
          (cases_lt a (h + h));
    }

-- the two parts that the levels used are cleared
module _ {h used : ℕ} {q₀ q₁ q₂ : List ℕ} (few : used ≤ h) (twice : h + h ≤ length q₀) (t : Tidy h used q₀)
    (len₁ : length q₁ ≡ length q₀) (len₂ : length q₂ ≡ length q₀) (e₁ : q₁ ≡ cleared 0 used q₀) (e₂ : q₂ ≡ cleared h (h + used) q₁) where
  first_low : (a : ℕ) → a < h → get_or q₁ a 0 ≡ 0
  first_low a y =
      rw e₁ (⊎_elim (λ x. cleared_in 0 used q₀ (omega arith) (omega arith) a (omega arith) x)
      (λ x. cleared_after 0 used q₀ (omega arith) (omega arith) a x ∙ t.low a x y) (cases_lt a used))

  first_high : (a : ℕ) → h + used ≤ a → get_or q₁ a 0 ≡ 0
  first_high a x = rw e₁ (cleared_after 0 used q₀ (omega arith) (omega arith) a (omega arith) ∙ t.high a x)

  everywhere : (a : ℕ) → get_or q₂ a 0 ≡ 0
  everywhere a =
      rw e₂ (⊎_elim (λ x. cleared_before h (h + used) q₁ (omega arith) (omega arith) a x ∙ first_low a x)
      (λ x. ⊎_elim (λ y. cleared_in h (h + used) q₁ (omega arith) (omega arith) a x y)
      (λ y. cleared_after h (h + used) q₁ (omega arith) (omega arith) a y ∙ first_high a y) (cases_lt a (h + used))) (cases_lt a h))

  pub all_cleared : q₂ ≡ replicate (length q₀) 0
  all_cleared =
      ext_get_or 0 q₂ (replicate (length q₀) 0) (len₂ ∙ sym (length-replicate (length q₀) 0))
      (λ a l. everywhere a ∙ sym (get_or-replicate (length q₀) a 0 0 (omega (arith, len₂))))
