-- Laws of the order "lowest number first".
--     first_or        rows with a number behind them: of the first that is due, and `rest` where none is
--     first_append   rows behind rows, and `first_then` by the two numbers
--     due_here, not_here, none_due   a row that is due gives its number, one that is not leaves it to the rows behind, and no row gives 0
--     not_due        where the number is 0, no row is due
-- Assumes nothing.
use Rattle.std.specs.Prelude.{ℕ, zero, suc, ◌≡◌, refl, Bool, true, false, not, cond, ◌&&◌, List, [], ◌∷◌, ◌++◌, T}
use Rattle.std.proofs.Common.{arith, sym, ap, ◌∙◌}
use Rattle.rules.specs.declared.Refusal.{Refusal}
use Rattle.refusals.specs.Numbered.{not_zero}
use Rattle.rules.specs.Refusals.{Case, number_of, first, or_else}

unfoldable pub first_or : List Case → ℕ → ℕ
first_or [] rest = rest
first_or (c ∷ cs) rest = cond c.due c.number (first_or cs rest)

pub first_append : (cs ds : List Case) → first (cs ++ ds) ≡ first_or cs (first ds)
unfolding first first_or
first_append [] ds = refl
first_append (c ∷ cs) ds = rw (first_append cs ds)

pub first_alone : (cs : List Case) → first cs ≡ first_or cs 0
unfolding first first_or
first_alone [] = refl
first_alone (c ∷ cs) = rw (first_alone cs)

-- whether no row has the number 0: of a list that is written out this computes
abbrev pub positive : ℕ → Bool
positive zero = false
positive (suc n) = true

abbrev pub numbered : List Case → Bool
numbered [] = true
numbered (c ∷ cs) = positive c.number && numbered cs

pub first_then : (cs ds : List Case) → T (numbered cs) → first (cs ++ ds) ≡ or_else (first cs) (first ds)
unfolding first
first_then [] ds t = refl
first_then (c ∷ cs) ds t = by_case c.due c.number (numbered cs) t (first_then cs ds)
  where
    by_case : (due : Bool) (n : ℕ) (rest : Bool) → T (positive n && rest) → (T rest → first (cs ++ ds) ≡ or_else (first cs) (first ds))
        → cond due n (first (cs ++ ds)) ≡ or_else (cond due n (first cs)) (first ds)
    by_case true zero rest t ih = absurd t
    by_case true (suc n) rest t ih = refl
    by_case false zero rest t ih = absurd t
    by_case false (suc n) rest t ih = ih t

pub not_due : (n : ℕ) (due : Bool) (cs : List Case) → first (record { number = suc n; due = due } ∷ cs) ≡ 0 → (due ≡ false) × (first cs ≡ 0)
unfolding first
not_due n true cs e = let z : suc n ≡ 0 = e in absurd (omega arith)
not_due n false cs e = (refl, e)

pub due_here : (n : ℕ) (ok : Bool) (cs : List Case) → ok ≡ false → n ≡ first (record { number = n; due = not ok } ∷ cs)
unfolding first
due_here n false cs e = refl
due_here n true cs e = absurd (cc)

pub none_due : 0 ≡ first []
unfolding first
none_due = refl

pub not_here : (m n : ℕ) (ok : Bool) (cs : List Case) → ok ≡ true → m ≡ first cs → m ≡ first (record { number = n; due = not ok } ∷ cs)
unfolding first
not_here m n true cs e rest = rest
not_here m n false cs e rest = absurd (cc)

-- rows behind rows: a refusal by those before is one of both, and where they give none it is that of those behind
pub refused_before : (r : Refusal) (cs ds : List Case) → T (numbered cs) → number_of r ≡ first cs → number_of r ≡ first (cs ++ ds)
refused_before r cs ds t e = sym (first_then cs ds t ∙ ap (λ (n : ℕ). or_else n (first ds)) (sym e) ∙ kept (number_of r) (not_zero r))
  where
    kept : (n : ℕ) → (n ≡ 0 → ⊥) → or_else n (first ds) ≡ n
    kept zero h = absurd (h refl)
    kept (suc n) h = refl

pub refused_behind : (cs ds : List Case) → T (numbered cs) → 0 ≡ first cs → first ds ≡ first (cs ++ ds)
refused_behind cs ds t e = sym (first_then cs ds t ∙ ap (λ (n : ℕ). or_else n (first ds)) (sym e))
