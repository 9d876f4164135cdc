-- The refusals of a body's bounds and of a triangle's replacing, row by row. Assumes nothing.
use Prim.Native.Nat.{ℕ, zero, suc, ◌*◌}
use mathlib.Core.Path.{◌≡◌, refl}
use mathlib.Core.Bool.{Bool, true, false, not, cond, ◌&&◌}
use mathlib.Core.List.{List}
use lib.IntN.{ℤ}
use lib.Dec.{ltb, eqb}
use lib.ListN.{length}
use Rattle.rules.specs.declared.Refusal.{Refusal}
use Rattle.rules.specs.QueryFile.{is_edition, put_unless}
use Rattle.rules.specs.Refusals.{number_of, first, or_else}
use Rattle.refusals.specs.Numbered.{not_zero}
use Rattle.rules.specs.Bodies.{Body, is_body}
use Rattle.rules.specs.Bounds.{blocks, are_coordinates, bounds_refusal, are_in_block, replaced, block_of, replace_refusal}
use Rattle.bounds.specs.Keeping.{keep_refusal, exchange_refusal, Replaces, Exchanged}

-- the number by the outcome of each test, in order
pub keeps_by : (edition : ℕ) (m : Body) (out : List ℤ) {e b c s : Bool}
    → is_edition edition ≡ e
    → is_body m ≡ b
    → are_coordinates edition m.start m.end ≡ c
    → ltb (length out) (6 * blocks m.count) ≡ s
    → cond (not e) 10 (cond (not b) 21 (cond (not c) 3 (cond s 14 0))) ≡ keep_refusal edition m out
unfolding keep_refusal bounds_refusal first
keeps_by edition m out {e} {b} {c} {s} p q r t = rw (p, q, r, t) (by e b c s)
  where
    by : (e b c s : Bool) → cond (not e) 10 (cond (not b) 21 (cond (not c) 3 (cond s 14 0))) ≡ or_else (cond (not e) 10 0) (or_else (cond (not b) 21 (cond (not c) 3 0)) (cond s 14 0))
    by false b c s = refl
    by true false c s = refl
    by true true false s = refl
    by true true true s = refl

pub exchanges_by : (edition : ℕ) (m : Body) (bounds : List ℤ) (n : ℕ) (corners : List ℤ) {e g l r b : Bool}
    → is_edition edition ≡ e
    → (is_body m && eqb (length corners) 18) ≡ g
    → ltb n m.count ≡ l
    → are_in_block edition (replaced m n corners) (block_of n) ≡ r
    → eqb (length bounds) (6 * blocks m.count) ≡ b
    → cond (not e) 10 (cond (not g) 21 (cond (not l) 13 (cond (not r) 3 (cond (not b) 27 0)))) ≡ exchange_refusal edition m bounds n corners
unfolding exchange_refusal replace_refusal first
exchanges_by edition m bounds n corners {e} p q r t u = rw (p, q, r, t, u) (by e _)
  where
    by : (e : Bool) (rest : ℕ) → cond (not e) 10 rest ≡ or_else (cond (not e) 10 0) rest
    by false rest = refl
    by true rest = refl

-- a refusal leaves all as it was
pub refuses_replacing : (r : Refusal) (edition : ℕ) (m : Body) (bounds : List ℤ) (n : ℕ) (corners : List ℤ) → number_of r ≡ exchange_refusal edition m bounds n corners → Replaces edition m bounds n corners m.start m.end bounds (number_of r)
unfolding put_unless
refuses_replacing r edition m bounds n corners says = record { says = says; start = stays m.start _ _; end = stays m.end _ _; mends = stays bounds _ _ }
  where
    stays : (s : List ℤ) (at : ℕ) (run : List ℤ) → s ≡ put_unless (number_of r) s at run
    stays s at run = by (number_of r) (not_zero r)
      where
        by : (k : ℕ) → (k ≡ 0 → ⊥) → s ≡ put_unless k s at run
        by zero h = absurd (h refl)
        by (suc k) h = refl

pub replaces : {edition : ℕ} {m : Body} {bounds : List ℤ} {n : ℕ} {corners start' end' bounds' : List ℤ} → 0 ≡ exchange_refusal edition m bounds n corners → Exchanged m bounds n corners start' end' bounds' → Replaces edition m bounds n corners start' end' bounds' 0
unfolding put_unless
replaces says h = record { says = says; start = h.start; end = h.end; mends = h.mends }
