-- Every answer can be written: a corner lies before the end, a count is in its range, and a refusal has a number.
use mathlib.Core.Path.{◌≡◌, refl, ap}
use mathlib.Core.Bool.{true, false}
use Prim.Native.Nat.{ℕ, zero, suc, ◌≤◌, ◌<◌}
use native.Mathlib.Nat.{le_trans}
use native.Mathlib.Omega.{arith}
use borrow.Author.Tests.{le-ltb, ne_eqb}
use lib.Dec.{ltb, eqb}
use Rattle.rules.specs.declared.Corner.{Corner}
use Rattle.rules.specs.declared.Told.{Told}
use Rattle.rules.specs.declared.Answer.{Answer}
use Rattle.rules.specs.declared.Answer.TheVariants.{Met, Clear, Spent, Room, Floor, Refused}
use Rattle.rules.specs.Numbers.{parts}
use Rattle.rules.specs.Answers.{told, has_moment}
use Rattle.rules.specs.Refusals.{first, search_refusal}
use Rattle.rules.specs.Search.{Query, query, corner, run, unless, search}
use Rattle.rules.specs.AnswerFile.{word_refusal}
use Rattle.kernel.specs.Ranges.{editions_deep}
use Rattle.promise.specs.Log.{CanBeWritten}
use Rattle.promise.proofs.Domain.{low_below}
use Rattle.promise.proofs.Levels.{Moment, Kept}
use Rattle.promise.proofs.Accepted.{budget_range, accepted_kept}
use Rattle.promise.proofs.Counted.{Counted, run_counted}

-- an answered corner lies before the end on each axis
pub record Below (t u v : ℕ) : Type 0 where
  pub t_below : t < parts
  pub u_below : u < parts
  pub v_below : v < parts

pub below : {S : Query} {t u v excess : ℕ} → S.deepest ≤ 20 → Moment S t u v excess → Below t u v
unfolding corner
below deep m =
    let c = m.cornered in
    let k = c.depths in
    let b = c.index in
    record {
      t_below = rw (← ap (λ (x : Corner). x.t) c.is) (low_below k.t b.t (le_trans c.shallow.t deep) c.grid.t);
      u_below = rw (← ap (λ (x : Corner). x.u) c.is) (low_below k.u b.u (le_trans c.shallow.u deep) c.grid.u);
      v_below = rw (← ap (λ (x : Corner). x.v) c.is) (low_below k.v b.v (le_trans c.shallow.v deep) c.grid.v);
    }

module _ (S : Query) (some : 0 < S.budget) (most : S.budget ≤ 1000000) (deep : S.deepest ≤ 20) where
  moment_fine : (a : Told) → ltb 5 a.word ≡ false → eqb a.word 0 ≡ false → has_moment a ≡ true → a.number ≡ 0
      → Below a.t a.u a.v → (1 ≤ a.count) × (a.count ≤ S.budget) → word_refusal a ≡ 0
  unfolding word_refusal first
  moment_fine a w z m n b h =
      rw (
        w,
        z,
        m,
        n,
        le-ltb 1048575 a.t (omega (arith, b.t_below)),
        le-ltb 1048575 a.u (omega (arith, b.u_below)),
        le-ltb 1048575 a.v (omega (arith, b.v_below)),
        ne_eqb a.count 0 (λ e. omega (arith, h.0)),
        le-ltb 1000000 a.count (omega (arith, h.1)),
      )

  fine : (a : Answer) → Kept S a → Counted S some a → word_refusal (told a) ≡ 0
  unfolding word_refusal first
  fine (Met t u v excess n) k h = moment_fine (told (Met t u v excess n)) refl refl refl refl (below deep k.0) h
  fine (Clear n) k h = rw (ne_eqb n 0 (λ e. omega (arith, h.0)), le-ltb 1000000 n (omega (arith, h.1)))
  fine (Spent t u v excess n) k h = moment_fine (told (Spent t u v excess n)) refl refl refl refl (below deep k) h
  fine (Room t u v excess n) k h = moment_fine (told (Room t u v excess n)) refl refl refl refl (below deep k) h
  fine (Floor t u v excess n) k h = moment_fine (told (Floor t u v excess n)) refl refl refl refl (below deep k) h
  fine (Refused n) k h = absurd k

refused_fine : (n : ℕ) → word_refusal (told (Refused (suc n))) ≡ 0
unfolding word_refusal first
refused_fine n = rw (ne_eqb (suc n) 0 (λ e. omega arith))

pub can_be_written : CanBeWritten
unfolding search unless
can_be_written r words = go (search_refusal r words) refl
  where
    go : (n : ℕ) → search_refusal r words ≡ n → word_refusal (told (unless n (run (query r words)))) ≡ 0
    go zero e =
        let b = budget_range r words e in
        fine (query r words) b.0 b.1 (editions_deep (eqb r.edition 3)) (run (query r words)) (accepted_kept r words e) (run_counted (query r words) b.0)
    go (suc n) e = refused_fine n
