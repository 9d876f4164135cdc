-- A pair given in numbers: each refusal in its place. Assumes nothing.
use Prim.Native.Nat.{ℕ, ◌≤◌, ◌<◌}
use mathlib.Core.Path.{◌≡◌, refl, ap, ◌∙◌}
use mathlib.Core.Bool.{Bool, true, false, cond}
use mathlib.Core.List.{List}
use Rattle.std.specs.Prelude.{Result}
use borrow.Author.Tests.{lt-ltb, le-ltb}
use lib.Dec.{eqb}
use lib.IntN.{ℤ}
use lib.ListN.{length}
use Rattle.rules.specs.declared.Record.{Record}
use Rattle.rules.specs.declared.Refusal.{Refusal}
use Rattle.rules.specs.QueryFile.{is_edition, is_wide, record_bytes, write_refusal, put_unless, Written}
use Rattle.rules.specs.Refusals.{refusal_in, first}
use Rattle.answers.specs.Pair.{pair_refusal}
use Rattle.controller.specs.Given.{range_of, write_given_refusal, Writes}
use Rattle.controller.proofs.Writing.{puts}

-- ---- a record written
module _ (edition : ℕ) (points : List ℤ) (out : List ℕ) (at : ℕ) (r : Record) where
  pub few_written : length points < 24 → Writes edition points r out at out 14
  unfolding write_given_refusal first put_unless
  few_written h = record { says = rw (lt-ltb (length points) 24 h); leaves = refl }

  pub given_written : {x : Record} {out' : List ℕ} {answer : Result (Unit {0}) Refusal} {number : ℕ}
      → x ≡ r → 24 ≤ length points → Written (write_refusal edition out at x) out at (record_bytes edition x) out' answer → number ≡ refusal_in answer
      → Writes edition points r out at out' number
  unfolding write_given_refusal first
  given_written {number = number} e h p d =
      let s = puts p d in
      record {
        says = rw (le-ltb (length points) 24 h) (s.says ∙ ap (write_refusal edition out at) e);
        leaves = s.leaves ∙ ap (λ (y : Record). put_unless number out at (record_bytes edition y)) e;
      }

-- ---- a pair told
module _ (edition : ℕ) (points : List ℤ) (out : List ℕ) where
  pub pair_none : is_edition edition ≡ false → 10 ≡ pair_refusal edition points out
  unfolding pair_refusal first
  pair_none f = rw f

  module _ (f : is_edition edition ≡ true) where
    pub pair_few : length points < 24 → 14 ≡ pair_refusal edition points out
    unfolding pair_refusal first
    pair_few h = rw (f, lt-ltb (length points) 24 h)

    pub pair_short : 24 ≤ length points → length out < 8 → 14 ≡ pair_refusal edition points out
    unfolding pair_refusal first
    pair_short h k = rw (f, le-ltb (length points) 24 h, lt-ltb (length out) 8 k)

    pub pair_good : 24 ≤ length points → 8 ≤ length out → 0 ≡ pair_refusal edition points out
    unfolding pair_refusal first
    pair_good h k = rw (f, le-ltb (length points) 24 h, le-ltb (length out) 8 k)

-- a pair's record is a wide one
pub wide_range : (edition : ℕ) → is_wide (range_of edition) ≡ true
wide_range edition = by (eqb edition 3)
  where
    by : (t : Bool) → is_wide (cond t 3 2) ≡ true
    by true = refl
    by false = refl
