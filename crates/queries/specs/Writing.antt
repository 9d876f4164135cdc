-- Laws of the writers.
--     refused_write, done_write    a writer's answer and the bytes after it, by its refusal
--     written_once                 and there is no other
--     Puts                         the same as a number; `refuses_put`, `does_put`; and `puts_once`
--     write_is, write_room         the refusal of a record by its own rows and those behind, and what none says
--     trailer_room                 what no refusal of a trailer says
--     trailer_edition              the refusal of a query file's trailer, by its edition
-- Assumes nothing.
use Prim.Native.Nat.{ℕ, zero, suc, ◌+◌, ◌-◌, ◌*◌, ◌<◌, ◌≤◌}
use Rattle.std.specs.Prelude.{◌≡◌, refl, Bool, not, cond, ltb, length, Result, Ok, Err}
use Rattle.std.proofs.Math.Path.{sym}
use Rattle.std.proofs.Common.{◌∙◌, mul-le-mul}
use Rattle.std.proofs.Math.Bool.{true, false}
use mathlib.Core.List.{List, [], ◌∷◌}
use native.Mathlib.Omega.{arith}
use borrow.Author.Tests.{ltb-false, not-false}
use Rattle.rules.specs.declared.Record.{Record}
use Rattle.rules.specs.declared.Form.{Form}
use Rattle.rules.specs.declared.Refusal.{Refusal}
use Rattle.rules.specs.Refusals.{Case, number_of, first, cases_with}
use Rattle.rules.specs.QueryFile.{is_edition, is_wide, size_by, record_size, query_form, put, no_edition, space, has_room, has_cap_room, in_edition, write_refusal, trailer_refusal, query_trailer_refusal, put_unless, Written}
use Rattle.refusals.specs.Cases.{first_or, first_append, not_due}
use Rattle.refusals.specs.Numbered.{not_zero, same_answer}
use Rattle.refusals.specs.Accepted.{Accepted, accepted_with}

-- ---- by the refusal's number
module _ (n : ℕ) (s : List ℕ) (at : ℕ) (bytes : List ℕ) where
  kept : (k : ℕ) → (k ≡ 0 → ⊥) → s ≡ put_unless k s at bytes
  unfolding put_unless
  kept zero h = absurd (h refl)
  kept (suc k) h = refl

  pub refused_write : (r : Refusal) → number_of r ≡ n → Written n s at bytes s (Err r)
  refused_write r e = record { says = e; leaves = kept n (λ z. not_zero r (e ∙ z)) }

  pub done_write : (after : List ℕ) → 0 ≡ n → after ≡ put s at bytes → Written n s at bytes after (Ok tt)
  unfolding put_unless
  done_write after e p = record { says = e; leaves = rw (sym e) p }

  -- no second answer and no second buffer fits
  pub written_once : (x y : List ℕ) (v w : Result (Unit {0}) Refusal) → Written n s at bytes x v → Written n s at bytes y w → (x ≡ y) × (v ≡ w)
  written_once x y v w p q = (p.leaves ∙ sym q.leaves, same_answer v w (p.says ∙ sym q.says))

-- the same as a number: 0 where it is done
pub record Puts (refusal : ℕ) (bytes out : List ℕ) (at : ℕ) (out' : List ℕ) (number : ℕ) : Type 0 where
  pub says : number ≡ refusal
  pub leaves : out' ≡ put_unless number out at bytes

-- no second number and no second buffer fit that
pub puts_once : {refusal : ℕ} {bytes out : List ℕ} {at : ℕ} {out' out'' : List ℕ} {number number' : ℕ}
    → Puts refusal bytes out at out' number
    → Puts refusal bytes out at out'' number'
    → (number ≡ number') × (out' ≡ out'')
puts_once v w = (cc, cc)

pub refuses_put : {refusal : ℕ} (number : ℕ) (bytes out : List ℕ) (at : ℕ) → number ≡ refusal → (number ≡ 0 → ⊥) → Puts refusal bytes out at out number
unfolding put_unless
refuses_put zero bytes out at e h = absurd (h refl)
refuses_put (suc k) bytes out at e h = record { says = e; leaves = refl }

pub does_put : {refusal : ℕ} {bytes out : List ℕ} {at : ℕ} {out' : List ℕ} → 0 ≡ refusal → out' ≡ put out at bytes → Puts refusal bytes out at out' 0
unfolding put_unless
does_put e p = record { says = e; leaves = p }

-- ---- a record
pub record WriteRoom (edition : ℕ) (s : List ℕ) (at : ℕ) (r : Record) : Type 0 where
  pub accepted : Accepted (in_edition edition r)
  pub separations : has_room edition r ≡ true
  pub capped : has_cap_room edition r ≡ true
  pub named : is_edition edition ≡ true
  pub room : at + record_size edition ≤ length s

module _ (edition : ℕ) (s : List ℕ) (at : ℕ) (r : Record) where
  behind : List Case
  behind = no_edition edition ∷ space s at (record_size edition) ∷ []

  pub write_is : write_refusal edition s at r ≡ first_or (cases_with (has_room edition r) (has_cap_room edition r) (in_edition edition r)) (cond (not (is_edition edition)) 10 (cond (ltb (length s - at) (record_size edition)) 14 0))
  unfolding write_refusal first behind
  write_is = first_append (cases_with (has_room edition r) (has_cap_room edition r) (in_edition edition r)) behind

  pub write_room : write_refusal edition s at r ≡ 0 → WriteRoom edition s at r
  unfolding write_refusal behind
  write_room e =
      let h = accepted_with (has_room edition r) (has_cap_room edition r) (in_edition edition r) behind e in
      let ten = not_due 9 (not (is_edition edition)) (space s at (record_size edition) ∷ []) h.3 in
      let l = ltb-false (length s - at) (record_size edition) (not_due 13 (ltb (length s - at) (record_size edition)) [] ten.1).0 in
      record { accepted = h.0; separations = h.1; capped = h.2; named = not-false _ ten.0; room = fits (is_wide edition) (length s) l }
    where
      fits : (wide : Bool) (n : ℕ) → size_by wide ≤ n - at → at + size_by wide ≤ n
      fits true n h = omega arith
      fits false n h = omega arith

-- ---- a trailer
pub few_bytes : (size n : ℕ) → size < 256 → n ≤ 4096 → size * n ≤ 1044480
few_bytes size n h k = let h' : size ≤ 255 = omega arith in mul-le-mul h' k

pub record TrailerRoom (form : Form) (s : List ℕ) (at n : ℕ) : Type 0 where
  pub few : n ≤ 4096
  pub back : form.size * n ≤ at
  pub room : at + 16 ≤ length s

pub trailer_room : (form : Form) (s : List ℕ) (at n : ℕ) → trailer_refusal form s at n ≡ 0 → TrailerRoom form s at n
unfolding trailer_refusal
trailer_room form s at n e =
    let h14 = space s at 16 ∷ [] in
    let h11 = not_due 10 (ltb 4096 n) (record { number = 12; due = ltb at (form.size * n) } ∷ h14) e in
    let h12 = not_due 11 (ltb at (form.size * n)) h14 h11.1 in
    let l = ltb-false (length s - at) 16 (not_due 13 (ltb (length s - at) 16) [] h12.1).0 in
    record { few = ltb-false 4096 n h11.0; back = ltb-false at (form.size * n) h12.0; room = omega arith }

-- one of a query file: 10 first
pub trailer_none : (edition : ℕ) (s : List ℕ) (at n : ℕ) → is_edition edition ≡ false → query_trailer_refusal edition s at n ≡ 10
unfolding query_trailer_refusal first
trailer_none edition s at n e = rw e

pub trailer_edition : (edition : ℕ) (s : List ℕ) (at n : ℕ) → is_edition edition ≡ true → query_trailer_refusal edition s at n ≡ trailer_refusal (query_form edition) s at n
unfolding query_trailer_refusal trailer_refusal first
trailer_edition edition s at n e = rw e
