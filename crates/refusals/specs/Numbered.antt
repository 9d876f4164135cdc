-- A refusal and its number: no two refusals have the same, and none has 0.
--     same_refusal, same_answer   by the number
--     same_numbered               and of an answer that holds something
--     not_zero                    no refusal's number is 0
-- Assumes nothing.
use Rattle.std.specs.Prelude.{ℕ, ◌≡◌, refl, cond, eqb, Result, Ok, Err}
use Rattle.std.proofs.Common.{sym, ap, ◌∙◌}
use Rattle.rules.specs.declared.Refusal.{Refusal}
use Rattle.rules.specs.declared.Refusal.TheVariants.{Kind, Flags, Coord, Separation, Tolerance, Budget, Queue, Short, Mark, Edition, Count, Back, Index, Space, Long, Word, Match, Body, Cap, Domain, Later, Bounds}
use Rattle.rules.specs.Refusals.{number_of, refusal_in, numbered}

-- the refusal of a number
of_number : ℕ → Refusal
of_number n =
    cond (eqb n 1) Kind (
    cond (eqb n 2) Flags (
    cond (eqb n 3) Coord (
    cond (eqb n 4) Separation (
    cond (eqb n 5) Tolerance (
    cond (eqb n 6) Budget (
    cond (eqb n 7) Queue (
    cond (eqb n 8) Short (
    cond (eqb n 9) Mark (
    cond (eqb n 10) Edition (
    cond (eqb n 11) Count (
    cond (eqb n 12) Back (
    cond (eqb n 13) Index (
    cond (eqb n 14) Space (
    cond (eqb n 15) Long (
    cond (eqb n 16) Word (
    cond (eqb n 17) Match (
    cond (eqb n 21) Body (
    cond (eqb n 22) Cap (
    cond (eqb n 23) Domain (
    cond (eqb n 24) Later (
    Bounds)))))))))))))))))))))

known : (r : Refusal) → of_number (number_of r) ≡ r
unfolding of_number
known Kind = refl
known Flags = refl
known Coord = refl
known Separation = refl
known Tolerance = refl
known Budget = refl
known Queue = refl
known Short = refl
known Mark = refl
known Edition = refl
known Count = refl
known Back = refl
known Index = refl
known Space = refl
known Long = refl
known Word = refl
known Match = refl
known Body = refl
known Cap = refl
known Domain = refl
known Later = refl
known Bounds = refl

pub same_refusal : (r s : Refusal) → number_of r ≡ number_of s → r ≡ s
same_refusal r s e = sym (known r) ∙ ap of_number e ∙ known s

pub not_zero : (r : Refusal) → number_of r ≡ 0 → ⊥
not_zero Kind e = cc
not_zero Flags e = cc
not_zero Coord e = cc
not_zero Separation e = cc
not_zero Tolerance e = cc
not_zero Budget e = cc
not_zero Queue e = cc
not_zero Short e = cc
not_zero Mark e = cc
not_zero Edition e = cc
not_zero Count e = cc
not_zero Back e = cc
not_zero Index e = cc
not_zero Space e = cc
not_zero Long e = cc
not_zero Word e = cc
not_zero Match e = cc
not_zero Body e = cc
not_zero Cap e = cc
not_zero Domain e = cc
not_zero Later e = cc
not_zero Bounds e = cc

pub same_answer : (a b : Result (Unit {0}) Refusal) → refusal_in a ≡ refusal_in b → a ≡ b
same_answer (Ok x) (Ok y) e = refl
same_answer (Ok x) (Err s) e = absurd (not_zero s (sym e))
same_answer (Err r) (Ok y) e = absurd (not_zero r e)
same_answer (Err r) (Err s) e = ap Err (same_refusal r s e)

pub same_numbered : {T : Type 0} (a b : Result T Refusal) → numbered a ≡ numbered b → a ≡ b
same_numbered (Ok x) (Ok y) e = let h : x ≡ y = cc in ap Ok h
same_numbered (Ok x) (Err s) e = cc
same_numbered (Err r) (Ok y) e = cc
same_numbered (Err r) (Err s) e = let h : number_of r ≡ number_of s = cc in ap Err (same_refusal r s h)
