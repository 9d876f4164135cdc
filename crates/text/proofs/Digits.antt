-- Laws of a number's decimal digits.
--     decimal_short, decimal_long   how they go by the last digit
--     decimal_most                  a number of 32 bits has ten at most
-- Assumes nothing.
use Prim.Native.Nat.{ℕ, zero, suc, ◌+◌, ◌*◌, ◌/◌, ◌%◌, ◌≤◌, ◌<◌}
use mathlib.Core.Bool.{Bool, true, false}
use mathlib.Core.Path.{◌≡◌, refl, sym, ap, ◌∙◌}
use mathlib.Core.List.{List, [], ◌∷◌, ◌++◌}
use mathlib.Core.Logic.{◌⊎◌, inl, inr, ⊎_elim}
use native.Mathlib.Omega.{arith}
use lib.Dec.{ltb}
use lib.ListN.{length, length-append}
use borrow.Author.Tests.{lt-ltb, le-ltb, ltb-true, ltb-false}
use Rattle.text.specs.Text.{digits, decimal}
use Rattle.text.specs.Writers.{Wrote}
use Rattle.text.proofs.Writing.{then}

short : (k n : ℕ) → n < 10 → digits (suc k) n ≡ (48 + n) ∷ []
unfolding digits
short k n h = rw (lt-ltb n 10 h)

long : (k n : ℕ) → 10 ≤ n → digits (suc k) n ≡ digits k (n / 10) ++ ((48 + n % 10) ∷ [])
unfolding digits
long k n h = rw (le-ltb n 10 h)

tested : (n k : ℕ) (b : Bool) → ltb n k ≡ b → (n < k) ⊎ (k ≤ n)
tested n k true e = inl (ltb-true n k e)
tested n k false e = inr (ltb-false n k e)

-- any two bounds above the number give the same digits
enough : (j k n : ℕ) → n < j → n < k → digits j n ≡ digits k n
enough zero k n hj hk = absurd (omega arith)
enough (suc j) zero n hj hk = absurd (omega arith)
enough (suc j) (suc k) n hj hk =
    ⊎_elim (λ h. short j n h ∙ sym (short k n h))
    (λ h. long j n h ∙ ap (λ (l : List ℕ). l ++ ((48 + n % 10) ∷ [])) (enough j k (n / 10) (omega arith) (omega arith)) ∙ sym (long k n h))
    (tested n 10 (ltb n 10) refl)

pub decimal_short : (n : ℕ) → n < 10 → decimal n ≡ (48 + n) ∷ []
unfolding decimal
decimal_short n h = short n n h

pub decimal_long : (n : ℕ) → 10 ≤ n → decimal n ≡ decimal (n / 10) ++ ((48 + n % 10) ∷ [])
unfolding decimal
decimal_long n h =
    long n n h ∙ ap (λ (l : List ℕ). l ++ ((48 + n % 10) ∷ [])) (enough n (suc (n / 10)) (n / 10) (omega arith) (omega arith))

-- the first number with more than k + 1 digits
abbrev tens : ℕ → ℕ
tens zero = 10
tens (suc k) = 10 * tens k

most : (k f n : ℕ) → n < tens k → length (digits f n) ≤ suc k
unfolding digits
most k zero n h = omega arith
most zero (suc f) n h = rw (short f n h) (omega arith)
most (suc k) (suc f) n h =
    ⊎_elim (λ l. rw (short f n l) (omega arith))
    (λ l. rw (long f n l) (omega (arith, length-append (digits f (n / 10)) ((48 + n % 10) ∷ []), most k f (n / 10) (omega arith))))
    (tested n 10 (ltb n 10) refl)

pub decimal_most : (n : ℕ) → n < 4294967296 → length (decimal n) ≤ 10
unfolding decimal
decimal_most n h = most 9 (suc n) n (omega arith)

-- the writer's two ways: one digit; the digits of a tenth and then the last one
pub wrote_short : {n at next : ℕ} {s s' : List ℕ}
    → n < 10
    → Wrote 1 s at ((48 + n) ∷ []) s' next
    → Wrote (length (decimal n)) s at (decimal n) s' next
wrote_short {n} h w = rw (decimal_short n h) w

pub wrote_long : {n at m next : ℕ} {s s₁ s' : List ℕ}
    → 10 ≤ n
    → at + length (decimal n) ≤ length s
    → Wrote (length (decimal (n / 10))) s at (decimal (n / 10)) s₁ m
    → Wrote 1 s₁ m ((48 + n % 10) ∷ []) s' next
    → Wrote (length (decimal n)) s at (decimal n) s' next
wrote_long {n} h room a b =
    let e : length (decimal n) ≡ length (decimal (n / 10)) + 1 = rw (decimal_long n h, length-append) in
    rw (e, decimal_long n h) (then a b (omega arith))

-- the last digit of a longer number has its place
pub tenth_fits : (n at room : ℕ) → 10 ≤ n → at + length (decimal n) ≤ room → at + length (decimal (n / 10)) + 1 ≤ room
tenth_fits n at room h fits = let e : length (decimal n) ≡ length (decimal (n / 10)) + 1 = rw (decimal_long n h, length-append) in omega arith
