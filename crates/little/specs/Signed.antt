-- Two's complement of 32 bits: document 01's reading is the machine's, and what a branch on the sign and the two casts ask of it.
--     signed_is, bits_is         the machine's `to_z w32`, `of_z w32`
--     signed_bits, bits_signed   the two undo each other
--     high, low                  where the test `v < 0` held, the bits of v are in the upper half; where it failed, in the lower
--     casts, same                bits in the lower half are a number that a cast to u32 takes, and it gives those bits
-- Assumes nothing.
use Rattle.std.specs.Prelude.{ℕ, suc, ◌-◌, ◌≤◌, ◌<◌, ◌≡◌, refl, Bool, true, false, cond, T, ltb, ℤ, pos, negsuc, nat_abs}
use Rattle.std.proofs.Common.{sym, ap, ◌∙◌, subst, arith, to_z-of_z, add-one, ltb-true, lt-ltb}
use Rattle.std.specs.Int.Signed.{lt_z, non_neg}
use Rattle.std.specs.Int.{w32}
use mir.Val.{SFits, Fits, to_z, of_z, sel}
use Rattle.std.proofs.Math.Facts.{of_z-to_z, Fits-of_z, sfits_to_z, to_z_pos}
use Rattle.rules.specs.QueryFile.{signed, bits}

cond_sel : (b : Bool) (x y : ℤ) → cond b x y ≡ sel b x y
cond_sel true x y = refl
cond_sel false x y = refl

pub signed_is : (n : ℕ) → n < 4294967296 → signed n ≡ to_z w32 n
unfolding signed
signed_is n h = rw (lt-ltb n 4294967296 h) (cond_sel (ltb n 2147483648) (pos n) (negsuc (4294967296 - suc n)))

pub bits_is : (z : ℤ) → bits z ≡ of_z w32 z
unfolding bits
bits_is (pos n) = refl
bits_is (negsuc n) = ap (λ (m : ℕ). 4294967296 - m) (add-one n)

pub bits_below : (z : ℤ) → SFits w32 z → bits z < 4294967296
bits_below z f = rw (bits_is z) (Fits-of_z f).fits

pub signed_fits : (n : ℕ) → n < 4294967296 → SFits w32 (signed n)
signed_fits n h = rw (signed_is n h) (sfits_to_z {w = w32} (record { fits = h }))

pub signed_bits : (z : ℤ) → SFits w32 z → signed (bits z) ≡ z
signed_bits z f = signed_is (bits z) (bits_below z f) ∙ ap (to_z w32) (bits_is z) ∙ to_z-of_z f

pub bits_signed : (n : ℕ) → n < 4294967296 → bits (signed n) ≡ n
bits_signed n h = ap bits (signed_is n h) ∙ bits_is (to_z w32 n) ∙ of_z-to_z {w = w32} (record { fits = h })

high_of : (v : ℤ) → SFits w32 v → lt_z v (pos 0) ≡ true → 2147483648 ≤ of_z w32 v
high_of (pos n) f t = let h : n < 0 = ltb-true n 0 t in omega arith
high_of (negsuc n) f t = let h : n < 2147483648 = f.sfits in omega arith

low_of : (v : ℤ) → SFits w32 v → lt_z v (pos 0) ≡ false → of_z w32 v < 2147483648
low_of (pos n) f t = f.sfits
low_of (negsuc n) f t = let z : true ≡ false = t in let o : ◌≡◌ {A = ℕ} 0 1 = cc in omega arith

pub high : (v : ℤ) → SFits w32 v → lt_z (to_z w32 (of_z w32 v)) (pos 0) ≡ true → 2147483648 ≤ of_z w32 v
high v f t = high_of v f (subst (λ (z : ℤ). lt_z z (pos 0) ≡ true) (to_z-of_z f) t)

pub low : (v : ℤ) → SFits w32 v → lt_z (to_z w32 (of_z w32 v)) (pos 0) ≡ false → of_z w32 v < 2147483648
low v f t = low_of v f (subst (λ (z : ℤ). lt_z z (pos 0) ≡ false) (to_z-of_z f) t)

pub same : (n : ℕ) → n < 2147483648 → nat_abs (to_z w32 n) ≡ n
same n h = ap nat_abs (to_z_pos w32 h)

pub casts : (n : ℕ) → n < 2147483648 → T (non_neg (to_z w32 n)) × Fits w32 (nat_abs (to_z w32 n))
casts n h = (
  subst (λ (z : ℤ). T (non_neg z)) (sym (to_z_pos w32 h)) tt,
  subst (λ (m : ℕ). Fits w32 m) (sym (same n h)) (record { fits = omega arith }),
)
