-- What the definitions of the text promise.
--     tallies_add_up   "the six tallies .. add up to it", the number of records
--     read-back        a number's digits read back give the number, so no two numbers print alike
--     printed_once     no second answer and no second buffer fits what a writer promises
-- Assumes nothing.
use Rattle.std.specs.Prelude.{ℕ, zero, suc, ◌+◌, ◌-◌, ◌*◌, ◌/◌, ◌%◌, ◌≤◌, ◌<◌, Bool, true, false, cond, ◌≡◌, refl, List, [], ◌∷◌, ◌++◌, Option, ltb, leb, eqb, length}
use Rattle.std.proofs.Common.{sym, ◌∙◌, arith, ltb-false, leb-true}
use Rattle.text.specs.declared.Row.{Row}
use Rattle.text.specs.Text.{digits, decimal, kind_of, tally}
use Rattle.text.specs.Writers.{Printed}

few_if : (w : ℕ) (b : Bool) → leb w 5 ≡ b → cond b w 0 ≤ 5
few_if w true e = leb-true w 5 e
few_if w false e = omega arith

kind_few : (w : ℕ) → kind_of w ≤ 5
unfolding kind_of
kind_few w = few_if w (leb w 5) refl

-- a word is exactly one of the six
one_word : (w : ℕ) → w ≤ 5 → cond (eqb w 1) 1 0 + cond (eqb w 2) 1 0 + cond (eqb w 3) 1 0 + cond (eqb w 4) 1 0 + cond (eqb w 5) 1 0 + cond (eqb w 0) 1 0 ≡ 1
one_word zero h = refl
one_word (suc zero) h = refl
one_word (suc (suc zero)) h = refl
one_word (suc (suc (suc zero))) h = refl
one_word (suc (suc (suc (suc zero)))) h = refl
one_word (suc (suc (suc (suc (suc zero))))) h = refl
one_word (suc (suc (suc (suc (suc (suc w)))))) h = absurd (omega arith)

pub tallies_add_up : (rs : List Row) → tally 1 rs + tally 2 rs + tally 3 rs + tally 4 rs + tally 5 rs + tally 0 rs ≡ length rs
unfolding tally
tallies_add_up [] = refl
tallies_add_up (r ∷ rs) = omega (arith, tallies_add_up rs, one_word (kind_of r.answer.word) (kind_few r.answer.word))

-- the number that a row of digits stands for, with `n` for what stands in front
unfoldable pub read_on : ℕ → List ℕ → ℕ
read_on n [] = n
read_on n (d ∷ ds) = read_on (10 * n + (d - 48)) ds

read_last : (n d : ℕ) (ds : List ℕ) → read_on n (ds ++ (d ∷ [])) ≡ 10 * read_on n ds + (d - 48)
unfolding read_on
read_last n d [] = refl
read_last n d (e ∷ ds) = read_last (10 * n + (e - 48)) d ds

read_step : (n : ℕ) (ds : List ℕ) (b : Bool) → ltb n 10 ≡ b → (10 ≤ n → read_on 0 ds ≡ n / 10) → read_on 0 (cond b ((48 + n) ∷ []) (ds ++ ((48 + n % 10) ∷ []))) ≡ n
unfolding read_on
read_step n ds true e front = omega arith
read_step n ds false e front =
    let h : 10 ≤ n = ltb-false n 10 e in
    read_last 0 (48 + n % 10) ds ∙ omega (arith, front h)

read_digits : (most n : ℕ) → n < most → read_on 0 (digits most n) ≡ n
unfolding digits
read_digits zero n h = absurd (omega arith)
read_digits (suc most) n h = read_step n (digits most (n / 10)) (ltb n 10) refl (λ l. read_digits most (n / 10) (omega arith))

pub read_back : (n : ℕ) → read_on 0 (decimal n) ≡ n
unfolding decimal
read_back n = read_digits (suc n) n (omega arith)

pub printed_once : {room : Bool} {text before s s' : List ℕ} {r r' : Option ℕ} → Printed room text before s r → Printed room text before s' r' → (r ≡ r') × (s ≡ s')
printed_once p q = (p.said ∙ sym q.said, p.bytes ∙ sym q.bytes)
