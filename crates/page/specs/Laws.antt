-- What the definitions of the page promise.
--     long, short           the refusal of an input, by its length
--     open_most             opening's own numbers end with 12, so 15 is given exactly when the input is over 65,536 bytes (`fifteen_exactly`, proofs/Exactly.antt)
--     text_put, text_fits   a text that is printed stands from the first place on, and lies in the buffer
--     text_some             where there is room a text is printed
--     paged_once            no second answer and no second buffer fits what the page promises
-- Assumes nothing.
use Rattle.std.specs.Prelude.{ℕ, ◌≤◌, ◌<◌, ◌≡◌, refl, Bool, true, false, cond, List, [], ◌∷◌, Option, Some, IsSome, length}
use Rattle.std.proofs.Common.{sym, ap, subst, ◌∙◌, arith, lt-ltb, le-ltb, length-append}
use Rattle.rules.specs.Refusals.{Case, first}
use Rattle.rules.specs.QueryFile.{file_form, open_cases, open_refusal, put}
use Rattle.text.specs.Writers.{written_if, buffer_if, Printed}
use Rattle.text.specs.Laws.{printed_once}
use Rattle.page.specs.Page.{sweep_refusal, Paged}

-- ---- the input's refusal
pub long : (s : List ℕ) → 65536 < length s → sweep_refusal s ≡ 15
unfolding sweep_refusal first
long s h = rw (lt-ltb 65536 (length s) h)

pub short : (s : List ℕ) → length s ≤ 65536 → sweep_refusal s ≡ open_refusal (file_form s) s
unfolding sweep_refusal open_refusal first
short s h = rw (le-ltb 65536 (length s) h)

-- rows whose numbers are at most this: of a list that is written out it computes
abbrev NumbersTo : ℕ → List Case → Type 0
NumbersTo most [] = Unit
NumbersTo most (c ∷ cs) = (c.number ≤ most) × NumbersTo most cs

first_most : (most : ℕ) (cs : List Case) → NumbersTo most cs → first cs ≤ most
unfolding first
first_most most [] h = omega arith
first_most most (c ∷ cs) h = by_case c.due (first cs) (first_most most cs h.1)
  where
    by_case : (due : Bool) (rest : ℕ) → rest ≤ most → cond due c.number rest ≤ most
    by_case true rest k = h.0
    by_case false rest k = k

-- opening's own numbers end with 12
pub open_most : (s : List ℕ) → open_refusal (file_form s) s ≤ 12
unfolding open_refusal
open_most s = first_most 12 (open_cases (file_form s) s) (omega arith, (omega arith, (omega arith, (omega arith, (omega arith, tt)))))

-- ---- what is printed
text_if : (room : Bool) (text out out' : List ℕ) {n : ℕ} → Some n ≡ written_if room text → out' ≡ buffer_if room text out → (out' ≡ put out 0 text) × (n ≡ length text)
unfolding written_if buffer_if
text_if true text out out' e bytes = (bytes, cc)
text_if false text out out' e bytes = let z : ◌≡◌ {A = ℕ} 0 1 = cc in absurd (omega arith)

pub text_put : {room : Bool} {text out out' : List ℕ} {w : Option ℕ} {n : ℕ} → Printed room text out out' w → w ≡ Some n → (out' ≡ put out 0 text) × (n ≡ length text)
text_put {room} {text} {out} {out'} p e = text_if room text out out' (sym e ∙ p.said) p.bytes

fits_put : (out text : List ℕ) → length text ≤ length (put out 0 text)
unfolding put
fits_put out text = simp length-append (omega arith)

pub text_fits : {room : Bool} {text out out' : List ℕ} {w : Option ℕ} {n : ℕ} → Printed room text out out' w → w ≡ Some n → length out' ≡ length out → n ≤ length out
text_fits {text = text} {out = out} p e kept = let h = text_put p e in omega (arith, fits_put out text, ap length h.0, kept, h.1)

-- where there is room a text is printed
pub text_some : {room : Bool} {text out out' : List ℕ} {w : Option ℕ} → Printed room text out out' w → room ≡ true → IsSome w
unfolding written_if
text_some {text = text} p e = subst IsSome (sym (p.said ∙ ap (λ (b : Bool). written_if b text) e)) refl

pub paged_once : (file : List ℕ) {out out' out'' : List ℕ} {r r' : Option ℕ} → Paged file out out' r → Paged file out out'' r' → (r ≡ r') × (out' ≡ out'')
paged_once file p q = printed_once p q
