-- 16 WORD: numbers that it does not refuse are an answer's, and an answer's numbers say which it is.
--     answer_of      the answer that numbers tell, by their word; `told_back`: an answer's own numbers tell it
--     Taken         what numbers that are not refused are known to be; `taken`
--     taken_told    they are the numbers of an answer: no field says more than that answer has
--     told_once     no two answers are told in the same numbers
-- Assumes nothing.
use Rattle.std.specs.Prelude.{ℕ, zero, suc, ◌≤◌, ◌≡◌, refl, Bool, true, false, not, ◌&&◌, ◌||◌, ltb, eqb, drop}
use Rattle.std.proofs.Common.{sym, ap, ◌∙◌, arith, ltb-false, eqb-true}
use Rattle.std.proofs.lemmas.Bool.{not-false}
use Rattle.rules.specs.declared.Told.{Told}
use Rattle.rules.specs.declared.Answer.{Answer}
use Rattle.rules.specs.declared.Answer.TheVariants.{Met, Clear, Spent, Room, Floor, Refused}
use Rattle.rules.specs.Answers.{told, has_moment}
use Rattle.rules.specs.AnswerFile.{is_refused, no_moment, word_cases, word_refusal}
use Rattle.refusals.specs.Cases.{not_due}

-- ---- the answer that numbers tell
abbrev pub answer_by : ℕ → Told → Answer
answer_by zero a = Refused a.number
answer_by (suc zero) a = Met a.t a.u a.v a.excess a.count
answer_by (suc (suc zero)) a = Clear a.count
answer_by (suc (suc (suc zero))) a = Spent a.t a.u a.v a.excess a.count
answer_by (suc (suc (suc (suc zero)))) a = Room a.t a.u a.v a.excess a.count
answer_by (suc (suc (suc (suc (suc n))))) a = Floor a.t a.u a.v a.excess a.count

abbrev pub answer_of : Told → Answer
answer_of a = answer_by a.word a

pub told_back : (a : Answer) → answer_of (told a) ≡ a
told_back (Met t u v excess count) = refl
told_back (Clear count) = refl
told_back (Spent t u v excess count) = refl
told_back (Room t u v excess count) = refl
told_back (Floor t u v excess count) = refl
told_back (Refused number) = refl

pub told_once : (a b : Answer) → told a ≡ told b → a ≡ b
told_once a b e = sym (told_back a) ∙ ap answer_of e ∙ told_back b

-- ---- what no refusal says of numbers
either_false : (a b : Bool) → (a || b) ≡ false → (a ≡ false) × (b ≡ false)
either_false true b e = let z : ◌≡◌ {A = ℕ} 0 1 = cc in absurd (omega arith)
either_false false b e = (refl, e)

if_false : (a b : Bool) → (a && b) ≡ false → a ≡ true → b ≡ false
if_false true b e h = e
if_false false b e h = let z : ◌≡◌ {A = ℕ} 0 1 = cc in absurd (omega arith)

both_true : (a b : Bool) → (a && b) ≡ true → (a ≡ true) × (b ≡ true)
both_true true b e = (refl, e)
both_true false b e = let z : ◌≡◌ {A = ℕ} 0 1 = cc in absurd (omega arith)

pub record Taken (a : Told) : Type 0 where
  pub word : a.word ≤ 5
  pub t : a.t ≤ 1_048_575
  pub u : a.u ≤ 1_048_575
  pub v : a.v ≤ 1_048_575
  pub counted : is_refused a ≡ false → (1 ≤ a.count) × (a.count ≤ 1_000_000)
  pub uncounted : is_refused a ≡ true → a.count ≡ 0
  pub numbered : is_refused a ≡ true → 1 ≤ a.number
  pub unnumbered : is_refused a ≡ false → a.number ≡ 0
  pub still : has_moment a ≡ false → (a.t ≡ 0) × ((a.u ≡ 0) × ((a.v ≡ 0) × (a.excess ≡ 0)))

-- a count in its range; a number that is not 0
not_zero : (n : ℕ) → eqb n 0 ≡ false → 1 ≤ n
not_zero zero e = let z : ◌≡◌ {A = ℕ} 0 1 = cc in absurd (omega arith)
not_zero (suc n) e = omega arith

in_range : (n : ℕ) → (eqb n 0 || ltb 1_000_000 n) ≡ false → (1 ≤ n) × (n ≤ 1_000_000)
in_range n e = let h = either_false (eqb n 0) (ltb 1_000_000 n) e in (not_zero n h.0, ltb-false 1_000_000 n h.1)

all_zero : (a : Told) → no_moment a ≡ true → (a.t ≡ 0) × ((a.u ≡ 0) × ((a.v ≡ 0) × (a.excess ≡ 0)))
all_zero a e =
    let v = both_true (eqb a.t 0 && eqb a.u 0 && eqb a.v 0) (eqb a.excess 0) e in
    let u = both_true (eqb a.t 0 && eqb a.u 0) (eqb a.v 0) v.0 in
    let t = both_true (eqb a.t 0) (eqb a.u 0) u.0 in
    (eqb-true a.t 0 t.0, (eqb-true a.u 0 t.1, (eqb-true a.v 0 u.1, eqb-true a.excess 0 v.1)))

pub taken : (a : Told) → word_refusal a ≡ 0 → Taken a
unfolding word_refusal
taken a e =
    let cs = word_cases a in
    let off = ltb 1_048_575 a.t || ltb 1_048_575 a.u || ltb 1_048_575 a.v in
    let h1 = not_due 15 (ltb 5 a.word) (drop 1 cs) e in
    let h2 = not_due 15 off (drop 2 cs) h1.1 in
    let h3 = not_due 15 (not (is_refused a) && (eqb a.count 0 || ltb 1_000_000 a.count)) (drop 3 cs) h2.1 in
    let h4 = not_due 15 (is_refused a && eqb a.number 0) (drop 4 cs) h3.1 in
    let h5 = not_due 15 (not (has_moment a) && not (no_moment a)) (drop 5 cs) h4.1 in
    let h6 = not_due 15 (is_refused a && not (eqb a.count 0)) (drop 6 cs) h5.1 in
    let h7 = not_due 15 (not (is_refused a) && not (eqb a.number 0)) (drop 7 cs) h6.1 in
    let v = either_false (ltb 1_048_575 a.t || ltb 1_048_575 a.u) (ltb 1_048_575 a.v) h2.0 in
    let u = either_false (ltb 1_048_575 a.t) (ltb 1_048_575 a.u) v.0 in
    record {
      word = ltb-false 5 a.word h1.0;
      t = ltb-false 1_048_575 a.t u.0;
      u = ltb-false 1_048_575 a.u u.1;
      v = ltb-false 1_048_575 a.v v.1;
      counted = λ r. in_range a.count (if_false (not (is_refused a)) (eqb a.count 0 || ltb 1_000_000 a.count) h3.0 (ap not r));
      uncounted = λ r. eqb-true a.count 0 (not-false _ (if_false (is_refused a) (not (eqb a.count 0)) h6.0 r));
      numbered = λ r. not_zero a.number (if_false (is_refused a) (eqb a.number 0) h4.0 r);
      unnumbered = λ r. eqb-true a.number 0 (not-false _ (if_false (not (is_refused a)) (not (eqb a.number 0)) h7.0 (ap not r)));
      still = λ r. all_zero a (not-false _ (if_false (not (has_moment a)) (not (no_moment a)) h5.0 (ap not r)));
    }

-- ---- so they are an answer's
pub taken_told : (a : Told) → Taken a → told (answer_of a) ≡ a
taken_told a h = go a.word refl
  where
    -- the test of a word that is known
    refused : {w : ℕ} {b : Bool} → a.word ≡ w → eqb w 0 ≡ b → is_refused a ≡ b
    refused e f = ap (λ (n : ℕ). eqb n 0) e ∙ f

    moment : {w : ℕ} {b : Bool} → a.word ≡ w → (eqb w 1 || eqb w 3 || eqb w 4 || eqb w 5) ≡ b → has_moment a ≡ b
    moment e f = ap (λ (n : ℕ). eqb n 1 || eqb n 3 || eqb n 4 || eqb n 5) e ∙ f

    same : (b : Told) → b.word ≡ a.word → b.t ≡ a.t → b.u ≡ a.u → b.v ≡ a.v → b.excess ≡ a.excess → b.count ≡ a.count → b.number ≡ a.number → b ≡ a
    same b w t u v x c n = λ i. record { word = w i; t = t i; u = u i; v = v i; excess = x i; count = c i; number = n i }

    go : (w : ℕ) → a.word ≡ w → told (answer_by w a) ≡ a
    go zero e =
        let z = h.still (moment e refl) in
        same (told (answer_by 0 a)) (sym e) (sym z.0) (sym z.1.0) (sym z.1.1.0) (sym z.1.1.1) (sym (h.uncounted (refused e refl))) refl
    go (suc zero) e = same (told (answer_by 1 a)) (sym e) refl refl refl refl refl (sym (h.unnumbered (refused e refl)))
    go (suc (suc zero)) e =
        let z = h.still (moment e refl) in
        same (told (answer_by 2 a)) (sym e) (sym z.0) (sym z.1.0) (sym z.1.1.0) (sym z.1.1.1) refl (sym (h.unnumbered (refused e refl)))
    go (suc (suc (suc zero))) e = same (told (answer_by 3 a)) (sym e) refl refl refl refl refl (sym (h.unnumbered (refused e refl)))
    go (suc (suc (suc (suc zero)))) e = same (told (answer_by 4 a)) (sym e) refl refl refl refl refl (sym (h.unnumbered (refused e refl)))
    go (suc (suc (suc (suc (suc zero))))) e = same (told (answer_by 5 a)) (sym e) refl refl refl refl refl (sym (h.unnumbered (refused e refl)))
    go (suc (suc (suc (suc (suc (suc w)))))) e = absurd (omega (arith, h.word))
