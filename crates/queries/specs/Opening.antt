-- Laws of opening a file and of reaching a record in it.
--     ten_exactly                       the test of 10 is the one that document 02 words
--     refused_open                      the answer of a refusal
--     opened_refused, opened_records    what an answer says of the file
--     opened_once                       no second answer of opening fits
--     entry_fits                        each record of a form stands before the trailer; `records_end`, `record_fits` by the edition
--     few_records                       how many records a short file has at most
--     refused_first, opens_first        the file's own refusals come before any others
--     reach_refused, _index, _good      the refusal of fetching, by the file's own and the index
-- Assumes nothing.
use Prim.Native.Nat.{ℕ, zero, suc, ◌+◌, ◌-◌, ◌*◌, ◌<◌, ◌≤◌}
use Rattle.std.specs.Prelude.{◌≡◌, refl, Bool, true, false, not, cond, ◌&&◌, ◌||◌, List, [], ◌∷◌, ◌++◌, ltb, eqb, length, get_or, drop, Result, Ok, Err}
use Rattle.std.proofs.Common.{sym, ◌∙◌, arith, eq-eqb, ltb-false, eqb-true, lt-ltb, le-ltb}
use Rattle.std.proofs.Math.Path.{ap}
use Rattle.std.proofs.lemmas.Bool.{not-false}
use Rattle.rules.specs.declared.Record.{Record}
use Rattle.rules.specs.declared.Form.{Form}
use Rattle.rules.specs.declared.Records.{Records}
use Rattle.rules.specs.declared.Refusal.{Refusal}
use Rattle.rules.specs.Refusals.{Case, first, or_else, numbered}
use Rattle.rules.specs.QueryFile.{stands, is_edition, is_wide, record_size, edition_bytes, file_form, trailer_place, back_pointer, record_count, open_cases, open_refusal, open_unless, opened, index, reach_refusal, no_record, fetch_unless}
use Rattle.queries.specs.Sizes.{record_within, short_size}
use Rattle.refusals.specs.Cases.{first_then, not_due}
use Rattle.refusals.specs.Numbered.{same_numbered}

-- a file is not refused 10 exactly when its edition is 1, 2 or 3 and the three bytes behind that are zero
pub ten_exactly : (s : List ℕ) → let at = trailer_place s + 4 in stands s at (edition_bytes (file_form s)) ≡ (is_edition (get_or s at 0) && stands s (at + 1) (0 ∷ 0 ∷ 0 ∷ []))
unfolding stands
ten_exactly s =
    let at = trailer_place s + 4 in
    ap (λ (b : Bool). b && stands s (at + 1) (0 ∷ 0 ∷ 0 ∷ [])) (go (eqb (get_or s at 0) 1) (eqb (get_or s at 0) 2) (eqb (get_or s at 0) 3) refl)
  where
    b : ℕ
    b = get_or s (trailer_place s + 4) 0

    -- what it says is its edition, where that is 2 or 3, else 1
    go : (one two three : Bool) → eqb b 1 ≡ one → eqb b (cond (two || three) b 1) ≡ (one || two || three)
    go true true three e = eq-eqb b b refl
    go true false true e = eq-eqb b b refl
    go true false false e = e
    go false true three e = eq-eqb b b refl
    go false false true e = eq-eqb b b refl
    go false false false e = e

pub refused_open : (k edition place n : ℕ) → (k ≡ 0 → ⊥) → Err k ≡ open_unless k edition place n
unfolding open_unless
refused_open zero edition place n h = absurd (h refl)
refused_open (suc k) edition place n h = refl

-- ---- what no refusal says of a file
both_false : (a b : Bool) → (a || b) ≡ false → (a ≡ false) × (b ≡ false)
both_false true b e = let z : ◌≡◌ {A = ℕ} 0 1 = cc in absurd (omega arith)
both_false false b e = (refl, e)

pub record Opens (form : Form) (s : List ℕ) : Type 0 where
  pub long : 16 ≤ length s
  pub mark : stands s (trailer_place s) form.mark ≡ true
  pub edition : stands s (trailer_place s + 4) (edition_bytes form) ≡ true
  pub few : record_count s ≤ 4096
  pub whole : back_pointer s ≡ form.size * record_count s
  pub room : back_pointer s ≤ trailer_place s

pub opens : (form : Form) (s : List ℕ) → open_refusal form s ≡ 0 → Opens form s
unfolding open_refusal
opens form s e =
    let cs = open_cases form s in
    let differs = not (eqb (back_pointer s) (form.size * record_count s)) in
    let h8 = not_due 7 (ltb (length s) 16) (drop 1 cs) e in
    let h9 = not_due 8 (not (stands s (trailer_place s) form.mark)) (drop 2 cs) h8.1 in
    let h10 = not_due 9 (not (stands s (trailer_place s + 4) (edition_bytes form))) (drop 3 cs) h9.1 in
    let h11 = not_due 10 (ltb 4096 (record_count s)) (drop 4 cs) h10.1 in
    let h12 = not_due 11 (differs || ltb (trailer_place s) (back_pointer s)) [] h11.1 in
    let h = both_false differs (ltb (trailer_place s) (back_pointer s)) h12.0 in
    record {
      long = ltb-false (length s) 16 h8.0;
      mark = not-false _ h9.0;
      edition = not-false _ h10.0;
      few = ltb-false 4096 (record_count s) h11.0;
      whole = eqb-true (back_pointer s) (form.size * record_count s) (not-false _ h.0);
      room = ltb-false (trailer_place s) (back_pointer s) h.1;
    }

-- ---- what an answer says of a file
pub record Holds (form : Form) (s : List ℕ) (edition place n : ℕ) : Type 0 where
  pub none : open_refusal form s ≡ 0
  pub names : edition ≡ form.edition
  pub starts : place ≡ trailer_place s - back_pointer s
  pub counts : n ≡ record_count s
  pub few : n ≤ 4096
  pub ends : place + form.size * n + 16 ≡ length s

found : (k edition place n : ℕ) (o : Records) → open_unless k edition place n ≡ Ok o → (k ≡ 0) × (o ≡ record { edition = edition; first = place; count = n })
unfolding open_unless
found zero edition place n o e = (refl, cc)
found (suc k) edition place n o e = absurd (cc)

pub opened_records : (form : Form) (s : List ℕ) (o : Records) → opened form s ≡ Ok o → Holds form s o.edition o.first o.count
unfolding opened
opened_records form s o e =
    let h = found (open_refusal form s) form.edition (trailer_place s - back_pointer s) (record_count s) o e in
    let x = opens form s h.0 in
    let n : o.count ≡ record_count s = ap (λ (r : Records). r.count) h.1 in
    let w : back_pointer s ≡ form.size * o.count = x.whole ∙ ap (λ (k : ℕ). form.size * k) (sym n) in
    record {
      none = h.0;
      names = ap (λ (r : Records). r.edition) h.1;
      starts = ap (λ (r : Records). r.first) h.1;
      counts = n;
      few = omega (arith, x.few);
      ends = let first : o.first ≡ trailer_place s - back_pointer s = ap (λ (r : Records). r.first) h.1 in omega (arith, x.long, x.room);
    }

pub opened_once : (form : Form) (s : List ℕ) (a b : Result Records Refusal) → numbered a ≡ opened form s → numbered b ≡ opened form s → a ≡ b
opened_once form s a b p q = same_numbered a b (p ∙ sym q)

-- by the edition: the records end where the trailer begins, and record k stands before it
pub records_end : {s : List ℕ} {edition place n : ℕ} → Holds (file_form s) s edition place n → place + record_size edition * n + 16 ≡ length s
records_end {s} {edition} {place} {n} h = ap (λ (d : ℕ). place + record_size d * n + 16) h.names ∙ h.ends

pub entry_fits : {form : Form} {s : List ℕ} {edition place n : ℕ} → Holds form s edition place n → (k : ℕ) → k < n → place + form.size * k + form.size ≤ length s
entry_fits {form} {s} {edition} {place} {n} h k l = record_within form.size place n k (length s) l (omega (arith, h.ends))

pub record_fits : {s : List ℕ} {edition place n : ℕ} → Holds (file_form s) s edition place n → (k : ℕ) → k < n → place + record_size edition * k + record_size edition ≤ length s
record_fits {s} {edition} {place} {n} h k l = record_within (record_size edition) place n k (length s) l (omega (arith, records_end h))

-- 65,536 bytes hold no more than 564 records, of either edition
pub few_records : {s : List ℕ} {edition place n : ℕ} → Holds (file_form s) s edition place n → length s ≤ 65536 → n ≤ 564
few_records {s} {edition} {place} {n} h short = short_size (is_wide edition) n (omega (arith, records_end h))

refused : (k edition place n j : ℕ) → open_unless k edition place n ≡ Err j → (k ≡ j) × (j ≡ 0 → ⊥)
unfolding open_unless
refused zero edition place n j e = absurd (cc)
refused (suc k) edition place n j e = let h : suc k ≡ j = cc in (h, λ q. omega arith)

pub opened_refused : (form : Form) (s : List ℕ) (k : ℕ) → opened form s ≡ Err k → (open_refusal form s ≡ k) × (k ≡ 0 → ⊥)
unfolding opened
opened_refused form s k e = refused (open_refusal form s) form.edition (trailer_place s - back_pointer s) (record_count s) k e

-- ---- the file's own refusals first, then others
module _ (form : Form) (s : List ℕ) (more : List Case) where
  pub refused_first : (k : ℕ) → open_refusal form s ≡ k → (k ≡ 0 → ⊥) → first (open_cases form s ++ more) ≡ k
  unfolding open_refusal
  refused_first zero e h = absurd (h refl)
  refused_first (suc k) e h = first_then (open_cases form s) more tt ∙ ap (λ (m : ℕ). or_else m (first more)) e

  pub opens_first : open_refusal form s ≡ 0 → first (open_cases form s ++ more) ≡ first more
  unfolding open_refusal
  opens_first e = first_then (open_cases form s) more tt ∙ ap (λ (m : ℕ). or_else m (first more)) e

-- ---- reaching record n
module _ (form : Form) (s : List ℕ) (n : ℕ) where
  pub reach_refused : (k : ℕ) → open_refusal form s ≡ k → (k ≡ 0 → ⊥) → reach_refusal form s n ≡ k
  unfolding reach_refusal
  reach_refused = refused_first form s (index s n ∷ [])

  pub reach_index : open_refusal form s ≡ 0 → record_count s ≤ n → reach_refusal form s n ≡ 13
  unfolding reach_refusal first
  reach_index e h = opens_first form s (index s n ∷ []) e ∙ rw (le-ltb n (record_count s) h)

  pub reach_good : open_refusal form s ≡ 0 → n < record_count s → reach_refusal form s n ≡ 0
  unfolding reach_refusal first
  reach_good e h = opens_first form s (index s n ∷ []) e ∙ rw (lt-ltb n (record_count s) h)

-- a number that is none of these, beside no record
pub refused_fetch : (k : ℕ) (r : Record) → (k ≡ 0 → ⊥) → record { refusal = k; query = no_record } ≡ fetch_unless k r
unfolding fetch_unless
refused_fetch zero r h = absurd (h refl)
refused_fetch (suc k) r h = refl
