-- Whole files.
--     trailer_opens               bytes with a trailer of a form behind them open by it
--     formed_opens, formed_read   free bytes, a list of records and a trailer of a form open to exactly so many records, from the first on, and they are that list
--     formed_once                 no two lists, and no two runs of free bytes, are the same file
--     written_file                records and a trailer put one behind another are such a file
--     file_opens                  a query file opens to its edition and to its records
--     file_fetch, file_past       record k is the k-th of the list, beside its own refusal; past the last there is none
-- The first five of every form, the others of every edition of the query file. Assumes nothing.
use Rattle.std.specs.Prelude.{ℕ, ◌+◌, ◌-◌, ◌*◌, ◌≤◌, ◌<◌, ◌≡◌, Bool, true, false, cond, ◌||◌, eqb}
use Rattle.std.proofs.Math.Path.{refl, sym, ap}
use Rattle.std.proofs.Common.{◌∙◌, eq-eqb, eqb-true, le-ltb, drop-drop}
use mathlib.Core.List.{List, [], ◌++◌, append_assoc, append-nil}
use native.Mathlib.Omega.{arith}
use Rattle.std.proofs.Math.ListN.{length, get_or, take, drop, length-append, drop_of_length-le}
use Rattle.std.proofs.Math.Seq.{get_or-append-add, take_at, drop_at, drop-append-add, drop-append_seam}
use Rattle.rules.specs.declared.Record.{Record}
use Rattle.rules.specs.declared.Form.{Form}
use Rattle.rules.specs.declared.Records.{Records}
use Rattle.rules.specs.Refusals.{first, record_refusal}
use Rattle.rules.specs.QueryFile.{word, word_bytes, stands, is_edition, record_bytes, query_form, edition_for, edition_of, file_form, edition_bytes, trailer_bytes, joined, read_from, form_bytes, file_bytes, open_refusal, open_unless, records, opened, no_record, fetch_unless, fetched, put}
use Rattle.little.specs.Word.{length_word, word_at}
use Rattle.little.specs.Stands.{stands_there}
use Rattle.queries.specs.Sizes.{few_size}
use Rattle.queries.specs.Opening.{Holds, opened_records, reach_index, reach_good}
use Rattle.queries.specs.Layout.{Layout, All, length_joined, read_joined, record_in}
use Rattle.queries.specs.RoundTrip.{HeldIn, layout}

-- ---- a trailer
open_good : (form : Form) (s : List ℕ) (t n : ℕ) → t + 16 ≡ length s → stands s t form.mark ≡ true → stands s (t + 4) (edition_bytes form) ≡ true
    → word s (t + 8) ≡ form.size * n → word s (t + 12) ≡ n → n ≤ 4096 → form.size * n ≤ t → opened form s ≡ records form.edition (t - form.size * n) n
unfolding opened open_unless open_refusal first
open_good form s t n long mark edition w8 w12 few room =
    let l : length s - 16 ≡ t = omega arith in
    simp (
      l,
      le-ltb (length s) 16 (omega arith),
      mark,
      edition,
      w8,
      w12,
      le-ltb 4096 n few,
      eq-eqb (form.size * n) (form.size * n) refl,
      le-ltb t (form.size * n) room,
    )

module _ (form : Form) (n : ℕ) (four_long : length form.mark ≡ 4) where
  pub length_trailer : length (trailer_bytes form n) ≡ 16
  unfolding trailer_bytes
  length_trailer = simp length-append (omega (arith, length_word (form.size * n), length_word n))

  -- what follows each of its parts
  after4 : drop 4 (trailer_bytes form n) ≡ edition_bytes form ++ (word_bytes (form.size * n) ++ word_bytes n)
  unfolding trailer_bytes
  after4 =
      let w8 = word_bytes (form.size * n) in
      let e : form.mark ++ edition_bytes form ++ w8 ++ word_bytes n ≡ form.mark ++ (edition_bytes form ++ (w8 ++ word_bytes n)) = simp append_assoc in
      ap (drop 4) e ∙ drop_at form.mark (edition_bytes form ++ (w8 ++ word_bytes n)) 4 four_long

  after8 : drop 8 (trailer_bytes form n) ≡ word_bytes (form.size * n) ++ word_bytes n
  after8 = sym (drop-drop 4 4 (trailer_bytes form n)) ∙ ap (drop 4) after4

  after12 : drop 12 (trailer_bytes form n) ≡ word_bytes n ++ []
  unfolding word_bytes
  after12 = sym (drop-drop 4 8 (trailer_bytes form n)) ∙ ap (drop 4) after8

  starts_with : trailer_bytes form n ≡ form.mark ++ (edition_bytes form ++ (word_bytes (form.size * n) ++ word_bytes n))
  unfolding trailer_bytes
  starts_with = simp append_assoc

  pub trailer_opens : (before : List ℕ) → n ≤ 4096 → form.size * n < 4294967296 → form.size * n ≤ length before
      → opened form (before ++ trailer_bytes form n) ≡ records form.edition (length before - form.size * n) n
  trailer_opens before few small room =
      let t = length before in
      let tail = trailer_bytes form n in
      let s = before ++ tail in
      let part : (k : ℕ) → drop (t + k) s ≡ drop k tail = drop-append-add before tail in
      open_good form s t n
      (omega (arith, length-append before tail, length_trailer))
      (stands_there form.mark _ s t (drop-append_seam before tail ∙ starts_with))
      (stands_there (edition_bytes form) _ s (t + 4) (part 4 ∙ after4))
      (word_at s _ (t + 8) (form.size * n) (part 8 ∙ after8) small)
      (word_at s _ (t + 12) n (part 12 ∙ after12) (omega arith))
      few room

-- ---- a file of a form
module _ {form : Form} {R : Type 0} (w : Layout form R) where
  length_front : (free : List ℕ) (rs : List R) → All w.Held rs → length (free ++ joined w.bytes rs) ≡ length free + form.size * length rs
  length_front free rs all = omega (arith, length-append free (joined w.bytes rs), length_joined w rs all)

  module _ (free : List ℕ) (rs : List R) (all : All w.Held rs) where
    pub formed_opens : length rs ≤ 4096 → opened form (form_bytes form w.bytes free rs) ≡ records form.edition (length free) (length rs)
    unfolding form_bytes
    formed_opens few =
        let before = free ++ joined w.bytes rs in
        let l = length_front free rs all in
        let e : length before - form.size * length rs ≡ length free = omega arith in
        trailer_opens form (length rs) w.four_long before few (few_size form.size (length rs) w.small few) (omega arith)
        ∙ ap (λ (p : ℕ). records form.edition p (length rs)) e

    pub formed_read : read_from w.read form.size (form_bytes form w.bytes free rs) (length free) (length rs) ≡ rs
    unfolding form_bytes
    formed_read = read_joined w rs free (trailer_bytes form (length rs)) all

    pub formed_record : (none : R) (k : ℕ) → k < length rs → w.read (form_bytes form w.bytes free rs) (length free + form.size * k) ≡ get_or rs k none
    unfolding form_bytes
    formed_record none k h = record_in w rs none k free (trailer_bytes form (length rs)) all h

    pub formed_free : take (length free) (form_bytes form w.bytes free rs) ≡ free
    unfolding form_bytes
    formed_free =
        ap (take (length free)) (append_assoc free (joined w.bytes rs) (trailer_bytes form (length rs)))
        ∙ take_at free (joined w.bytes rs ++ trailer_bytes form (length rs)) (length free) refl

  pub formed_once : (free free' : List ℕ) (rs rs' : List R) → All w.Held rs → All w.Held rs' → length rs ≤ 4096 → length rs' ≤ 4096
      → form_bytes form w.bytes free rs ≡ form_bytes form w.bytes free' rs' → (free ≡ free') × (rs ≡ rs')
  formed_once free free' rs rs' all all' few few' e =
      let o : records form.edition (length free) (length rs) ≡ records form.edition (length free') (length rs') =
      sym (formed_opens free rs all few) ∙ ap (opened form) e ∙ formed_opens free' rs' all' few' in
      let same : ◌≡◌ {A = Records}
      (record { edition = form.edition; first = length free; count = length rs })
      (record { edition = form.edition; first = length free'; count = length rs' }) = cc in
      let p : length free ≡ length free' = ap (λ (r : Records). r.first) same in
      let n : length rs ≡ length rs' = ap (λ (r : Records). r.count) same in (
        sym (formed_free free rs all) ∙ (λ i. take (p i) (e i)) ∙ formed_free free' rs' all',
        sym (formed_read free rs all) ∙ (λ i. read_from w.read form.size (e i) (p i) (n i)) ∙ formed_read free' rs' all',
      )

  -- records and a trailer put one behind another up to a buffer's end are a file of them
  pub written_file : (s : List ℕ) (at : ℕ) (rs : List R) → All w.Held rs → at + form.size * length rs + 16 ≡ length s
      → put s at (joined w.bytes rs ++ trailer_bytes form (length rs)) ≡ form_bytes form w.bytes (take at s) rs
  unfolding put form_bytes
  written_file s at rs all e =
      let tail = trailer_bytes form (length rs) in
      let bytes = joined w.bytes rs ++ tail in
      let l : length bytes ≡ form.size * length rs + 16 =
      length-append (joined w.bytes rs) tail ∙ omega (arith, length_joined w rs all, length_trailer form (length rs) w.four_long) in
      let past : length s ≤ at + length bytes = omega arith in
      let end : drop (at + length bytes) s ≡ [] = drop_of_length-le s past in
      ap (λ (x : List ℕ). take at s ++ bytes ++ x) end
      ∙ append-nil (take at s ++ bytes)
      ∙ sym (append_assoc (take at s) (joined w.bytes rs) tail)

-- ---- a query file
named : (edition : ℕ) → is_edition edition ≡ true → edition_for edition ≡ edition
named edition e = go (eqb edition 1) (eqb edition 2) (eqb edition 3) refl e
  where
    go : (one two three : Bool) → eqb edition 1 ≡ one → (one || two || three) ≡ true → cond (two || three) edition 1 ≡ edition
    go one true three f h = refl
    go one false true f h = refl
    go true false false f h = sym (eqb-true edition 1 f)
    go false false false f h = let z : ◌≡◌ {A = ℕ} 0 1 = cc in absurd (omega arith)

module _ (edition : ℕ) (free : List ℕ) (rs : List Record) (is : is_edition edition ≡ true) (all : All (HeldIn edition) rs) (few : length rs ≤ 4096) where
  before : List ℕ
  before = free ++ joined (record_bytes edition) rs

  -- its trailer names its edition
  pub file_edition : edition_of (file_bytes edition free rs) ≡ edition
  unfolding form_bytes before trailer_bytes
  file_edition =
      let tail = trailer_bytes (query_form edition) (length rs) in
      let t : length (before ++ tail) - 16 ≡ length before = omega (arith, length-append before tail, length_trailer (query_form edition) (length rs) refl) in
      let there : get_or (before ++ tail) (length before + 4) 0 ≡ edition = get_or-append-add before tail 4 0 in
      ap (λ (n : ℕ). edition_for (get_or (before ++ tail) (n + 4) 0)) t ∙ ap edition_for there ∙ named edition is

  pub file_opens : opened (file_form (file_bytes edition free rs)) (file_bytes edition free rs) ≡ records edition (length free) (length rs)
  file_opens = ap (λ (n : ℕ). opened (query_form n) (file_bytes edition free rs)) file_edition ∙ formed_opens (layout edition) free rs all few

  pub file_holds : Holds (file_form (file_bytes edition free rs)) (file_bytes edition free rs) edition (length free) (length rs)
  file_holds = opened_records (file_form (file_bytes edition free rs)) (file_bytes edition free rs) _ file_opens

  pub file_fetch : (k : ℕ) → k < length rs → fetched (file_bytes edition free rs) k ≡ record { refusal = record_refusal (get_or rs k no_record); query = get_or rs k no_record }
  unfolding fetched fetch_unless
  file_fetch k h =
      let s = file_bytes edition free rs in
      rw (reach_good (file_form s) s k file_holds.none (omega (arith, file_holds.counts)), ← file_holds.starts, file_edition, formed_record (layout edition) free rs all no_record k h)

  pub file_past : (k : ℕ) → length rs ≤ k → fetched (file_bytes edition free rs) k ≡ record { refusal = 13; query = no_record }
  unfolding fetched fetch_unless
  file_past k h = let s = file_bytes edition free rs in rw (reach_index (file_form s) s k file_holds.none (omega (arith, file_holds.counts)))
