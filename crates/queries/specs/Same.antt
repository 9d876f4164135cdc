-- A file that opens is one of free bytes, its records and its trailer: read and written back it is the same bytes.
--     trailer_same    the last 16 bytes of a file that opens are the trailer of its count
--     formed_same     the bytes before the first record, the records that stand there and a trailer are the file; `file_same` of a query file
--     same_file       no two lists of records give the same bytes: these say the edition, the records and the free bytes before them
-- The first two of every form, the others of every edition of the query file. Assumes nothing.
use Rattle.std.specs.Prelude.{ℕ, ◌+◌, ◌*◌, ◌≤◌, ◌≡◌, true}
use Rattle.std.proofs.Math.Path.{sym, ap}
use Rattle.std.proofs.Common.{◌∙◌, drop-drop}
use mathlib.Core.List.{List, ◌++◌}
use native.Mathlib.Omega.{arith}
use Rattle.std.proofs.Math.ListN.{length, take, drop, take-append-drop, length-drop}
use Rattle.std.proofs.Math.Seq.{take-add, take_all}
use Rattle.rules.specs.declared.Record.{Record}
use Rattle.rules.specs.declared.Form.{Form}
use Rattle.rules.specs.QueryFile.{word_bytes, is_edition, record_size, record_at, edition_of, file_form, edition_bytes, trailer_bytes, joined, read_from, form_bytes, file_bytes, trailer_place, record_count, open_refusal, records, opened}
use Rattle.little.specs.Word.{Bytes, word_same}
use Rattle.little.specs.Stands.{stands_bytes}
use Rattle.queries.specs.Opening.{opens, opened_records}
use Rattle.queries.specs.Layout.{Layout, All, length_read, joined_read}
use Rattle.queries.specs.RoundTrip.{HeldIn, layout}
use Rattle.queries.specs.Files.{formed_once, file_holds}

module _ (form : Form) (s : List ℕ) (b : Bytes s) (four_long : length form.mark ≡ 4) (e : open_refusal form s ≡ 0) where
  pub trailer_same : trailer_bytes form (record_count s) ≡ drop (trailer_place s) s
  unfolding trailer_bytes
  trailer_same =
      let o = opens form s e in
      let long = o.long in
      let t = trailer_place s in
      let l = drop t s in
      let fits : t + 16 ≡ length s = omega arith in
      let m : form.mark ≡ take 4 l =
      sym (stands_bytes form.mark s t (omega arith) o.mark) ∙ ap (λ (k : ℕ). take k l) four_long in
      let d : edition_bytes form ≡ take 4 (drop 4 l) = sym (stands_bytes (edition_bytes form) s (t + 4) (omega arith) o.edition) ∙ ap (take 4) (sym (drop-drop 4 t s)) in
      let w8 : word_bytes (form.size * record_count s) ≡ take 4 (drop 8 l) =
      ap word_bytes (sym o.whole) ∙ word_same s b (t + 8) (omega arith) ∙ ap (take 4) (sym (drop-drop 8 t s)) in
      let w12 : word_bytes (record_count s) ≡ take 4 (drop 12 l) = word_same s b (t + 12) (omega arith) ∙ ap (take 4) (sym (drop-drop 12 t s)) in
      (λ i. m i ++ d i ++ w8 i ++ w12 i)
      ∙ parts l
      ∙ take_all 16 l (simp length-drop (omega arith))
    where
      parts : (l : List ℕ) → take 4 l ++ take 4 (drop 4 l) ++ take 4 (drop 8 l) ++ take 4 (drop 12 l) ≡ take 16 l
      parts l = rw (← take-add 4 4 l, ← take-add 8 4 l, ← take-add 12 4 l)

module _ {form : Form} {R : Type 0} (w : Layout form R) where
  pub formed_same : (s : List ℕ) (edition place n : ℕ) → Bytes s → opened form s ≡ records edition place n
      → form_bytes form w.bytes (take place s) (read_from w.read form.size s place n) ≡ s
  unfolding form_bytes
  formed_same s edition place n b e =
      let h = opened_records form s (record { edition = edition; first = place; count = n }) e in
      let size = form.size * n in
      let whole : place + size + 16 ≡ length s = h.ends in
      let t : trailer_place s ≡ place + size = omega arith in
      let r : joined w.bytes (read_from w.read form.size s place n) ≡ take size (drop place s) = joined_read w n s place b (omega arith) in
      let l : trailer_bytes form (length (read_from w.read form.size s place n)) ≡ drop (place + size) s =
      ap (trailer_bytes form) (length_read w.read form.size s n place ∙ h.counts)
      ∙ trailer_same form s b w.four_long h.none
      ∙ ap (λ (k : ℕ). drop k s) t in
      (λ i. take place s ++ r i ++ l i)
      ∙ ap (λ (x : List ℕ). x ++ drop (place + size) s) (sym (take-add place size s))
      ∙ take-append-drop (place + size) s

-- a query file, by the edition that it names
pub file_same : (s : List ℕ) (edition place n : ℕ) → Bytes s → opened (file_form s) s ≡ records edition place n
    → file_bytes edition (take place s) (read_from (record_at edition) (record_size edition) s place n) ≡ s
file_same s edition place n b e =
    ap (λ (d : ℕ). file_bytes d (take place s) (read_from (record_at d) (record_size d) s place n)) (opened_records (file_form s) s (record { edition = edition; first = place; count = n }) e).names
    ∙ formed_same (layout (edition_of s)) s edition place n b e

-- ---- no two lists of records give the same bytes

-- what a file of an edition can hold
pub record Listed (edition : ℕ) (rs : List Record) : Type 0 where
  pub is : is_edition edition ≡ true
  pub all : All (HeldIn edition) rs
  pub few : length rs ≤ 4096

pub same_file : (edition edition' : ℕ) (free free' : List ℕ) (rs rs' : List Record)
    → Listed edition rs → Listed edition' rs'
    → file_bytes edition free rs ≡ file_bytes edition' free' rs'
    → (edition ≡ edition') × (free ≡ free') × (rs ≡ rs')
same_file edition edition' free free' rs rs' l l' e =
    let h = file_holds edition free rs l.is l.all l.few in
    let h' = file_holds edition' free' rs' l'.is l'.all l'.few in
    let same : edition ≡ edition' = h.names ∙ ap edition_of e ∙ sym h'.names in
    let all : All (HeldIn edition) rs' = rw same l'.all in
    let once = formed_once (layout edition) free free' rs rs' l.all all l.few l'.few (e ∙ ap (λ (d : ℕ). file_bytes d free' rs') (sym same)) in
    (same, once.0, once.1)
