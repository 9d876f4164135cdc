-- A record written and read back is that record; the bytes of a record read and written back are those bytes.
--     read-back       what was put is read as the record; `written_back` of a writer's buffer, whatever the record that it did not refuse
--     write_back      to put the record that stands at a place there again changes nothing
--     same_record     no two records have the same bytes
--     layout          an edition's layout, of which Layout.antt speaks; the files' laws are of it (Files.antt, Same.antt)
-- All of any edition, by whether its record is wide. What is read is of the edition that it is read by. Assumes nothing.
use Rattle.std.specs.Prelude.{ℕ, ◌+◌, ◌*◌, ◌≤◌, ◌<◌, ◌≡◌, refl, Bool, true, false, List, [], ◌∷◌, ◌++◌, length, get_or, take, drop}
use Rattle.std.proofs.Common.{sym, ap, ◌∙◌, append_assoc, add-zero, arith, length-drop, get_or-drop, take-add}
use Rattle.rules.specs.declared.Record.{Record}
use Rattle.rules.specs.QueryFile.{word, word_bytes, coordinates_at, coordinate_bytes, is_wide, size_by, record_size, record_by, record_at, bytes_by, record_bytes, query_form, put, put_unless, in_edition, write_refusal}
use Rattle.little.specs.Word.{Bytes, word_drop, word_at, word_same, digits}
use Rattle.queries.specs.Coordinates.{length_bytes, coordinates_drop, coordinates_back, coordinates_same}
use Rattle.queries.specs.Writing.{write_room}
use Rattle.queries.specs.Layout.{Layout}
use Rattle.queries.specs.Layout as each
use Rattle.queries.specs.Held.{Held, held, narrow, as_one, read_held}

-- ---- a record
pub record_drop : (wide : Bool) (edition : ℕ) (s : List ℕ) (at : ℕ) → record_by wide edition (drop at s) 0 ≡ record_by wide edition s at
unfolding record_by
record_drop true edition s at = simp (get_or-drop, word_drop, coordinates_drop, add-zero)
record_drop false edition s at = simp (get_or-drop, word_drop, coordinates_drop, add-zero)

pub length_record : (wide : Bool) (r : Record) → Held wide r → length (bytes_by wide r) ≡ size_by wide
unfolding bytes_by word_bytes
length_record true r h = omega (arith, length_bytes r.points, h.count)
length_record false r h = omega (arith, length_bytes r.points, h.count)

pub front : (wide : Bool) (r : Record) (t : List ℕ) → Held wide r → record_by wide r.edition (bytes_by wide r ++ t) 0 ≡ r
unfolding record_by bytes_by word_bytes
front true r t h =
    let l = bytes_by true r ++ t in
    let e1 : word l 4 ≡ r.id = word_at l _ 4 r.id refl h.id in
    let e2 : word l 8 ≡ r.dx = word_at l _ 8 r.dx refl h.dx in
    let e2y : word l 12 ≡ r.dy = word_at l _ 12 r.dy refl h.dy in
    let e2z : word l 16 ≡ r.dz = word_at l _ 16 r.dz refl h.dz in
    let e3 : word l 20 ≡ r.tolerance = word_at l _ 20 r.tolerance refl h.tolerance in
    let e4 : word l 24 ≡ r.budget = word_at l _ 24 r.budget refl h.budget in
    let e6 : word l 28 ≡ r.cap = word_at l _ 28 r.cap refl h.cap in
    let e5 : coordinates_at l 32 24 ≡ r.points =
    sym (coordinates_drop 24 l 32 0) ∙ ap (λ (n : ℕ). coordinates_at (coordinate_bytes r.points ++ t) 0 n) (sym h.count) ∙ coordinates_back r.points t h.points in
    λ i. record {
      kind = r.kind;
      flags = r.flags;
      byte2 = r.byte2;
      byte3 = r.byte3;
      id = e1 i;
      dx = e2 i;
      dy = e2y i;
      dz = e2z i;
      tolerance = e3 i;
      budget = e4 i;
      cap = e6 i;
      edition = r.edition;
      points = e5 i;
    }
front false r t h =
    let w = h.narrow refl in
    let l = bytes_by false r ++ t in
    let e1 : word l 4 ≡ r.id = word_at l _ 4 r.id refl h.id in
    let e2 : word l 8 ≡ r.dx = word_at l _ 8 r.dx refl h.dx in
    let e2y : word l 8 ≡ r.dy = e2 ∙ w.dy in
    let e2z : word l 8 ≡ r.dz = e2 ∙ w.dz in
    let e6 : 0 ≡ r.cap = w.cap in
    let e3 : word l 12 ≡ r.tolerance = word_at l _ 12 r.tolerance refl h.tolerance in
    let e4 : word l 16 ≡ r.budget = word_at l _ 16 r.budget refl h.budget in
    let e5 : coordinates_at l 20 24 ≡ r.points =
    sym (coordinates_drop 24 l 20 0) ∙ ap (λ (n : ℕ). coordinates_at (coordinate_bytes r.points ++ t) 0 n) (sym h.count) ∙ coordinates_back r.points t h.points in
    λ i. record {
      kind = r.kind;
      flags = r.flags;
      byte2 = r.byte2;
      byte3 = r.byte3;
      id = e1 i;
      dx = e2 i;
      dy = e2y i;
      dz = e2z i;
      tolerance = e3 i;
      budget = e4 i;
      cap = e6 i;
      edition = r.edition;
      points = e5 i;
    }

-- as one of an edition it has the same bytes
same_as : (wide : Bool) (edition : ℕ) (r : Record) → bytes_by wide (in_edition edition r) ≡ bytes_by wide r
unfolding bytes_by
same_as true edition r = refl
same_as false edition r = refl

-- ---- the bytes of a record that stands in bytes
first_word : (s : List ℕ) → Bytes s → 4 ≤ length s → word_bytes (get_or s 0 0 + 256 * get_or s 1 0 + 65536 * get_or s 2 0 + 16777216 * get_or s 3 0) ≡ take 4 s
unfolding word
first_word s b h = word_same s b 0 h

four_bytes : (s : List ℕ) → Bytes s → 4 ≤ length s → get_or s 0 0 ∷ get_or s 1 0 ∷ get_or s 2 0 ∷ get_or s 3 0 ∷ [] ≡ take 4 s
four_bytes s b h = sym (digits _ _ _ _ (b 0) (b 1) (b 2) (b 3)) ∙ first_word s b h

parts : (s : List ℕ)
    → take 4 s ++ take 4 (drop 4 s) ++ (take 4 (drop 8 s) ++ take 4 (drop 12 s) ++ take 4 (drop 16 s)) ++ take 96 (drop 20 s) ≡ take 116 s
parts s =
    let e = sym (append_assoc (take 4 s ++ take 4 (drop 4 s)) (take 4 (drop 8 s) ++ take 4 (drop 12 s)) (take 4 (drop 16 s))) in
    let f = sym (append_assoc (take 4 s ++ take 4 (drop 4 s)) (take 4 (drop 8 s)) (take 4 (drop 12 s))) in
    rw (e, f, ← take-add 4 4 s, ← take-add 8 4 s, ← take-add 12 4 s, ← take-add 16 4 s, ← take-add 20 96 s)

wide_parts : (s : List ℕ)
    → take 4 s ++ take 4 (drop 4 s)
    ++ (take 4 (drop 8 s) ++ take 4 (drop 12 s) ++ take 4 (drop 16 s) ++ take 4 (drop 20 s) ++ take 4 (drop 24 s) ++ take 4 (drop 28 s))
    ++ take 96 (drop 32 s)
    ≡ take 128 s
wide_parts s =
    rw (
      ← append_assoc _ _ (take 4 (drop 28 s)),
      ← append_assoc _ _ (take 4 (drop 24 s)),
      ← append_assoc _ _ (take 4 (drop 20 s)),
      ← append_assoc _ _ (take 4 (drop 16 s)),
      ← append_assoc _ _ (take 4 (drop 12 s)),
      ← take-add 4 4 s,
      ← take-add 8 4 s,
      ← take-add 12 4 s,
      ← take-add 16 4 s,
      ← take-add 20 4 s,
      ← take-add 24 4 s,
      ← take-add 28 4 s,
      ← take-add 32 96 s,
    )

same_bytes : (wide : Bool) (edition : ℕ) (s : List ℕ) → Bytes s → size_by wide ≤ length s → bytes_by wide (record_by wide edition s 0) ≡ take (size_by wide) s
unfolding record_by bytes_by
same_bytes true edition s b h =
    let w0 = four_bytes s b (omega arith) in
    let w1 = word_same s b 4 (omega arith) in
    let w2 = word_same s b 8 (omega arith) in
    let w3 = word_same s b 12 (omega arith) in
    let w4 = word_same s b 16 (omega arith) in
    let w5 = word_same s b 20 (omega arith) in
    let w6 = word_same s b 24 (omega arith) in
    let w7 = word_same s b 28 (omega arith) in
    let w8 = coordinates_same 24 s 32 b h in
    (λ i. w0 i ++ w1 i ++ (w2 i ++ w3 i ++ w4 i ++ w5 i ++ w6 i ++ w7 i) ++ w8 i)
    ∙ wide_parts s
same_bytes false edition s b h =
    let w0 = four_bytes s b (omega arith) in
    let w1 = word_same s b 4 (omega arith) in
    let w2 = word_same s b 8 (omega arith) in
    let w3 = word_same s b 12 (omega arith) in
    let w4 = word_same s b 16 (omega arith) in
    let w5 = coordinates_same 24 s 20 b h in
    (λ i. w0 i ++ w1 i ++ (w2 i ++ w3 i ++ w4 i) ++ w5 i) ∙ parts s

bytes_drop : (s : List ℕ) (at : ℕ) → Bytes s → Bytes (drop at s)
bytes_drop s at b i = rw (get_or-drop at s i 0) (b (at + i))

-- ---- the layout of an edition, and what Layout.antt says of it

-- held, and of that edition
abbrev pub HeldIn : ℕ → Record → Type 0
HeldIn edition r = Held (is_wide edition) r × (r.edition ≡ edition)

pub one_byte : (wide : Bool) → size_by wide < 256
one_byte true = omega arith
one_byte false = omega arith

pub front_in : (edition : ℕ) (r : Record) (t : List ℕ) → HeldIn edition r → record_at edition (record_bytes edition r ++ t) 0 ≡ r
front_in edition r t h = ap (λ (e : ℕ). record_by (is_wide edition) e (record_bytes edition r ++ t) 0) (sym h.1) ∙ front (is_wide edition) r t h.0

pub record_bytes_lem : (edition : ℕ) (s : List ℕ) (at : ℕ) → Bytes s → at + record_size edition ≤ length s → record_bytes edition (record_at edition s at) ≡ take (record_size edition) (drop at s)
record_bytes_lem edition s at b room =
    ap (record_bytes edition) (sym (record_drop (is_wide edition) edition s at))
    ∙ same_bytes (is_wide edition) edition (drop at s) (bytes_drop s at b) (simp length-drop (omega arith))

pub read_in : (edition : ℕ) (s : List ℕ) (at : ℕ) → Bytes s → HeldIn edition (record_at edition s at)
unfolding record_by
read_in edition s at b = (read_held (is_wide edition) edition s at b, refl)

abbrev pub layout : (edition : ℕ) → Layout (query_form edition) Record
layout edition =
    record {
      bytes = record_bytes edition;
      read = record_at edition;
      Held = HeldIn edition;
      four_long = refl;
      small = one_byte (is_wide edition);
      long = λ r h. length_record (is_wide edition) r h.0;
      read_drop = record_drop (is_wide edition) edition;
      front = front_in edition;
      same = record_bytes_lem edition;
      read_held = read_in edition;
    }

-- a record is written as one of the edition that the writer is told
pub read_back : (edition : ℕ) (s : List ℕ) (at : ℕ) (r : Record) → Held (is_wide edition) r → at + record_size edition ≤ length s
    → record_at edition (put s at (record_bytes edition r)) at ≡ in_edition edition r
read_back edition s at r h room =
    ap (λ (l : List ℕ). record_at edition (put s at l) at) (sym (same_as (is_wide edition) edition r))
    ∙ each.read_back (layout edition) s at (in_edition edition r) (as_one edition h, refl) room

-- the buffer that a writer leaves when it is done: what it does not refuse is such a record
pub written_back : (edition : ℕ) (s : List ℕ) (at : ℕ) (r : Record) → r.id < 4294967296 → length r.points ≡ 24 → write_refusal edition s at r ≡ 0
    → record_at edition (put_unless (write_refusal edition s at r) s at (record_bytes edition r)) at ≡ in_edition edition r
unfolding put_unless
written_back edition s at r i n e =
    let w = write_room edition s at r e in
    let h = held (is_wide edition) (in_edition edition r) w.accepted (narrow r w) i n in
    rw e (ap (λ (l : List ℕ). record_at edition (put s at l) at) (sym (same_as (is_wide edition) edition r)) ∙ read_back edition s at (in_edition edition r) h w.room)

pub same_record : (edition : ℕ) (r r' : Record) → Held (is_wide edition) r → Held (is_wide edition) r' → record_bytes edition r ≡ record_bytes edition r' → in_edition edition r ≡ in_edition edition r'
same_record edition r r' h h' e =
    each.same_record (layout edition) (in_edition edition r) (in_edition edition r') (as_one edition h, refl) (as_one edition h', refl)
    (same_as (is_wide edition) edition r ∙ e ∙ sym (same_as (is_wide edition) edition r'))

pub write_back : (edition : ℕ) (s : List ℕ) (at : ℕ) → Bytes s → at + record_size edition ≤ length s → put s at (record_bytes edition (record_at edition s at)) ≡ s
write_back edition = each.write_back (layout edition)
