-- Document 01, "The query file", and rows 8 to 14 of the table with their orders; every edition of document 02.
-- What an answer file shares with it is said of any form: a mark, an edition and the bytes that one record takes.
use Rattle.std.specs.Prelude.{ℕ, zero, suc, ◌+◌, ◌-◌, ◌*◌, ◌/◌, ◌%◌, ◌≡◌, Bool, true, false, not, cond, ◌&&◌, ◌||◌, List, [], ◌∷◌, ◌++◌, ℤ, pos, negsuc, ◌-ℤ◌, length, get_or, take, drop, replicate, ltb, eqb, Result, Ok, Err}
use Rattle.rules.specs.declared.Record.{Record}
use Rattle.rules.specs.declared.Form.{Form}
use Rattle.rules.specs.declared.Records.{Records}
use Rattle.rules.specs.declared.Fetched.{Fetched}
use Rattle.rules.specs.declared.Refusal.{Refusal}
use Rattle.rules.specs.Refusals.{Case, refusal_in, first, cases_with, record_refusal}

-- ---- numbers as bytes

-- "Little-endian.": the number of 32 bits whose four bytes stand from `at`
unfoldable pub word : List ℕ → ℕ → ℕ
word s at = get_or s at 0 + 256 * get_or s (at + 1) 0 + 65_536 * get_or s (at + 2) 0 + 16_777_216 * get_or s (at + 3) 0

-- the four bytes of such a number
unfoldable pub word_bytes : ℕ → List ℕ
word_bytes n = n % 256 ∷ n / 256 % 256 ∷ n / 65_536 % 256 ∷ n / 16_777_216 % 256 ∷ []

-- "32 bits two's complement": bits from 2^31 on stand for the number less 2^32
unfoldable pub signed : ℕ → ℤ
signed n = cond (ltb n 2_147_483_648) (pos n) (pos n -ℤ pos 4_294_967_296)

-- the bits of a signed number; `negsuc n` is -(n + 1)
unfoldable pub bits : ℤ → ℕ
bits (pos n) = n
bits (negsuc n) = 4_294_967_296 - (n + 1)

-- whether these bytes stand from `at`
unfoldable pub stands : List ℕ → ℕ → List ℕ → Bool
stands s at [] = true
stands s at (b ∷ bs) = eqb (get_or s at 0) b && stands s (at + 1) bs

-- ---- editions

-- "10 now for editions other than 1, 2, 3" (document 02, R-11)
abbrev pub is_edition : ℕ → Bool
is_edition edition = eqb edition 1 || eqb edition 2 || eqb edition 3

-- whether an edition's record is wide, with a separation an axis: "Edition 3 has edition 2's record" (document 02, R-11)
abbrev pub is_wide : ℕ → Bool
is_wide edition = eqb edition 2 || eqb edition 3

-- "records of 116 bytes"; "records of 128 bytes" (document 02, R-4)
abbrev pub size_by : Bool → ℕ
size_by wide = cond wide 128 116

abbrev pub record_size : ℕ → ℕ
record_size edition = size_by (is_wide edition)

-- ---- the record

-- "x, y, z each 32 bits": so many coordinates from `at` on
unfoldable pub coordinates_at : List ℕ → ℕ → ℕ → List ℤ
coordinates_at s at zero = []
coordinates_at s at (suc n) = signed (word s at) ∷ coordinates_at s (at + 4) n

unfoldable pub coordinate_bytes : List ℤ → List ℕ
coordinate_bytes [] = []
coordinate_bytes (c ∷ cs) = word_bytes (bits c) ++ coordinate_bytes cs

-- "kind (byte 0), flags (1), zero (2, 3), id (4), separation (8), tolerance (12), budget (16). From 20: four points at the start, four at the end"; wide:
-- "bytes 0 to 7 as before, three separations at 8, tolerance at 20, budget at 24, a zero word at 28, points at 32";
-- "The word at 28 in edition 2 becomes a cap" (document 02, R-7). "An edition 1 record means three equal separations."
unfoldable pub record_by : Bool → ℕ → List ℕ → ℕ → Record
record_by wide edition s at = record {
  kind = get_or s at 0;
  flags = get_or s (at + 1) 0;
  byte2 = get_or s (at + 2) 0;
  byte3 = get_or s (at + 3) 0;
  id = word s (at + 4);
  dx = word s (at + 8);
  dy = word s (at + cond wide 12 8);
  dz = word s (at + cond wide 16 8);
  tolerance = word s (at + cond wide 20 12);
  budget = word s (at + cond wide 24 16);
  cap = cond wide (word s (at + 28)) 0;
  edition = edition;
  points = coordinates_at s (at + cond wide 32 20) 24;
}

abbrev pub record_at : ℕ → List ℕ → ℕ → Record
record_at edition = record_by (is_wide edition) edition

-- what stands between bytes 0 to 7 and the points
abbrev pub term_bytes : Bool → Record → List ℕ
term_bytes true r = word_bytes r.dx ++ word_bytes r.dy ++ word_bytes r.dz ++ word_bytes r.tolerance ++ word_bytes r.budget ++ word_bytes r.cap
term_bytes false r = word_bytes r.dx ++ word_bytes r.tolerance ++ word_bytes r.budget

unfoldable pub bytes_by : Bool → Record → List ℕ
bytes_by wide r =
    (r.kind ∷ r.flags ∷ r.byte2 ∷ r.byte3 ∷ [])
    ++ word_bytes r.id
    ++ term_bytes wide r
    ++ coordinate_bytes r.points

abbrev pub record_bytes : ℕ → Record → List ℕ
record_bytes edition = bytes_by (is_wide edition)

-- ---- the trailer and the file

-- "the bytes `QEND`, edition", and the edition's record size
abbrev pub query_form : ℕ → Form
query_form edition = record { mark = 81 ∷ 69 ∷ 78 ∷ 68 ∷ []; edition = edition; size = record_size edition }

-- "edition, three zero bytes"
abbrev pub edition_bytes : Form → List ℕ
edition_bytes form = form.edition ∷ 0 ∷ 0 ∷ 0 ∷ []

-- "the bytes `QEND`, edition, three zero bytes, back pointer (distance from trailer to first record) and count"
unfoldable pub trailer_bytes : Form → ℕ → List ℕ
trailer_bytes form count = form.mark ++ edition_bytes form ++ word_bytes (form.size * count) ++ word_bytes count

-- records one behind another, by the bytes of each
unfoldable pub joined : {R : Type 0} → (R → List ℕ) → List R → List ℕ
joined bytes [] = []
joined bytes (r ∷ rs) = bytes r ++ joined bytes rs

-- "Free leading bytes, then records of 116 bytes, then a trailer of 16 bytes ending the file", of a form
unfoldable pub form_bytes : {R : Type 0} → Form → (R → List ℕ) → List ℕ → List R → List ℕ
form_bytes form bytes free rs = free ++ joined bytes rs ++ trailer_bytes form (length rs)

-- so many records from `at` on, by how one is read and the bytes that it takes
unfoldable pub read_from : {R : Type 0} → (List ℕ → ℕ → R) → ℕ → List ℕ → ℕ → ℕ → List R
read_from read size s at zero = []
read_from read size s at (suc n) = read s at ∷ read_from read size s (at + size) n

-- a query file of an edition
abbrev pub file_bytes : ℕ → List ℕ → List Record → List ℕ
file_bytes edition = form_bytes (query_form edition) (record_bytes edition)

-- ---- opening

-- the trailer's place, and what it says: "back pointer and count"
abbrev pub trailer_place : List ℕ → ℕ
trailer_place s = length s - 16

abbrev pub back_pointer : List ℕ → ℕ
back_pointer s = word s (trailer_place s + 8)

abbrev pub record_count : List ℕ → ℕ
record_count s = word s (trailer_place s + 12)

-- the edition that a query file is read by: 2 or 3 where its trailer says so, else 1 (and 10 is given where it says none of the three)
abbrev pub edition_for : ℕ → ℕ
edition_for named = cond (is_wide named) named 1

abbrev pub edition_of : List ℕ → ℕ
edition_of s = edition_for (get_or s (trailer_place s + 4) 0)

abbrev pub file_form : List ℕ → Form
file_form s = query_form (edition_of s)

-- "Opening: 8 to 12." 8 SHORT, 9 MARK, 10 EDITION, 11 COUNT, 12 BACK, each "given exactly when"
abbrev pub open_cases : Form → List ℕ → List Case
open_cases form s =
    record { number = 8; due = ltb (length s) 16 }
    ∷ record { number = 9; due = not (stands s (trailer_place s) form.mark) }
    ∷ record { number = 10; due = not (stands s (trailer_place s + 4) (edition_bytes form)) }
    ∷ record { number = 11; due = ltb 4096 (record_count s) }
    ∷ record { number = 12; due = not (eqb (back_pointer s) (form.size * record_count s)) || ltb (trailer_place s) (back_pointer s) }
    ∷ []

unfoldable pub open_refusal : Form → List ℕ → ℕ
open_refusal form s = first (open_cases form s)

-- so many records of an edition, from a place on
abbrev pub records : ℕ → ℕ → ℕ → Result Records ℕ
records edition place n = Ok (record { edition = edition; first = place; count = n })

-- a refusal's number (0: none), or else where the records stand
unfoldable pub open_unless : ℕ → ℕ → ℕ → ℕ → Result Records ℕ
open_unless zero edition place n = records edition place n
open_unless (suc k) edition place n = Err (suc k)

unfoldable pub opened : Form → List ℕ → Result Records ℕ
opened form s = open_unless (open_refusal form s) form.edition (trailer_place s - back_pointer s) (record_count s)

-- ---- fetching record n

-- where it stands in a file of a form that opens
abbrev pub place_in : Form → List ℕ → ℕ → ℕ
place_in form s n = trailer_place s - back_pointer s + form.size * n

abbrev pub place_of : List ℕ → ℕ → ℕ
place_of s = place_in (file_form s) s

-- 13 INDEX, "record number not below the count"
abbrev pub index : List ℕ → ℕ → Case
index s n = record { number = 13; due = not (ltb n (record_count s)) }

-- 8 to 12, then 13
unfoldable pub reach_refusal : Form → List ℕ → ℕ → ℕ
reach_refusal form s n = first (open_cases form s ++ (index s n ∷ []))

-- what stands beside the number where there is no record
abbrev pub no_record : Record
no_record = record {
  kind = 0;
  flags = 0;
  byte2 = 0;
  byte3 = 0;
  id = 0;
  dx = 0;
  dy = 0;
  dz = 0;
  tolerance = 0;
  budget = 0;
  cap = 0;
  edition = 1;
  points = replicate 24 (pos 0);
}

-- "Fetching record n: 8 to 13, then 1 to 6.", and 22 behind 6 (document 02, R-7). A record that is there is given beside its own refusal
unfoldable pub fetch_unless : ℕ → Record → Fetched
fetch_unless zero r = record { refusal = record_refusal r; query = r }
fetch_unless (suc k) r = record { refusal = suc k; query = no_record }

unfoldable pub fetched : List ℕ → ℕ → Fetched
fetched s n = fetch_unless (reach_refusal (file_form s) s n) (record_at (edition_of s) s (place_of s n))

-- ---- writing

-- the list with these numbers from `at` on in place of what stood there
unfoldable pub put : {A : Type 0} → List A → ℕ → List A → List A
put s at bytes = take at s ++ bytes ++ drop (at + length bytes) s

-- 10 EDITION for a writer, which is told the edition
abbrev pub no_edition : ℕ → Case
no_edition edition = record { number = 10; due = not (is_edition edition) }

-- 14 SPACE: "fewer than 116 (or 16) bytes stand from that place to the buffer's end, a place past the end included"
abbrev pub space : List ℕ → ℕ → ℕ → Case
space s at n = record { number = 14; due = ltb (length s - at) n }

-- an edition 1 record has one separation: room for three only where they are equal
abbrev pub has_room : ℕ → Record → Bool
has_room edition r = not (eqb edition 1) || eqb r.dx r.dy && eqb r.dx r.dz

-- a record as one of an edition: a writer is told the edition, whose ranges then are the record's
abbrev pub in_edition : ℕ → Record → Record
in_edition edition r = record {
  kind = r.kind;
  flags = r.flags;
  byte2 = r.byte2;
  byte3 = r.byte3;
  id = r.id;
  dx = r.dx;
  dy = r.dy;
  dz = r.dz;
  tolerance = r.tolerance;
  budget = r.budget;
  cap = r.cap;
  edition = edition;
  points = r.points;
}

-- and it has no cap: room for none but 0 (document 02, R-7)
abbrev pub has_cap_room : ℕ → Record → Bool
has_cap_room edition r = not (eqb edition 1) || eqb r.cap 0

-- "Writing a record: 1 to 6, then 14.", with 22 (document 02, R-7) and 10 between them: the edition's size must be known before 14
unfoldable pub write_refusal : ℕ → List ℕ → ℕ → Record → ℕ
write_refusal edition s at r = first (cases_with (has_room edition r) (has_cap_room edition r) (in_edition edition r) ++ (no_edition edition ∷ space s at (record_size edition) ∷ []))

-- "Writing a trailer behind records: 11, then 12 (fewer bytes before it than 116 times the count), then 14." The bytes before it are the
-- place itself, also where that lies past the end
abbrev pub trailer_cases : Form → List ℕ → ℕ → ℕ → List Case
trailer_cases form s at n =
    record { number = 11; due = ltb 4096 n } ∷ record { number = 12; due = ltb at (form.size * n) } ∷ space s at 16 ∷ []

unfoldable pub trailer_refusal : Form → List ℕ → ℕ → ℕ → ℕ
trailer_refusal form s at n = first (trailer_cases form s at n)

-- "10 .. before 11 when writing a trailer" (document 02, R-4)
unfoldable pub query_trailer_refusal : ℕ → List ℕ → ℕ → ℕ → ℕ
query_trailer_refusal edition s at n = first (no_edition edition ∷ trailer_cases (query_form edition) s at n)

-- "A refused write changes no byte; a done one changes only the 116 or 16 bytes written."
unfoldable pub put_unless : {A : Type 0} → ℕ → List A → ℕ → List A → List A
put_unless zero s at bytes = put s at bytes
put_unless (suc k) s at bytes = s

-- what a writer answers and leaves, by its refusal
pub record Written (refusal : ℕ) (before : List ℕ) (at : ℕ) (bytes after : List ℕ) (answer : Result (Unit {0}) Refusal) : Type 0 where
  pub says : refusal_in answer ≡ refusal
  pub leaves : after ≡ put_unless refusal before at bytes
