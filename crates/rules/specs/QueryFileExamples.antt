-- Document 01, "The query file": the berth's first case as the bytes of a file, opened and fetched, and what is refused of it. Each byte is worked out by hand.
use Rattle.std.specs.Prelude.{ℕ, ◌≡◌, refl, List, [], ◌∷◌, ◌++◌, map, drop, take, Result, Err}
use Rattle.rules.specs.declared.Record.{Record}
use Rattle.rules.specs.declared.Records.{Records}
use Rattle.rules.specs.declared.Fetched.{Fetched}
use Rattle.rules.specs.Refusals.{first, every, record_refusal}
use Rattle.rules.specs.Berth.{asked, apartly, p_t}
use Rattle.rules.specs.QueryFile.{word, word_bytes, signed, bits, stands, coordinates_at, coordinate_bytes, record_by, bytes_by, trailer_bytes, joined, file_form, form_bytes, file_bytes, open_refusal, records, open_unless, opened, reach_refusal, no_record, fetch_unless, fetched}

-- ---- the bytes

-- "Little-endian": -1,000, -100, 0, 1, 300, 999 and 1,000
abbrev pub less_1000 : List ℕ
less_1000 = 24 ∷ 252 ∷ 255 ∷ 255 ∷ []

abbrev pub less_100 : List ℕ
less_100 = 156 ∷ 255 ∷ 255 ∷ 255 ∷ []

abbrev pub small : ℕ → List ℕ
small n = n ∷ 0 ∷ 0 ∷ 0 ∷ []

abbrev pub plus_300 : List ℕ
plus_300 = 44 ∷ 1 ∷ 0 ∷ 0 ∷ []

abbrev pub plus_999 : List ℕ
plus_999 = 231 ∷ 3 ∷ 0 ∷ 0 ∷ []

abbrev pub plus_1000 : List ℕ
plus_1000 = 232 ∷ 3 ∷ 0 ∷ 0 ∷ []

-- T, and P falling from z 1,000 to -1,000
abbrev pub t_bytes : List ℕ
t_bytes = (less_100 ++ less_100 ++ small 0) ++ (plus_300 ++ less_100 ++ small 0) ++ (less_100 ++ plus_300 ++ small 0)

abbrev pub points : List ℕ
points = (small 0 ++ small 0 ++ plus_1000) ++ t_bytes ++ (small 0 ++ small 0 ++ less_1000) ++ t_bytes

-- "kind (byte 0), flags (1), zero (2, 3), id (4), separation (8), tolerance (12), budget (16)"
abbrev pub of_kind : ℕ → List ℕ
of_kind kind = small kind ++ small 1 ++ small 0 ++ plus_999 ++ plus_1000 ++ points

-- "three separations at 8, tolerance at 20, budget at 24, a zero word at 28, points at 32" (document 02, R-4): 0, 300 and 1,000
abbrev pub wide : List ℕ
wide = small 1 ++ small 1 ++ (small 0 ++ plus_300 ++ plus_1000) ++ plus_999 ++ plus_1000 ++ small 0 ++ points

-- "the bytes `QEND`, edition, three zero bytes, back pointer and count"
abbrev pub ends : List ℕ → List ℕ → List ℕ → List ℕ
ends edition back count = (81 ∷ 69 ∷ 78 ∷ 68 ∷ []) ++ edition ++ back ++ count

abbrev pub file : List ℕ
file = of_kind 1 ++ ends (small 1) (small 116) (small 1)

-- ---- the rows

-- what opening a file says, and fetching a record of it
pub record Seen : Type 0 where
  pub opens : Result Records ℕ
  pub fetches : Fetched

pub record FileRow : Type 0 where
  pub bytes : List ℕ
  pub number : ℕ
  pub seen : Seen

-- opened to so many records of an edition from a place on, and record n fetched, beside its own refusal
abbrev pub found : List ℕ → ℕ → Result Records ℕ → ℕ → Record → FileRow
found bytes n opens refusal r = record { bytes = bytes; number = n; seen = record { opens = opens; fetches = record { refusal = refusal; query = r } } }

-- refused, whatever record is asked for
abbrev pub refused : List ℕ → ℕ → FileRow
refused bytes n = found bytes 0 (Err n) n no_record

abbrev pub first_case : Record
first_case = asked 1 0 0 999 1000 p_t

abbrev pub file_rows : List FileRow
file_rows =
    -- the file; and behind three free bytes
    found file 0 (records 1 0 1) 0 first_case
    ∷ found ((7 ∷ 7 ∷ 7 ∷ []) ++ file) 0 (records 1 3 1) 0 first_case
    -- edition 2: three separations
    ∷ found (wide ++ ends (small 2) (small 128) (small 1)) 0 (records 2 0 1) 0 (apartly 1 0 300 1000 999 0 p_t)
    -- a record that is refused is given beside its number: kind 3
    ∷ found (of_kind 3 ++ ends (small 1) (small 116) (small 1)) 0 (records 1 0 1) 1 (asked 3 0 0 999 1000 p_t)
    -- "record number not below the count"; "A count of 0 has pointer 0", and all before it is free
    ∷ found file 1 (records 1 0 1) 13 no_record
    ∷ found (of_kind 1 ++ ends (small 1) (small 0) (small 0)) 0 (records 1 116 0) 13 no_record
    -- "file under 16 bytes": none, and 15; 16 are a file of no record
    ∷ refused [] 8
    ∷ refused (drop 117 file) 8
    ∷ found (ends (small 1) (small 0) (small 0)) 0 (records 1 0 0) 13 no_record
    -- "trailer mark wrong": QENE; and the last byte lost
    ∷ refused (of_kind 1 ++ (81 ∷ 69 ∷ 78 ∷ 69 ∷ []) ++ small 1 ++ small 116 ++ small 1) 9
    ∷ refused (take 131 file) 9
    -- "editions other than 1, 2, 3" (document 02, R-11), "or bytes 5 to 7 not zero"
    ∷ refused (of_kind 1 ++ ends (small 0) (small 116) (small 1)) 10
    ∷ refused (of_kind 1 ++ ends (small 4) (small 116) (small 1)) 10
    ∷ refused (of_kind 1 ++ ends (1 ∷ 1 ∷ 0 ∷ 0 ∷ []) (small 116) (small 1)) 10
    ∷ refused (of_kind 1 ++ ends (1 ∷ 0 ∷ 1 ∷ 0 ∷ []) (small 116) (small 1)) 10
    ∷ refused (of_kind 1 ++ ends (1 ∷ 0 ∷ 0 ∷ 1 ∷ []) (small 116) (small 1)) 10
    -- "more than 4,096 records": 4,097, with the pointer that goes with it, 475,252; 4,096 have too few bytes before them
    ∷ refused (of_kind 1 ++ ends (small 1) (116 ∷ 64 ∷ 7 ∷ 0 ∷ []) (1 ∷ 16 ∷ 0 ∷ 0 ∷ [])) 11
    ∷ refused (of_kind 1 ++ ends (small 1) (0 ∷ 64 ∷ 7 ∷ 0 ∷ []) (0 ∷ 16 ∷ 0 ∷ 0 ∷ [])) 12
    -- "back pointer not 116 times the count": one less; edition 2's size in edition 1
    ∷ refused (of_kind 1 ++ ends (small 1) (small 115) (small 1)) 12
    ∷ refused (wide ++ ends (small 1) (small 128) (small 1)) 12
    -- "or larger than the bytes before the trailer": the first byte lost; one record where two are said
    ∷ refused (drop 1 file) 12
    ∷ refused (of_kind 1 ++ ends (small 1) (small 232) (small 2)) 12
    -- the lowest number of several
    ∷ refused (of_kind 1 ++ (81 ∷ 69 ∷ 78 ∷ 69 ∷ []) ++ small 4 ++ small 115 ++ (1 ∷ 16 ∷ 0 ∷ 0 ∷ [])) 9
    ∷ refused (of_kind 1 ++ ends (small 4) (small 115) (1 ∷ 16 ∷ 0 ∷ 0 ∷ [])) 10
    ∷ refused (of_kind 1 ++ ends (small 1) (small 115) (1 ∷ 16 ∷ 0 ∷ 0 ∷ [])) 11
    ∷ []

pub files : map (λ (r : FileRow). record { opens = opened (file_form r.bytes) r.bytes; fetches = fetched r.bytes r.number }) file_rows ≡ map (λ (r : FileRow). r.seen) file_rows
unfolding opened open_unless open_refusal fetched fetch_unless reach_refusal record_by coordinates_at word signed stands first every record_refusal
files = refl

-- and the first case written is the file
pub file_written : file_bytes 1 [] (first_case ∷ []) ≡ file
unfolding form_bytes joined trailer_bytes bytes_by coordinate_bytes word_bytes bits
file_written = refl
