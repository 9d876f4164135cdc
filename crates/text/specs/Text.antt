-- Document 01, the end of "Berth examples": what `sweep` prints, byte by byte.
use Rattle.std.specs.Prelude.{ℕ, zero, suc, ◌+◌, ◌/◌, ◌%◌, cond, List, [], ◌∷◌, ◌++◌, ltb, leb, eqb, length, get_or, drop}
use Prim.Native.String.{String}
use Prim.Native.Char.{code}
use Rattle.rules.specs.declared.Told.{Told}
use Rattle.text.specs.declared.Row.{Row}

-- the bytes of a text, in ASCII
abbrev pub ascii : String → List ℕ
ascii String.[] = []
ascii (String.◌∷◌ c s) = code c ∷ ascii s

-- a number's decimal digits, the highest first, with no zero in front; the first argument only bounds how many are looked for
unfoldable pub digits : ℕ → ℕ → List ℕ
digits zero n = []
digits (suc most) n =
    let longer = digits most (n / 10) ++ ((48 + n % 10) ∷ []) in
    cond (ltb n 10) ((48 + n) ∷ []) longer

-- a number in decimal, "0" for 0
unfoldable pub decimal : ℕ → List ℕ
decimal n = digits (suc n) n

-- a number behind a space
unfoldable pub field : ℕ → List ℕ
field n = ascii " " ++ decimal n

-- "0 for a refused record, 1 MET, 2 CLEAR, 3 SPENT, 4 ROOM, 5 FLOOR" (document 02, R-1)
abbrev pub names : List String
names = "REFUSED" ∷ "MET" ∷ "CLEAR" ∷ "SPENT" ∷ "ROOM" ∷ "FLOOR" ∷ []

-- the word that a number stands for: any above 5 is no answer's, and is told as a refusal
unfoldable pub kind_of : ℕ → ℕ
kind_of word = cond (leb word 5) word 0

-- a word's name behind a space
unfoldable pub named : ℕ → List ℕ
named word = ascii " " ++ ascii (get_or names (kind_of word) "REFUSED")

-- "t, u, v, excess, count (zeros for the four middle numbers of CLEAR)"; "for a refused record: .. number"
unfoldable pub values : Told → List ℕ
values a =
    cond (eqb (kind_of a.word) 0)
    (field a.number)
    (field a.t ++ field a.u ++ field a.v ++ field a.excess ++ field a.count)

-- "a line a record: id, word, t, u, v, excess, count", "for a refused record: id, REFUSED, number"
unfoldable pub line : Row → List ℕ
line r = decimal r.id ++ named r.answer.word ++ values r.answer ++ ascii "\n"

unfoldable pub lines : List Row → List ℕ
lines [] = []
lines (r ∷ rs) = line r ++ lines rs

-- "the six tallies are counted from the answers": how many have a word
unfoldable pub tally : ℕ → List Row → ℕ
tally word [] = 0
tally word (r ∷ rs) = cond (eqb (kind_of r.answer.word) word) 1 0 + tally word rs

-- a word's name with its tally
unfoldable pub tallied : ℕ → List Row → List ℕ
tallied word rs = named word ++ field (tally word rs)

-- the six tallies in the order of the example
unfoldable pub tallies : List Row → List ℕ
tallies rs = tallied 1 rs ++ tallied 2 rs ++ tallied 3 rs ++ tallied 4 rs ++ tallied 5 rs ++ tallied 0 rs

-- "After TOTAL stands the number of records", then the tallies
unfoldable pub total : List Row → List ℕ
total rs = ascii "TOTAL" ++ field (length rs) ++ tallies rs ++ ascii "\n"

-- "a line a record .. Then one TOTAL line."
unfoldable pub file_text : List Row → List ℕ
file_text rs = lines rs ++ total rs

-- "A refused file prints only `FILE` and the number."
unfoldable pub refused_text : ℕ → List ℕ
refused_text number = ascii "FILE" ++ field number ++ ascii "\n"

-- the first answer in a list that has eight numbers a record: id, word, t, u, v, excess, count, refusal number
unfoldable pub row_of : List ℕ → Row
row_of s = record {
  id = get_or s 0 0;
  answer = record { word = get_or s 1 0; t = get_or s 2 0; u = get_or s 3 0; v = get_or s 4 0; excess = get_or s 5 0; count = get_or s 6 0; number = get_or s 7 0 };
}

-- the first so many answers
unfoldable pub rows : ℕ → List ℕ → List Row
rows zero s = []
rows (suc n) s = row_of s ∷ rows n (drop 8 s)
