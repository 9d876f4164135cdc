-- A pair given in numbers, without a file: the record that it is, and that record written.
use Rattle.std.specs.Prelude.{ℕ, cond, List, [], ◌∷◌, eqb, ℤ, take}
use Rattle.rules.specs.declared.Record.{Record}
use Rattle.rules.specs.QueryFile.{record_bytes, write_refusal}
use Rattle.rules.specs.Refusals.{first, or_else}
use Rattle.answers.specs.Pair.{few_points}
use Rattle.queries.specs.Writing.{Puts}

-- the record: its points are the first 24 numbers, four points at the start and four at the end; bytes 2 and 3 are 0, and the cap is the word at 28
abbrev pub record_of : (edition kind flags id dx dy dz tolerance budget cap : ℕ) → List ℤ → Record
record_of edition kind flags id dx dy dz tolerance budget cap points = record {
  kind = kind;
  flags = flags;
  byte2 = 0;
  byte3 = 0;
  id = id;
  dx = dx;
  dy = dy;
  dz = dz;
  tolerance = tolerance;
  budget = budget;
  cap = cap;
  edition = edition;
  points = take 24 points;
}

-- the edition by whose range a pair is searched: 1 and 2 have the shorter one, 3 the longer; three separations are taken in each
abbrev pub range_of : ℕ → ℕ
range_of edition = cond (eqb edition 3) 3 2

-- 14 where points are missing, before anything else; then a record's writer's own
unfoldable pub write_given_refusal : ℕ → List ℤ → List ℕ → ℕ → Record → ℕ
write_given_refusal edition points out at r = or_else (first (few_points points ∷ [])) (write_refusal edition out at r)

abbrev pub Writes : ℕ → List ℤ → Record → List ℕ → ℕ → List ℕ → ℕ → Type 0
Writes edition points r out at out' number = Puts (write_given_refusal edition points out at r) (record_bytes edition r) out at out' number
