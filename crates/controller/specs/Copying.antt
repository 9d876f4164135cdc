-- A record of one file written into another buffer, and a trailer of either file: the number that comes back, and every byte.
use Rattle.std.specs.Prelude.{ℕ, List}
use Rattle.rules.specs.QueryFile.{fetched, record_bytes, trailer_bytes, query_form, write_refusal, trailer_refusal, query_trailer_refusal}
use Rattle.rules.specs.AnswerFile.{answer_form}
use Rattle.rules.specs.Refusals.{or_else}
use Rattle.queries.specs.Writing.{Puts}

-- fetching's refusals first, then writing's
unfoldable pub copy_refusal : List ℕ → ℕ → ℕ → List ℕ → ℕ → ℕ
copy_refusal file n edition out at = or_else (fetched file n).refusal (write_refusal edition out at (fetched file n).query)

abbrev pub Copied : List ℕ → ℕ → ℕ → List ℕ → ℕ → List ℕ → ℕ → Type 0
Copied file n edition out at out' number = Puts (copy_refusal file n edition out at) (record_bytes edition (fetched file n).query) out at out' number

abbrev pub Ended : List ℕ → ℕ → ℕ → ℕ → List ℕ → ℕ → Type 0
Ended out at edition count out' number = Puts (query_trailer_refusal edition out at count) (trailer_bytes (query_form edition) count) out at out' number

abbrev pub LogEnded : List ℕ → ℕ → ℕ → List ℕ → ℕ → Type 0
LogEnded out at count out' number = Puts (trailer_refusal answer_form out at count) (trailer_bytes answer_form count) out at out' number
