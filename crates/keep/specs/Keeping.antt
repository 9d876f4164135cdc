-- What `keep` writes of a query file: the answer file of its records, each searched with 4,096 words; or the number that `sweep` refuses it with, and no byte.
use Rattle.std.specs.Prelude.{ℕ, zero, suc, ◌≡◌, List, Result, Ok, Err, length}
use Rattle.rules.specs.QueryFile.{put_unless}
use Rattle.page.specs.Page.{sweep_refusal}
use Rattle.shift_log.specs.Calls.{log_bytes}

-- by the refusal's number (0: none) and the bytes
unfoldable pub logged_as : ℕ → ℕ → Result ℕ ℕ
logged_as zero n = Ok n
logged_as (suc k) n = Err (suc k)

pub record Keeps (file out out' : List ℕ) (answer : Result ℕ ℕ) : Type 0 where
  pub says : answer ≡ logged_as (sweep_refusal file) (length (log_bytes file 4_096))
  pub leaves : out' ≡ put_unless (sweep_refusal file) out 0 (log_bytes file 4_096)
