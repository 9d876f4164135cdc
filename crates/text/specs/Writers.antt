-- What the writers promise: the answer, and every byte of the buffer that they are lent.
use Rattle.std.specs.Prelude.{ℕ, ◌+◌, ◌*◌, ◌≤◌, ◌≡◌, Bool, true, false, ◌&&◌, List, Option, Some, None, leb, length}
use Rattle.rules.specs.QueryFile.{put}

-- `vs`, at most `most` bytes, now stands from `at` on, no other byte has changed, and `next` is the place behind it
pub record Wrote (most : ℕ) (before : List ℕ) (at : ℕ) (vs after : List ℕ) (next : ℕ) : Type 0 where
  pub bytes : after ≡ put before at vs
  pub behind : next ≡ at + length vs
  pub few : next ≤ at + most

-- a text that is written where there is room: how many bytes, and the buffer afterwards
unfoldable pub written_if : Bool → List ℕ → Option ℕ
written_if true text = Some (length text)
written_if false text = None

unfoldable pub buffer_if : Bool → List ℕ → List ℕ → List ℕ
buffer_if true text buffer = put buffer 0 text
buffer_if false text buffer = buffer

-- what a whole text's writer promises
pub record Printed (room : Bool) (text before after : List ℕ) (answer : Option ℕ) : Type 0 where
  pub said : answer ≡ written_if room text
  pub bytes : after ≡ buffer_if room text before

-- there are eight numbers for each of n records, and the buffer has 80 bytes a line and 160 for TOTAL
unfoldable pub room_for : ℕ → List ℕ → List ℕ → Bool
room_for n told buffer = leb (8 * n) (length told) && leb (80 * n + 160) (length buffer)

-- 16 bytes hold `FILE` and any number of 32 bits
unfoldable pub room_for_refusal : List ℕ → Bool
room_for_refusal buffer = leb 16 (length buffer)
