-- One record of the walk: what it asks and what it leaves, by how an answer is told and how many numbers or bytes that takes.
use Rattle.std.specs.Prelude.{ℕ, ◌+◌, ◌≤◌, ◌≡◌, Bool, true, false, List, length}
use Rattle.rules.specs.declared.Told.{Told}
use Rattle.rules.specs.declared.Answer.{Answer}
use Rattle.rules.specs.declared.Answer.TheVariants.{Met, Clear, Spent, Room, Floor, Refused}
use Rattle.rules.specs.Answers.{queue_after}
use Rattle.rules.specs.Search.{search}
use Rattle.rules.specs.QueryFile.{record_size, record_at, put}
use Rattle.search.specs.Levels.{Clean}
use Rattle.answers.specs.Walk.{tells_by}

abbrev pub is_answered : Answer → Bool
is_answered (Met t u v excess count) = true
is_answered (Clear count) = true
is_answered (Spent t u v excess count) = true
is_answered (Room t u v excess count) = true
is_answered (Floor t u v excess count) = true
is_answered (Refused number) = false

pub record Answering (size edition : ℕ) (s : List ℕ) (at : ℕ) (queue : List ℕ) (clean : Bool) (out : List ℕ) (to : ℕ) : Type 0 where
  pub there : at + record_size edition ≤ length s
  pub room : to + size ≤ length out
  pub zero : Clean clean queue

pub record Answered (by : ℕ → Told → List ℕ) (edition : ℕ) (s : List ℕ) (at : ℕ) (queue queue' : List ℕ) (clean : Bool) (out : List ℕ) (to : ℕ) (out' : List ℕ) (clean' : Bool) : Type 0 where
  pub told : out' ≡ put out to (tells_by by (record_at edition s at) (length queue))
  pub left : queue' ≡ queue_after (search (record_at edition s at) (length queue)) queue
  pub zero : Clean clean' queue'
