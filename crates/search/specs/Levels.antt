-- The steps of the written search as the code takes them: one box, one level, the next. A level's boxes are the first words of the queue.
use Rattle.std.specs.Prelude.{◌≡◌, Bool, true, false, List, map, ℕ, ◌+◌, ◌/◌, ◌≤◌, ◌<◌, length, get_or, take, replicate}
use Rattle.std.specs.declared.ops.ControlFlow.{ControlFlow}
use Rattle.std.specs.declared.ops.ControlFlow.TheVariants.{Break, Continue}
use Rattle.rules.specs.declared.Record.{Record}
use Rattle.rules.specs.declared.Corner.{Corner}
use Rattle.rules.specs.declared.Answer.{Answer}
use Rattle.rules.specs.declared.Answer.TheVariants.{Met, Clear, Spent, Room, Floor, Refused}
use Rattle.rules.specs.declared.Parameter.{Parameter}
use Rattle.rules.specs.declared.Parameter.TheVariants.{InT, InU, InV}
use Rattle.rules.specs.Refusals.{search_refusal}
use Rattle.rules.specs.Search.{Query, Box, Depths, Checked, answered, through, keep, near, full, corner, first_survivor, check, after_level}
use Rattle.kernel.specs.declared.Pair.{Pair}
use Rattle.kernel.specs.Kernel.{asked}
use Rattle.kernel.specs.Ranges.{Ranged, Shallow, InGrid}
use Rattle.boxes.specs.Boxes.{box_of}
use Rattle.queue.specs.All.{All}
use Rattle.queue.specs.Ascending.{Ascending}
use Rattle.queue.specs.Level.{OfLevel}
use Rattle.search.specs.declared.Level.{Level}

-- no refusal: the search itself refuses nothing
abbrev pub Answers : Answer → Type 0
Answers (Met t u v excess count) = Unit
Answers (Clear count) = Unit
Answers (Spent t u v excess count) = Unit
Answers (Room t u v excess count) = Unit
Answers (Floor t u v excess count) = Unit
Answers (Refused number) = ⊥

-- the search ends with an answer, or goes on with what was found
abbrev pub Step : Type 0 → Type 0
Step T = ControlFlow Answer T

-- ---- one box

pub record OneBox (p : Pair) (k : Depths) (box : Box) : Type 0 where
  pub ranged : Ranged p
  pub shallow : Shallow p.deepest k
  pub grid : InGrid k box

-- the rest of a level's check after its first survivor; `on` goes on with the boxes after it
abbrev pub after_first : Box → Step Corner → (Corner → Checked) → Checked
after_first box (Break a) on = answered a
after_first box (Continue c) on = keep box (on c)

-- where a first survivor goes on, the depths are not full
abbrev pub NotFull : Query → Depths → Step Corner → Type 0
NotFull q k (Break a) = Answers a
NotFull q k (Continue c) = full q k ≡ false

pub record FirstIs (q : Query) (k : Depths) (box : Box) (n : ℕ) (r : Step Corner) : Type 0 where
  pub says : (on : Corner → Checked) → keep box (first_survivor (near q k box) (full q k) (corner q k box) n on) ≡ after_first box r on
  pub not_full : NotFull q k r

-- of n boxes the first r, and all of them unless the budget ends behind these
pub record Affords (budget count n r : ℕ) : Type 0 where
  pub some : r ≤ n
  pub within : count + r ≤ budget
  pub all : r < n → count + r ≡ budget

-- ---- one level

-- the first words are boxes of the level
pub record Opens (p : Pair) (k : Depths) (queue : List ℕ) (n : ℕ) : Type 0 where
  pub ranged : Ranged p
  pub shallow : Shallow p.deepest k
  pub fits : n ≤ length queue
  pub grid : All (OfLevel k) (take n queue)

abbrev pub boxes : List ℕ → Level → List Box
boxes queue l = map box_of (take l.size queue)

-- the words that no level has used are zero: those from `used` to h, and those from h + `used` on
pub record Tidy (h used : ℕ) (queue : List ℕ) : Type 0 where
  pub low : (a : ℕ) → used ≤ a → a < h → get_or queue a 0 ≡ 0
  pub high : (a : ℕ) → h + used ≤ a → get_or queue a 0 ≡ 0

-- what a level keeps to
pub record Fine (p : Pair) (queue : List ℕ) (l : Level) : Type 0 where
  pub ranged : Ranged p
  pub shallow : Shallow p.deepest l.depths
  pub size : l.size ≤ l.used
  pub used : l.used ≤ p.room
  pub twice : p.room + p.room ≤ length queue
  pub within : l.count ≤ p.budget
  pub grid : All (OfLevel l.depths) (take l.size queue)
  pub ascends : Ascending (take l.size queue)
  pub tidy : Tidy p.room l.used queue

abbrev pub checked_as : List ℕ → Step Level → Checked
checked_as queue (Break a) = answered a
checked_as queue (Continue l) = through l.count l.corner (boxes queue l)

-- the survivors, at the same depths; where there is one the depths are not full
pub record Survivors (p : Pair) (l : Level) (queue : List ℕ) (s : Level) : Type 0 where
  pub fine : Fine p queue s
  pub depths : s.depths ≡ l.depths
  pub used : s.used ≡ l.used
  pub not_full : 0 < s.size → full (asked p) l.depths ≡ false

abbrev pub Left : Pair → Level → List ℕ → Step Level → Type 0
Left p l queue (Break a) = Answers a × Tidy p.room l.used queue
Left p l queue (Continue s) = Survivors p l queue s

pub record CheckIs (p : Pair) (l : Level) (old new : List ℕ) (r : Step Level) : Type 0 where
  pub says : check (asked p) l.depths (boxes old l) false l.corner l.count ≡ checked_as new r
  pub left : Left p l new r

-- ---- the next level

abbrev pub depth_in : Parameter → Depths → ℕ
depth_in InT k = k.t
depth_in InU k = k.u
depth_in InV k = k.v

abbrev pub total : Depths → ℕ
total k = k.t + k.u + k.v

-- how the levels below a level go on
abbrev pub Below : Type 0
Below = Depths → List Box → Corner → ℕ → Answer

abbrev pub go_on : Below → List ℕ → Step Level → Answer
go_on go queue (Break a) = a
go_on go queue (Continue l) = go l.depths (boxes queue l) l.corner l.count

-- one deeper
pub record Deeper (p : Pair) (l : Level) (queue : List ℕ) (next : Level) : Type 0 where
  pub fine : Fine p queue next
  pub total : total next.depths ≡ total l.depths + 1

abbrev pub After : Pair → Level → List ℕ → Step Level → Type 0
After p l queue (Break a) = Answers a × Tidy p.room l.used queue
After p l queue (Continue next) = Deeper p l queue next

pub record Splitting (p : Pair) (queue : List ℕ) (l : Level) : Type 0 where
  pub fine : Fine p queue l
  pub some : 0 < l.size
  pub not_full : full (asked p) l.depths ≡ false

pub record SplitIs (p : Pair) (l : Level) (old new : List ℕ) (r : Step Level) : Type 0 where
  pub says : (go : Below) → after_level (asked p) l.depths go (through l.count l.corner (boxes old l)) ≡ go_on go new r
  pub after : After p l new r

pub record StepIs (p : Pair) (l : Level) (old new : List ℕ) (r : Step Level) : Type 0 where
  pub says : (go : Below) → after_level (asked p) l.depths go (check (asked p) l.depths (boxes old l) false l.corner l.count) ≡ go_on go new r
  pub after : After p l new r

-- ---- the search

-- a queue of zeros, with the room that the pair says
pub record Zeroed (p : Pair) (queue : List ℕ) : Type 0 where
  pub ranged : Ranged p
  pub room : p.room ≡ length queue / 2
  pub zero : queue ≡ replicate (length queue) 0

-- a record that is not refused, and a queue of zeros
pub record Accepted (r : Record) (queue : List ℕ) : Type 0 where
  pub none : search_refusal r (length queue) ≡ 0
  pub zero : queue ≡ replicate (length queue) 0

-- a queue that is said to be clean is zero
abbrev pub Clean : Bool → List ℕ → Type 0
Clean clean queue = clean ≡ true → queue ≡ replicate (length queue) 0
