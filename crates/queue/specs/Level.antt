-- A level as the first words of the queue, and how the next one grows from it.
use Rattle.std.specs.Prelude.{◌≡◌, Bool, true, false, ◌⊎◌, List, map, ℕ, ◌+◌, ◌-◌, ◌*◌, ◌/◌, ◌^◌, ◌≤◌, ◌<◌, min, length, get_or, take, drop, Option, Some, None}
use Rattle.rules.specs.declared.Parameter.{Parameter}
use Rattle.rules.specs.Search.{Query, Box, Depths, stored, low_half, high_half, inside, those, merge, halves}
use Rattle.kernel.specs.declared.Pair.{Pair}
use Rattle.kernel.specs.Kernel.{asked}
use Rattle.kernel.specs.Ranges.{Shallow, InGrid}
use Rattle.boxes.specs.Boxes.{box_of, half_of, index_bits, index_one}
use Rattle.queue.specs.declared.Halving.{Halving}
use Rattle.queue.specs.declared.Half.{Half}
use Rattle.queue.specs.declared.Taken.{Taken}
use Rattle.queue.specs.All.{All}
use Rattle.queue.specs.Ascending.{Ascending}

-- the word is that of a box of the level of depths k
pub record OfLevel (k : Depths) (w : ℕ) : Type 0 where
  pub grid : InGrid k (box_of w)
  pub fits : w < 2 ^ 60

-- both halves of the box are boxes of the level of depths k
pub record Splits (k : Depths) (p : Parameter) (w : ℕ) : Type 0 where
  pub fits : w < 2 ^ 60
  pub halves : (high : Bool) → InGrid k (half_of p high (box_of w))

-- ---- how a level's boxes are halved

-- the least word of a t index whose low t is beyond the last moment
abbrev pub bound_of : ℕ → Depths → ℕ
bound_of last k = (last / 2 ^ (20 - k.t) + 1) * 2 ^ 40

abbrev pub halving_of : ℕ → Depths → Parameter → Halving
halving_of last k p = record { split = p; bits = index_bits p; one = index_one p; bound = bound_of last k }

-- ---- a half at its place

abbrev pub half_at : Parameter → Bool → List ℕ → ℕ → Box
half_at p high words i = half_of p high (box_of (get_or words i 0))

-- the first n words can be halved so
pub record Halvable (c : Halving) (queue : List ℕ) (n : ℕ) : Type 0 where
  pub bits : c.bits ≡ index_bits c.split
  pub one : c.one ≡ index_one c.split
  pub fits : n ≤ length queue
  pub words : All (λ w. w < 2 ^ 60) (take n queue)

-- greater than the word of any box, and than any bound
abbrev pub past : ℕ
past = 18_446_744_073_709_551_615

-- of n halves the one at its place, or none
pub record HalfIs (half : ℕ → Box) (n : ℕ) (r : Half) : Type 0 where
  pub at_le : r.at ≤ n
  pub word : r.at < n → r.word ≡ stored (half r.at)
  pub none : r.at ≡ n → r.word ≡ past

-- ---- a step of the merge

-- the halves that stay, from the ith low and the jth high one on, as one ascending list
abbrev pub halves_from : Query → Depths → Parameter → List ℕ → ℕ → ℕ → List Box
halves_from q k p words i j =
    merge (those (inside q k) (map (low_half p) (map box_of (drop i words)))) (those (inside q k) (map (high_half p) (map box_of (drop j words))))

pub record Takes (c : Halving) (queue : List ℕ) (n : ℕ) (low high : Half) : Type 0 where
  pub halvable : Halvable c queue n
  pub low_is : HalfIs (half_at c.split false (take n queue)) n low
  pub high_is : HalfIs (half_at c.split true (take n queue)) n high
  pub some : min low.word high.word < past

-- one of the two is taken, the next of its list is at hand, and the other one waits
pub record Took (half : ℕ → Box) (n : ℕ) (one other next rest : Half) : Type 0 where
  pub here : one.at < n
  pub one_more : next.at ≡ one.at + 1
  pub next_is : HalfIs half n next
  pub waits : rest ≡ other

-- the one with the lesser word, the low one of two equal words
abbrev pub TakenIs : Parameter → List ℕ → ℕ → Half → Half → Taken → Type 0
TakenIs split words n low high r =
    ((low.word ≤ high.word) × Took (half_at split false words) n low high r.low r.high)
    ⊎ ((high.word < low.word) × Took (half_at split true words) n high low r.high r.low)

-- ---- the next level

pub record Grows (p : Pair) (k : Depths) (split : Parameter) (queue : List ℕ) (n : ℕ) : Type 0 where
  pub shallow : Shallow 20 k
  pub fits : n ≤ p.room
  pub twice : p.room + p.room ≤ length queue
  pub last : p.last ≤ 1_048_576
  pub splits : All (Splits k split) (take n queue)
  pub ascends : Ascending (take n queue)

-- the m boxes from h on are those of the list, and the words beyond are as they were
pub record Placed (h m : ℕ) (k : Depths) (boxes : List Box) (old new : List ℕ) : Type 0 where
  pub fits : m ≤ h
  pub placed : map box_of (take m (drop h new)) ≡ boxes
  pub grid : All (OfLevel k) (take m (drop h new))
  pub ascends : Ascending (take m (drop h new))
  pub beyond : drop (h + m) new ≡ drop (h + m) old

-- more boxes than there is room for, of which the first h are placed, or a level that is placed
abbrev pub NextIs : ℕ → Depths → List Box → List ℕ → List ℕ → Option ℕ → Type 0
NextIs h k boxes old new None = (h < length boxes) × Placed h h k (take h boxes) old new
NextIs h k boxes old new (Some m) = Placed h m k boxes old new

pub record Grown (p : Pair) (k : Depths) (split : Parameter) (n : ℕ) (old new : List ℕ) (r : Option ℕ) : Type 0 where
  pub next : NextIs p.room k (halves (asked p) k split (map box_of (take n old))) old new r
  pub kept : take p.room new ≡ take p.room old
