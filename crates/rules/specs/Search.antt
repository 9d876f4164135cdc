-- Document 01, "The search". Its values are F times parts·parts, at corners counted in parts.
use Rattle.std.specs.Prelude.{ℕ, zero, suc, ◌+◌, ◌*◌, ◌-◌, ◌/◌, ◌^◌, max, Bool, true, false, not, cond, ◌&&◌, ◌||◌, List, [], ◌∷◌, map, ℤ, pos, neg_ℤ, nat_abs, ◌-ℤ◌, length, leb, ltb, eqb}
use Rattle.std.specs.Int.Signed.{le_z}
use Rattle.rules.specs.declared.Record.{Record}
use Rattle.rules.specs.declared.Three.{Three}
use Rattle.rules.specs.declared.Parameter.{Parameter}
use Rattle.rules.specs.declared.Parameter.TheVariants.{InT, InU, InV}
use Rattle.rules.specs.declared.Corner.{Corner}
use Rattle.rules.specs.declared.Answer.{Answer}
use Rattle.rules.specs.declared.Answer.TheVariants.{Met, Clear, Spent, Room, Floor, Refused}
use Rattle.rules.specs.Numbers.{limits_of, parts, half, last_moment}
use Rattle.rules.specs.declared.Axis.{Axis}
use Rattle.rules.specs.declared.Axis.TheVariants.{X, Y, Z}
use Rattle.rules.specs.Gap.{gap_on, sided, is_vertex_face, separation_on}
use Rattle.rules.specs.Refusals.{search_refusal}

-- ---- what is searched

-- what the search goes by. `gap axis q a b c` is F on the axis, times q·q, at t = a/q, u = b/q, v = c/q; `room` is H; `last` is the last moment, in parts
pub record Query : Type 0 where
  pub gap : Axis → ℕ → ℕ → ℕ → ℕ → ℤ
  pub is_face : Bool
  pub separation : Axis → ℕ
  pub tolerance : ℕ
  pub budget : ℕ
  pub room : ℕ
  pub deepest : ℕ
  pub last : ℕ

-- "An answer depends on the record and the number of words": what a record with so many words asks
abbrev pub query : Record → ℕ → Query
query r words =
    record {
      gap = gap_on (is_vertex_face r) (sided r);
      is_face = is_vertex_face r;
      separation = separation_on r;
      tolerance = r.tolerance;
      budget = r.budget;
      room = half words;
      deepest = (limits_of r.edition).deepest;
      last = last_moment r.cap;
    }

-- ---- boxes

-- a box by its t, u, v index
abbrev pub Box : Type 0
Box = Three

-- "At a level all boxes have the same depths (kt, ku, kv)"
abbrev pub Depths : Type 0
Depths = Three

-- "a box is a closed grid cell": a cell's side at a depth, and the low and high end at an index, in parts
abbrev pub side : ℕ → ℕ
side k = 2 ^ (20 - k)

abbrev pub low : ℕ → ℕ → ℕ
low k i = i * side k

abbrev pub high : ℕ → ℕ → ℕ
high k i = (i + 1) * side k

-- a whole unit of F times parts·parts
abbrev pub unit : ℕ
unit = parts * parts

-- "the box's F is worked out at its eight corners": `pick`, the least or the greatest, over the two ends of each parameter
abbrev pub ends : (ℤ → ℤ → ℤ) → ℕ → ℕ → (ℕ → ℤ) → ℤ
ends pick k i f = pick (f (low k i)) (f (high k i))

unfoldable pub over_corners : (ℤ → ℤ → ℤ) → Query → Depths → Box → Axis → ℤ
over_corners pick q k box axis =
    ends pick k.t box.t (λ a. ends pick k.u box.u (λ b. ends pick k.v box.v (λ c. q.gap axis parts a b c)))

-- the least and the greatest of two, as signed numbers
abbrev pub lesser : ℤ → ℤ → ℤ
lesser m n = cond (le_z m n) m n

abbrev pub greater : ℤ → ℤ → ℤ
greater m n = cond (le_z m n) n m

-- "On each axis take the least value m and greatest M."
unfoldable pub least : Query → Depths → Box → Axis → ℤ
least = over_corners lesser

unfoldable pub greatest : Query → Depths → Box → Axis → ℤ
greatest = over_corners greater

-- "on all three axes"
abbrev pub on_all : (Axis → Bool) → Bool
on_all f = f X && f Y && f Z

-- the largest over the three axes
abbrev pub largest : (Axis → ℕ) → ℕ
largest f = max (f X) (max (f Y) (f Z))

-- "The box survives when m is at most d and M at least -d on all three axes." "Survival of a box uses each axis's own" (document 02, R-4)
unfoldable pub survives : Query → Depths → Box → Bool
survives q k box =
    on_all (λ axis. le_z (least q k box axis) (pos (q.separation axis * unit)) && le_z (neg_ℤ (pos (q.separation axis * unit))) (greatest q k box axis))

-- "Its width is the largest M - m."
unfoldable pub width : Query → Depths → Box → ℕ
width q k box = largest (λ axis. nat_abs (greatest q k box axis -ℤ least q k box axis))

-- "rounded up to a whole unit"
abbrev pub round_up : ℕ → ℕ
round_up n = (n + (unit - 1)) / unit

-- "excess is the largest of |F| minus separation over the axes, zero if negative" (document 02, R-4) at that corner, "rounded up to a whole unit"
unfoldable pub excess : Query → Depths → Box → ℕ
excess q k box =
    round_up (largest (λ axis. nat_abs (q.gap axis parts (low k.t box.t) (low k.u box.u) (low k.v box.v)) - q.separation axis * unit))

-- "The first survivor of a level is recorded: its low corner (least t, u, v)"
unfoldable pub corner : Query → Depths → Box → Corner
corner q k box = record { t = low k.t box.t; u = low k.u box.u; v = low k.v box.v; excess = excess q k box }

-- a word with a recorded corner and a count
abbrev pub with_count : (ℕ → ℕ → ℕ → ℕ → ℕ → Answer) → Corner → ℕ → Answer
with_count word c n = word c.t c.u c.v c.excess n

-- "A stored box is one word: t index in bits 40 to 59, u in bits 20 to 39, v in bits 0 to 19."
abbrev pub stored : Box → ℕ
stored box = box.t * 2 ^ 40 + box.u * 2 ^ 20 + box.v

-- ---- a level

-- what checking a level's boxes comes to: an answer, or the count, the recorded corner and the survivors in order
pub data Checked : Type 0 where
  answered : Answer → Checked
  through : ℕ → Corner → List Box → Checked

-- a survivor stays in its level
abbrev pub keep : Box → Checked → Checked
keep box (answered a) = answered a
keep box (through n c rest) = through n c (box ∷ rest)

-- "At that moment: 1. answer MET; 2. otherwise all three depths 20: answer FLOOR" (19 in edition 3), by whether the first survivor is near and the depths are full;
-- c is its corner, n the count; `on` goes on with the level
unfoldable pub first_survivor : Bool → Bool → Corner → ℕ → (Corner → Checked) → Checked
first_survivor true full c n on = answered (with_count Met c n)
first_survivor false true c n on = answered (with_count Floor c n)
first_survivor false false c n on = on c

-- "excess 0, or width at most the tolerance"
unfoldable pub near : Query → Depths → Box → Bool
near q k box = eqb (excess q k box) 0 || leb (width q k box) (q.tolerance * unit)

-- "all three depths 20"
abbrev pub full : Query → Depths → Bool
full q k = eqb k.t q.deepest && eqb k.u q.deepest && eqb k.v q.deepest

-- "Before each check: if the count equals the budget, answer SPENT with the recorded corner. Otherwise the count rises by one": one box, by whether
-- the count n equals the budget, the box survives, and the level has had a survivor; c is the recorded corner; `on` goes on with the boxes after it
unfoldable pub one_box : Query → Depths → Box → Bool → Bool → Bool → Corner → ℕ → (Bool → Corner → Checked) → Checked
one_box q k box true alive seen c n on = answered (with_count Spent c n)
one_box q k box false false seen c n on = on seen c
one_box q k box false true true c n on = keep box (on true c)
one_box q k box false true false c n on = keep box (first_survivor (near q k box) (full q k) (corner q k box) (n + 1) (on true))

-- "Boxes are checked in ascending order": a level's list, from first to last
unfoldable pub check : Query → Depths → List Box → Bool → Corner → ℕ → Checked
check q k [] seen c n = through n c []
check q k (box ∷ rest) seen c n =
    one_box q k box (eqb n q.budget) (survives q k box) seen c n (λ s d. check q k rest s d (n + 1))

-- ---- the next level

-- "over the four ways to set the other two parameters to 0 or 1"
abbrev pub four_ways : (ℕ → ℕ → ℕ) → ℕ
four_ways f = max (max (f 0 0) (f 0 1)) (max (f 1 0) (f 1 1))

-- "the largest axis difference of F between its ends 0 and 1" (equation 7 without the factor 3)
unfoldable pub spread : Query → Parameter → ℕ
spread q InT = four_ways (λ b c. largest (λ axis. nat_abs (q.gap axis 1 1 b c -ℤ q.gap axis 1 0 b c)))
spread q InU = four_ways (λ a c. largest (λ axis. nat_abs (q.gap axis 1 a 1 c -ℤ q.gap axis 1 a 0 c)))
spread q InV = four_ways (λ a b. largest (λ axis. nat_abs (q.gap axis 1 a b 1 -ℤ q.gap axis 1 a b 0)))

-- "divided by 2 to its present depth": in parts, and one more; "a parameter at depth 20 doesn't take part": 0
abbrev pub weight : Query → Parameter → ℕ → ℕ
weight q p k = cond (eqb k q.deepest) 0 (1 + spread q p * side k)

-- "The largest wins; ties go to t, then u"
unfoldable pub winner : ℕ → ℕ → ℕ → Parameter
winner t u v = cond (leb u t && leb v t) InT (cond (leb v u) InU InV)

-- "every survivor is split in one parameter, the same for the whole level"
unfoldable pub split : Query → Depths → Parameter
split q k = winner (weight q InT k.t) (weight q InU k.u) (weight q InV k.v)

-- f on one of three numbers
abbrev pub on : Parameter → (ℕ → ℕ) → Three → Three
on InT f b = record { t = f b.t; u = b.u; v = b.v }
on InU f b = record { t = b.t; u = f b.u; v = b.v }
on InV f b = record { t = b.t; u = b.u; v = f b.v }

-- a split: one depth more, and index i becomes 2·i and 2·i + 1
abbrev pub deeper : Parameter → Depths → Depths
deeper p = on p (λ k. k + 1)

abbrev pub low_half : Parameter → Box → Box
low_half p = on p (λ i. 2 * i)

abbrev pub high_half : Parameter → Box → Box
high_half p = on p (λ i. 2 * i + 1)

-- "For vertex-face a half whose low u plus low v exceeds 1 is dropped and never counted; equal to 1 stays."
-- "A half whose low t exceeds the cap is dropped like one outside the face, uncounted." (document 02, R-7)
unfoldable pub inside : Query → Depths → Box → Bool
inside q k box = leb (low k.t box.t) q.last && (not q.is_face || leb (low k.u box.u + low k.v box.v) parts)

-- those of a list that are such, in order
unfoldable pub those : (Box → Bool) → List Box → List Box
those f [] = []
those f (box ∷ rest) = cond (f box) (box ∷ those f rest) (those f rest)

-- "ascending order of t, then u, then v index"
unfoldable pub not_after : Box → Box → Bool
not_after a b = ltb a.t b.t || eqb a.t b.t && (ltb a.u b.u || eqb a.u b.u && leb a.v b.v)

-- two ascending lists as one: `merge` takes x in where it belongs, and `rest` is the merge of what stands after x
unfoldable pub take_in : Box → (List Box → List Box) → List Box → List Box
take_in x rest [] = x ∷ rest []
take_in x rest (y ∷ ys) = cond (not_after x y) (x ∷ rest (y ∷ ys)) (y ∷ take_in x rest ys)

unfoldable pub merge : List Box → List Box → List Box
merge [] ys = ys
merge (x ∷ xs) ys = take_in x (merge xs) ys

-- the next level, ascending: the survivors' low halves merged with their high halves; k are the depths after the split in p
unfoldable pub halves : Query → Depths → Parameter → List Box → List Box
halves q k p boxes = merge (those (inside q k) (map (low_half p) boxes)) (those (inside q k) (map (high_half p) boxes))

-- ---- the levels

-- "If the new level has more than H boxes: ROOM with the recorded corner."
unfoldable pub if_room : Bool → Corner → ℕ → (Corner → ℕ → Answer) → Answer
if_room true c n go = go c n
if_room false c n go = with_count Room c n

-- "When the level has no survivor: CLEAR. When all its boxes are checked, every survivor is split"; `go` goes on with the new level
unfoldable pub after_level : Query → Depths → (Depths → List Box → Corner → ℕ → Answer) → Checked → Answer
after_level q k go (answered a) = a
after_level q k go (through n c []) = Clear n
after_level q k go (through n c (box ∷ rest)) =
    let p : Parameter = split q k in
    let new : List Box = halves q (deeper p k) p (box ∷ rest) in
    if_room (leb (length new) q.room) c n (go (deeper p k) new)

-- at most so many levels more; 61 are enough, since a level of full depths ends the search, and `Refused 0` is never answered
unfoldable pub levels : ℕ → Query → Depths → List Box → Corner → ℕ → Answer
levels zero q k boxes c n = Refused 0
levels (suc m) q k boxes c n = after_level q k (levels m q) (check q k boxes false c n)

-- "Level 0 is the whole cube of parameters, all depths 0."; nothing is recorded yet
abbrev pub origin : Three
origin = record { t = 0; u = 0; v = 0 }

unfoldable pub run : Query → Answer
run q = levels 61 q origin (origin ∷ []) (record { t = 0; u = 0; v = 0; excess = 0 }) 0

-- ---- the search of a record with so many queue words

-- a refusal's number (0: none), or else the answer
unfoldable pub unless : ℕ → Answer → Answer
unless zero a = a
unless (suc n) a = Refused (suc n)

-- the refusals come before anything is searched
unfoldable pub search : Record → ℕ → Answer
search r words = unless (search_refusal r words) (run (query r words))
