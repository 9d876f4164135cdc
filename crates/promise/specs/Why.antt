-- What naming a box promises to one who asks why a point was ruled out (document 02, R-8). Read `why_search` in rules/specs/Why.antt and `check`, `split` and `halves` in
-- rules/specs/Search.antt, then this page; no more is needed. proofs/Why proves what is stated here.
use Rattle.std.specs.Prelude.{ℕ, zero, suc, ◌+◌, ◌*◌, ◌-◌, ◌^◌, ◌≤◌, ◌<◌, ◌≡◌, ◌↔◌, ◌⊎◌, Bool, false, ◌&&◌, List, [], ◌∷◌, pos, neg_ℤ, ◌<ℤ◌, length, take, T, leb}
use Rattle.std.specs.Int.Signed.{le_z}
use Rattle.rules.specs.declared.Record.{Record}
use Rattle.rules.specs.declared.Three.{Three}
use Rattle.rules.specs.declared.Corner.{Corner}
use Rattle.rules.specs.declared.Told.{Told}
use Rattle.rules.specs.declared.Axis.{Axis}
use Rattle.rules.specs.declared.Side.{Side}
use Rattle.rules.specs.declared.Side.TheVariants.{Below, Above}
use Rattle.rules.specs.declared.Stop.{Stop}
use Rattle.rules.specs.declared.Reason.{Reason}
use Rattle.rules.specs.declared.Ruling.TheVariants.{Discarded, Refused}
use Rattle.rules.specs.Numbers.{parts}
use Rattle.rules.specs.Gap.{Place, OnBodies, place}
use Rattle.rules.specs.Answers.{told, has_moment}
use Rattle.rules.specs.Refusals.{search_refusal}
use Rattle.rules.specs.Search.{Query, query, Box, Depths, low, high, unit, least, greatest, survives, Checked, answered, through, check, split, deeper, halves, origin, levels, run, search}
use Rattle.rules.specs.Why.{whole_domain, half_of, why_refusal, why_search}
use Rattle.promise.specs.Promise.{UpToCap}

-- ---- places and boxes

-- a/q lies between i and i + 1 sides of depth k, cross-multiplied
pub record Between (q k i a : ℕ) : Type 0 where
  pub above : q * low k i ≤ parts * a
  pub under : parts * a ≤ q * high k i

-- a place in a closed box
pub record In (k : Depths) (box : Box) (m : Place) : Type 0 where
  pub t : Between m.q k.t box.t m.a
  pub u : Between m.q k.u box.u m.b
  pub v : Between m.q k.v box.v m.c

-- "t, u, v in 1/1,048,576 parts"
abbrev pub pointed : Three → Place
pointed at = record { q = parts; a = at.t; b = at.u; c = at.v }

-- ---- "from the whole domain down, one level at a time, always into the half that holds the point"

-- so many levels down from a box
unfoldable pub down : Query → Three → ℕ → Stop → Stop
down q at zero s = s
down q at (suc n) s = down q at n (half_of q at s)

-- a point, in parts, in a cell of the grid; "the upper one on a boundary, except at 1": it is at the cell's high end only at 1
pub record Held (k i at : ℕ) : Type 0 where
  pub depth : k ≤ 20
  pub grid : i < 2 ^ k
  pub from : low k i ≤ at
  pub to : at ≤ high k i
  pub upper : at ≡ high k i → at ≡ parts

pub record Holds (at : Three) (s : Stop) : Type 0 where
  pub t : Held s.depths.t s.index.t at.t
  pub u : Held s.depths.u s.index.u at.u
  pub v : Held s.depths.v s.index.v at.v

-- ---- "the search discarded it"

-- some box of a list is such
abbrev pub Some : (Box → Type 0) → List Box → Type 0
Some P [] = ⊥
Some P (b ∷ bs) = P b ⊎ Some P bs

-- the levels that a search comes to, by the search's own steps: with at most so many levels from it on, the depths, the boxes, the recorded corner and the count
-- with which it begins
pub data Comes (q : Query) : ℕ → Depths → List Box → Corner → ℕ → Type 0 where
  whole : Comes q 61 origin (origin ∷ []) (record { t = 0; u = 0; v = 0; excess = 0 }) 0
  next : (m : ℕ) (k : Depths) (boxes : List Box) (c : Corner) (n i : ℕ) (d : Corner) (box : Box) (rest : List Box)
      → Comes q (suc m) k boxes c n
      → check q k boxes false c n ≡ through i d (box ∷ rest)
      → T (leb (length (halves q (deeper (split q k) k) (split q k) (box ∷ rest))) q.room)
      → Comes q m (deeper (split q k) k) (halves q (deeper (split q k) k) (split q k) (box ∷ rest)) d i

-- that they are its own: what it answers from there on is what it answers
abbrev pub OwnLevels : Type 0
OwnLevels = (q : Query) (m : ℕ) (k : Depths) (boxes : List Box) (c : Corner) (n : ℕ) → Comes q m k boxes c n → levels m q k boxes c n ≡ run q

-- the count where the check of a level ends
abbrev pub counted : Checked → ℕ
counted (answered a) = (told a).count
counted (through n c boxes) = n

-- the search came to a level with this box at these depths; the box is one of the level's first boxes, as many as the count rose by; and it did not survive
pub record WasDiscarded (q : Query) (k : Depths) (box : Box) : Type 0 where
  pub more : ℕ
  pub boxes : List Box
  pub corner : Corner
  pub count : ℕ
  pub comes : Comes q (suc more) k boxes corner count
  pub checked : Some (λ b. b ≡ box) (take (counted (check q k boxes false corner count) - count) boxes)
  pub lost : survives q k box ≡ false

-- ---- the promises

-- F on the axis is beyond the separation on that side
abbrev pub Beyond : Query → Axis → Side → Place → Type 0
Beyond q axis Below m = q.gap axis m.q m.a m.b m.c <ℤ neg_ℤ (pos (q.separation axis * (m.q * m.q)))
Beyond q axis Above m = pos (q.separation axis * (m.q * m.q)) <ℤ q.gap axis m.q m.a m.b m.c

-- "The point is in that box, the search discarded it, and over all of the box F on that axis is beyond the separation on that side."
pub record Named (q : Query) (at : Three) (x : Reason) : Type 0 where
  pub holds : In x.depths x.index (pointed at)
  pub discarded : WasDiscarded q x.depths x.index
  pub beyond : (m : Place) → 0 < m.q → In x.depths x.index m → Beyond q x.axis x.side m

abbrev pub NamesDiscarded : Type 0
NamesDiscarded = (r : Record) (words : ℕ) (at : Three) (x : Reason) → why_search r words at ≡ Discarded x → Named (query r words) at x

-- "when m is at most d and M at least -d" (document 01), on one axis
abbrev pub reached_on : Query → Depths → Box → Axis → Bool
reached_on q k box axis = le_z (least q k box axis) (pos (q.separation axis * unit)) && le_z (neg_ℤ (pos (q.separation axis * unit))) (greatest q k box axis)

-- "the first box that was discarded": it is the box on the way at its level, the way goes as it must, and every box before it survived; "x before y before z":
-- no axis before the named one misses
pub record First (q : Query) (at : Three) (x : Reason) : Type 0 where
  pub level : x.level ≡ x.depths.t + x.depths.u + x.depths.v
  pub on_the_way : down q at x.level whole_domain ≡ record { depths = x.depths; index = x.index }
  pub held : (n : ℕ) → n ≤ x.level → Holds at (down q at n whole_domain)
  pub survived : (n : ℕ) → n < x.level → T (survives q (down q at n whole_domain).depths (down q at n whole_domain).index)
  pub axes : (axis : Axis) → place axis < place x.axis → T (reached_on q x.depths x.index axis)

abbrev pub NamesTheFirst : Type 0
NamesTheFirst = (r : Record) (words : ℕ) (at : Three) (x : Reason) → why_search r words at ≡ Discarded x → First (query r words) at x

-- "before the answered time (or anywhere up to the cap under CLEAR)": what the cap leaves is asked beside it
abbrev pub NotYet : Told → Three → Type 0
NotYet a at = (a.word ≡ 2) ⊎ (T (has_moment a) × (at.t < a.t))

-- every such point of the bodies up to the cap has its box, and no other has
abbrev pub NamedExactly : Type 0
NamedExactly =
    (r : Record) (words : ℕ) (at : Three)
    → ((x : Reason) × (why_search r words at ≡ Discarded x)) ↔ ((search_refusal r words ≡ 0) × OnBodies r (pointed at) × UpToCap r (pointed at) × NotYet (told (search r words)) at)

-- refused with n exactly when n is the search's own, or else 23 or 24, in that order
abbrev pub WhyRefusedExactly : Type 0
WhyRefusedExactly =
    (r : Record) (words : ℕ) (at : Three) (n : ℕ) → (why_search r words at ≡ Refused n) ↔ ((0 < n) × (why_refusal r words at ≡ n))
