-- "Boxes are checked in ascending order of t, then u, then v index." (document 01). `check` in rules/specs/Search.antt goes through a level's list from first to last;
-- this page says how the list of every level stands. `Comes` in Why.antt are the levels that a search comes to. proofs/Ordered.antt proves `CheckedInOrder`,
-- proofs/Before.antt `SameTest`.
use Rattle.std.specs.Prelude.{ℕ, ◌<◌, ◌≡◌, ◌↔◌, ◌⊎◌, not, List, [], ◌∷◌, T}
use Rattle.rules.specs.declared.Corner.{Corner}
use Rattle.rules.specs.Search.{Query, Box, Depths, not_after}
use Rattle.promise.specs.Why.{Comes}

-- by one index, then by what comes after it
abbrev pub By : ℕ → ℕ → Type 0 → Type 0
By i j Then = (i < j) ⊎ ((i ≡ j) × Then)

-- "of t, then u, then v index": a stands before b, and is another box
abbrev pub Before : Box → Box → Type 0
Before a b = By a.t b.t (By a.u b.u (a.v < b.v))

-- the test by which the search merges a level says the same; that it is the order of the boxes' words is `same_order` in crates/boxes
abbrev pub SameTest : Type 0
SameTest = (a b : Box) → Before a b ↔ T (not (not_after b a))

-- every box of a list is such
abbrev pub Every : (Box → Type 0) → List Box → Type 0
Every P [] = Unit
Every P (b ∷ bs) = P b × Every P bs

-- each box before all that come after it
abbrev pub Ascending : List Box → Type 0
Ascending [] = Unit
Ascending (b ∷ bs) = Every (Before b) bs × Ascending bs

-- no box twice
abbrev pub Once : List Box → Type 0
Once [] = Unit
Once (b ∷ bs) = Every (λ x. x ≡ b → ⊥) bs × Once bs

-- the boxes of every level that a search comes to
abbrev pub CheckedInOrder : Type 0
CheckedInOrder = (q : Query) (m : ℕ) (k : Depths) (boxes : List Box) (c : Corner) (n : ℕ) → Comes q m k boxes c n → Ascending boxes × Once boxes
