-- One query of a triangle pair: the points that it reads.
use Rattle.std.specs.Prelude.{ℕ, ◌+◌, ◌*◌, ◌≤◌, ◌<◌, ◌≡◌, cond, List, [], ◌∷◌, ℤ, pos, length, get_or, ltb, eqb}
use Rattle.rules.specs.declared.Record.{Record}
use Rattle.rules.specs.declared.Terms.{Terms}
use Rattle.rules.specs.declared.Ask.{Ask}
use Rattle.rules.specs.Bodies.{corner_place, ask_of}
use Rattle.bounds.specs.declared.Body.{Body as LentBody}
use Rattle.bounds.specs.Reach.{body}
use Rattle.bodies.specs.declared.asking.Point.{Point}
use Rattle.bodies.specs.declared.asking.Four.{Four}

-- x, y, z from a place on
abbrev pub point_at : List ℤ → ℕ → Point
point_at s at = record { x = get_or s at (pos 0); y = get_or s (at + 1) (pos 0); z = get_or s (at + 2) (pos 0) }

-- a corner of the pair i, j
unfoldable pub corner_at : List ℤ → List ℤ → ℕ → ℕ → ℕ → Point
corner_at a b i j n = point_at (cond (ltb n 3) a b) (corner_place i j n)

-- a query's four points at one moment
unfoldable pub four_at : List ℤ → List ℤ → ℕ → ℕ → Ask → Four
four_at a b i j k = record { p = corner_at a b i j k.p; q = corner_at a b i j k.q; r = corner_at a b i j k.r; s = corner_at a b i j k.s }

-- the 24 coordinates of both moments
abbrev pub three : Point → List ℤ → List ℤ
three c rest = c.x ∷ c.y ∷ c.z ∷ rest

abbrev pub twelve : Four → List ℤ → List ℤ
twelve f rest = three f.p (three f.q (three f.r (three f.s rest)))

abbrev pub points_of : Four → Four → List ℤ
points_of f g = twelve f (twelve g [])

-- the corner that an edge ends at, by the one it starts at
abbrev pub after : ℕ → ℕ
after n = cond (eqb n 2) 0 (n + 1)

-- the pair's triangles are there
pub record There (a b : List ℤ) (i j : ℕ) : Type 0 where
  pub of_a_lem : 9 * i + 9 ≤ length a
  pub of_b_lem : 9 * j + 9 ≤ length b

-- a query's points are corners of the pair
pub record Corners (k : Ask) : Type 0 where
  pub p : k.p < 6
  pub q : k.q < 6
  pub r : k.r < 6
  pub s : k.s < 6

-- the counts of triangles have no part in a query
abbrev pub QueryIs : Terms → LentBody → LentBody → ℕ → ℕ → Ask → Record → Type 0
QueryIs w a b i j k r = (m n : ℕ) → r ≡ ask_of w (body m a.start.now a.end.now) (body n b.start.now b.end.now) i j k
