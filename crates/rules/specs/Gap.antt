-- Document 01, "Gap". "Rational t, u, v are whole numbers over one common positive whole number q. F times q·q is then a whole number":
-- t, u, v are a/q, b/q, c/q; a moving point's coordinate is worked out times q, and F times q·q.
use Rattle.std.specs.Prelude.{ℕ, ◌+◌, ◌*◌, ◌%◌, ◌/◌, ◌≤◌, ◌<◌, Bool, cond, ◌&&◌, List, [], ◌∷◌, ℤ, pos, neg_ℤ, nat_abs, ◌+ℤ◌, ◌-ℤ◌, ◌*ℤ◌, get_or, T, eqb, leb}
use Rattle.rules.specs.declared.Record.{Record}
use Rattle.rules.specs.declared.Axis.{Axis}
use Rattle.rules.specs.declared.Axis.TheVariants.{X, Y, Z}

abbrev pub place : Axis → ℕ
place X = 0
place Y = 1
place Z = 2

-- "p(t) = (1-t)·p0 + t·p1 for every point", times q
unfoldable pub moving : ℕ → ℕ → ℤ → ℤ → ℤ
moving q a p0 p1 = (pos q -ℤ pos a) *ℤ p0 +ℤ pos a *ℤ p1

-- equation 1, "F = p - ((1-u-v)·v1 + u·v2 + v·v3)", times q
unfoldable pub vertex_face : ℕ → ℕ → ℕ → ℤ → ℤ → ℤ → ℤ → ℤ
vertex_face q b c p v1 v2 v3 = pos q *ℤ p -ℤ ((pos q -ℤ pos b -ℤ pos c) *ℤ v1 +ℤ pos b *ℤ v2 +ℤ pos c *ℤ v3)

-- equation 2, "F = ((1-u)·p1 + u·p2) - ((1-v)·p3 + v·p4)", times q
unfoldable pub edge_edge : ℕ → ℕ → ℕ → ℤ → ℤ → ℤ → ℤ → ℤ
edge_edge q b c p1 p2 p3 p4 = ((pos q -ℤ pos b) *ℤ p1 +ℤ pos b *ℤ p2) -ℤ ((pos q -ℤ pos c) *ℤ p3 +ℤ pos c *ℤ p4)

-- F on an axis, times q·q, of 24 coordinates: four points (p, v1, v2, v3 or p1, p2, p3, p4) at the start, then at the end
unfoldable pub gap_on : Bool → List ℤ → Axis → ℕ → ℕ → ℕ → ℕ → ℤ
gap_on is_face points axis q a b c =
    cond is_face (vertex_face q b c (point 0) (point 1) (point 2) (point 3)) (edge_edge q b c (point 0) (point 1) (point 2) (point 3))
  where
    point : ℕ → ℤ
    point i = moving q a (get_or points (3 * i + place axis) (pos 0)) (get_or points (3 * (4 + i) + place axis) (pos 0))

-- "y of every point of the second body (v1, v2, v3, or p3, p4)": whether number j of the 24 coordinates is one
abbrev pub is_second_y : Bool → ℕ → Bool
is_second_y is_face j = eqb (j % 3) 1 && leb (cond is_face 1 2) (j / 3 % 4)

-- the coordinates from number j on, those picked negated
unfoldable pub negate_from : (ℕ → Bool) → ℕ → List ℤ → List ℤ
negate_from picked j [] = []
negate_from picked j (c ∷ cs) = cond (picked j) (neg_ℤ c) c ∷ negate_from picked (j + 1) cs

-- kind 1 is vertex-face (row 1 of the table)
abbrev pub is_vertex_face : Record → Bool
is_vertex_face r = eqb r.kind 1

-- "Flag bit 0 set: y of every point of the second body is negated first, and everything here speaks of the points after that."
unfoldable pub sided : Record → List ℤ
sided r = cond (eqb (r.flags % 2) 1) (negate_from (is_second_y (is_vertex_face r)) 0 r.points) r.points

-- document 02, R-4: "each axis" has "that axis's own separation"
abbrev pub separation_on : Record → Axis → ℕ
separation_on r X = r.dx
separation_on r Y = r.dy
separation_on r Z = r.dz

-- a rational moment and place: t = a/q, u = b/q, v = c/q
pub record Place : Type 0 where
  pub q : ℕ
  pub a : ℕ
  pub b : ℕ
  pub c : ℕ

-- "for t in 0..1, u and v at least 0, u+v at most 1"; "for t, u, v in 0..1"
pub record OnBodies (r : Record) (m : Place) : Type 0 where
  pub positive : 0 < m.q
  pub t : m.a ≤ m.q
  pub u : m.b ≤ m.q
  pub v : m.c ≤ m.q
  pub face : T (is_vertex_face r) → m.b + m.c ≤ m.q

-- document 02, R-4: "Contact now means that |F| on each axis is at most that axis's own separation"
abbrev pub Contact : Record → Place → Type 0
Contact r m =
    (axis : Axis) → nat_abs (gap_on (is_vertex_face r) (sided r) axis m.q m.a m.b m.c) ≤ separation_on r axis * (m.q * m.q)
