-- F on an axis as A + u·B + v·C, times q·q, and the question of a pair in that form.
use Rattle.std.specs.Prelude.{Bool, true, false, List, ℕ, ◌+◌, ◌*◌, ℤ, pos, ◌+ℤ◌, ◌-ℤ◌, ◌*ℤ◌, get_or}
use Rattle.rules.specs.declared.Axis.{Axis}
use Rattle.rules.specs.declared.Axis.TheVariants.{X, Y, Z}
use Rattle.rules.specs.Gap.{place}
use Rattle.rules.specs.Search.{Query}
use Rattle.kernel.specs.declared.Kernel.{Kernel}
use Rattle.kernel.specs.declared.Pair.{Pair}

unfoldable pub kern : Kernel → ℤ → ℤ → ℤ → ℤ → ℤ
kern K q a b c = (q -ℤ a) *ℤ (q *ℤ K.a0 +ℤ b *ℤ K.b0 +ℤ c *ℤ K.c0) +ℤ a *ℤ (q *ℤ K.a1 +ℤ b *ℤ K.b1 +ℤ c *ℤ K.c1)

-- the coordinate of point i on an axis, of the four at the start (0 to 3) and the four at the end (4 to 7)
abbrev pub coordinate : List ℤ → Axis → ℕ → ℤ
coordinate points axis i = get_or points (3 * i + place axis) (pos 0)

-- A = p - v1, B = v1 - v2, C = v1 - v3 (vertex-face); A = p1 - p3, B = p2 - p1, C = p3 - p4 (edge-edge)
unfoldable pub kernel_of : Bool → List ℤ → Axis → Kernel
kernel_of true points axis =
    record { a0 = at 0 -ℤ at 1; b0 = at 1 -ℤ at 2; c0 = at 1 -ℤ at 3; a1 = at 4 -ℤ at 5; b1 = at 5 -ℤ at 6; c1 = at 5 -ℤ at 7 }
  where
    at : ℕ → ℤ
    at = coordinate points axis
kernel_of false points axis =
    record { a0 = at 0 -ℤ at 2; b0 = at 1 -ℤ at 0; c0 = at 2 -ℤ at 3; a1 = at 4 -ℤ at 6; b1 = at 5 -ℤ at 4; c1 = at 6 -ℤ at 7 }
  where
    at : ℕ → ℤ
    at = coordinate points axis

-- ---- a pair

abbrev pub on_axis : Pair → Axis → Kernel
on_axis p X = p.x
on_axis p Y = p.y
on_axis p Z = p.z

abbrev pub apart_on : Pair → Axis → ℕ
apart_on p X = p.dx
apart_on p Y = p.dy
apart_on p Z = p.dz

-- what a pair asks of the written search
abbrev pub asked : Pair → Query
asked p =
    record {
      gap = λ axis q a b c. kern (on_axis p axis) (pos q) (pos a) (pos b) (pos c);
      is_face = p.face;
      separation = apart_on p;
      tolerance = p.tolerance;
      budget = p.budget;
      room = p.room;
      deepest = p.deepest;
      last = p.last;
    }
