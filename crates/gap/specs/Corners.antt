-- F over a cell's corners on one axis, times parts·parts of the cell: 2 to the depth limit are the whole.
use Rattle.std.specs.Prelude.{ℕ, ◌+◌, ◌*◌, ◌-◌, ◌/◌, ◌^◌, Bool, ◌&&◌, ℤ, pos, neg_ℤ, nat_abs, ◌+ℤ◌, ◌-ℤ◌, ◌*ℤ◌, leb}
use Rattle.std.specs.Int.Signed.{le_z}
use Rattle.whole.specs.Defs.{min_z, max_z}
use Rattle.rules.specs.declared.Three.{Three}
use Rattle.rules.specs.Search.{largest, on_all}
use Rattle.kernel.specs.declared.Kernel.{Kernel}
use Rattle.kernel.specs.declared.Pair.{Pair}
use Rattle.kernel.specs.Kernel.{kern, on_axis, apart_on}
use Rattle.gap.specs.declared.cell.Cell.{Cell}
use Rattle.gap.specs.declared.span.Moment.{Moment}
use Rattle.gap.specs.declared.span.Span.{Span}

-- F at t, u, v, counted in q parts
abbrev pub value : ℕ → Kernel → ℕ → ℕ → ℕ → ℤ
value q K t u v = kern K (pos q) (pos t) (pos u) (pos v)

-- `pick` over the eight corners
unfoldable pub over : (ℤ → ℤ → ℤ) → Kernel → Cell → ℤ
over pick K w =
    pick
    (pick (pick (at w.t0 w.u0 w.v0) (at w.t0 w.u0 w.v1)) (pick (at w.t0 w.u1 w.v0) (at w.t0 w.u1 w.v1)))
    (pick (pick (at w.t1 w.u0 w.v0) (at w.t1 w.u0 w.v1)) (pick (at w.t1 w.u1 w.v0) (at w.t1 w.u1 w.v1)))
  where
    at : ℕ → ℕ → ℕ → ℤ
    at = value w.parts K

abbrev pub span_over : Kernel → Cell → Span
span_over K w = record { least = over min_z K w; greatest = over max_z K w }

-- a unit of F times parts·parts
abbrev pub unit_of : Cell → ℕ
unit_of w = w.parts * w.parts

-- "m is at most d and M at least -d" on one axis
unfoldable pub meets : Kernel → Cell → ℕ → Bool
meets K w d = le_z (over min_z K w) (pos (d * unit_of w)) && le_z (neg_ℤ (pos (d * unit_of w))) (over max_z K w)

-- by how much F is beyond d at the low corner
abbrev pub beyond : Kernel → Cell → ℕ → ℕ
beyond K w d = nat_abs (value w.parts K w.t0 w.u0 w.v0) - d * unit_of w

abbrev pub round_up_by : ℕ → ℕ → ℕ
round_up_by unit n = (n + (unit - 1)) / unit

unfoldable pub excess_of : Pair → Cell → ℕ
excess_of p w = round_up_by (unit_of w) (largest (λ axis. beyond (on_axis p axis) w (apart_on p axis)))

-- "width at most the tolerance"
abbrev pub is_narrow : Kernel → Cell → ℕ → Bool
is_narrow K w t = leb (nat_abs (over max_z K w -ℤ over min_z K w)) (t * unit_of w)

unfoldable pub is_thin : Pair → Cell → Bool
is_thin p w = on_all (λ axis. is_narrow (on_axis p axis) w p.tolerance)

-- the low end of an index's cell, where 2 to the depth limit parts are the whole
abbrev pub low_in : ℕ → ℕ → ℕ → ℕ
low_in deepest k i = i * 2 ^ (deepest - k)

-- a box's cell
abbrev pub cell_of : ℕ → Three → Three → Cell
cell_of deepest k box =
    record {
      parts = 2 ^ deepest;
      t0 = low_in deepest k.t box.t;
      t1 = low_in deepest k.t (box.t + 1);
      u0 = low_in deepest k.u box.u;
      u1 = low_in deepest k.u (box.u + 1);
      v0 = low_in deepest k.v box.v;
      v1 = low_in deepest k.v (box.v + 1);
    }

-- ---- as the code works it out

-- straight from x to y, at t
abbrev pub blended : ℤ → ℤ → ℤ → ℤ → ℤ
blended q t x y = (q -ℤ t) *ℤ x +ℤ t *ℤ y

abbrev pub moment_of : ℕ → Kernel → ℕ → Moment
moment_of q K t =
    record { a = blended (pos q) (pos t) K.a0 K.a1; b = blended (pos q) (pos t) K.b0 K.b1; c = blended (pos q) (pos t) K.c0 K.c1 }

-- F at a moment
abbrev pub value_at : ℕ → Moment → ℕ → ℕ → ℤ
value_at q m u v = pos q *ℤ m.a +ℤ pos u *ℤ m.b +ℤ pos v *ℤ m.c

abbrev pub span_of : ℤ → ℤ → Span
span_of x y = record { least = min_z x y; greatest = max_z x y }

abbrev pub joined : Span → Span → Span
joined s t = record { least = min_z s.least t.least; greatest = max_z s.greatest t.greatest }

abbrev pub summed : ℤ → Span → Span → Span
summed x s t = record { least = x +ℤ s.least +ℤ t.least; greatest = x +ℤ s.greatest +ℤ t.greatest }

-- the span over u and v at a moment, term by term
abbrev pub span_at : Moment → Cell → Span
span_at m w =
    summed (pos w.parts *ℤ m.a) (span_of (pos w.u0 *ℤ m.b) (pos w.u1 *ℤ m.b)) (span_of (pos w.v0 *ℤ m.c) (pos w.v1 *ℤ m.c))
