use mathlib.Core.Path.{◌≡◌}
use Prim.Native.Nat.{ℕ, ◌+◌, ◌^◌, ◌<◌, ◌≤◌}
use native.Mathlib.Omega.{arith}
use lib.IntN.{ℤ, pos}
use lib.Signed.{mag}
use mir.Syntax.{w64}
use mir.Val.{to_z, of_z}
use mir.Facts.{to_z-of_z}
use Rattle.whole.specs.Read.{back}
use Rattle.whole.specs.Within.{Within, fits}
use Rattle.kernel.specs.Ranges.{Held}
use Rattle.gap.specs.Corners.{blended}
use Rattle.gap.specs.Steps.{Blends, blends, number_within, read_part}
use Rattle.gap.proofs.span.at_moment.Goals as goal

-- `gap::span::at_moment` meets its contract.
module _ {C q t : ℕ} {x y : ℤ} (h : Held C q) (ht : t ≤ q) (hx : Within (C + C) x) (hy : Within (C + C) y) where
  part : to_z w64 t ≡ pos t
  part = read_part (omega (arith, h.parts_most))

  -- what a call of `blend` asks, and what it gives, of numbers that are read back from their bits
  asked : Blends (to_z w64 q) (to_z w64 t) (to_z w64 (of_z w64 x)) (to_z w64 (of_z w64 y))
  asked = rw (read_part h.parts_most, part, to_z-of_z (fits tt (number_within h hx)), to_z-of_z (fits tt (number_within h hy))) (blends h ht hx hy)

  told : {z : ℤ} → mag z < 2 ^ 63 → z ≡ blended (to_z w64 q) (to_z w64 t) (to_z w64 (of_z w64 x)) (to_z w64 (of_z w64 y)) → to_z w64 (of_z w64 z) ≡ blended (pos q) (pos t) x y
  told g e = back w64 g (rw (read_part h.parts_most, part, to_z-of_z (fits tt (number_within h hx)), to_z-of_z (fits tt (number_within h hy))) at e)

pub overflow_cast-q : goal.overflow_cast-q
overflow_cast-q c = record { sfits = omega (arith, c.requires.1.held.parts_most) }

pub overflow_cast-s : goal.overflow_cast-s
overflow_cast-s c = record { sfits = omega (arith, c.requires.1.held.parts_most) }

pub blend-a-requires : goal.blend-a-requires
blend-a-requires c = asked c.requires.1.held c.requires.0 c.requires.1.a0 c.requires.1.a1

pub blend-b-requires : goal.blend-b-requires
blend-b-requires c = asked c.requires.1.held c.requires.0 c.requires.1.b0 c.requires.1.b1

pub blend-c-requires : goal.blend-c-requires
blend-c-requires c = asked c.requires.1.held c.requires.0 c.requires.1.c0 c.requires.1.c1

pub returns : goal.returns
returns c =
    let a = told c.requires.1.held c.requires.0 c.requires.1.a0 c.requires.1.a1 c.blend-a.type_inv c.blend-a.ensures in
    let b = told c.requires.1.held c.requires.0 c.requires.1.b0 c.requires.1.b1 c.blend-b.type_inv c.blend-b.ensures in
    let d = told c.requires.1.held c.requires.0 c.requires.1.c0 c.requires.1.c1 c.blend-c.type_inv c.blend-c.ensures in
    λ i. record { a = a i; b = b i; c = d i }
