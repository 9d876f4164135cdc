use mathlib.Core.Path.{◌≡◌, ap, ◌∙◌}
use Prim.Native.Nat.{ℕ, ◌*◌, ◌≤◌}
use native.Mathlib.Omega.{arith}
use lib.IntN.{nat_abs}
use lib.Dec.{lit≤}
use mir.Syntax.{w64}
use Rattle.whole.specs.Read.{back}
use Rattle.whole.specs.Within.{within_more}
use Rattle.gap.specs.Corners.{value, unit_of}
use Rattle.gap.specs.Affine.{value_at_lem}
use Rattle.gap.specs.Steps.{moment_fine, units_most}
use Rattle.gap.specs.Bounds.{value_within}
use Rattle.gap.proofs.measure.beyond.Goals as goal

got : (c : goal.After-unit_of) → c.size-n.result ≡ nat_abs (value c.args.w.parts c.args.k c.args.w.t0 c.args.w.u0 c.args.w.v0)
got c =
    let e = (rw c.at_moment.ensures at c.value.ensures) ∙ value_at_lem c.args.w.parts c.args.k c.args.w.t0 c.args.w.u0 c.args.w.v0 in
    rw (back w64 c.value.type_inv e) at c.size-n.ensures

limit : (c : goal.After-unit_of) → c.args.d * c.unit_of.result ≡ c.args.d * unit_of c.args.w
limit c = ap (λ (n : ℕ). c.args.d * n) c.unit_of.ensures

pub value-requires : goal.value-requires
value-requires c =
    (rw c.at_moment.ensures (moment_fine c.requires.0 c.requires.1.0.t0), (c.requires.1.0.parts_most, (c.requires.1.0.u0, c.requires.1.0.v0)))

-- what was worked out is F at the low corner
pub size-n-requires : goal.size-n-requires
size-n-requires c =
    let e = (rw c.at_moment.ensures at c.value.ensures) ∙ value_at_lem c.args.w.parts c.args.k c.args.w.t0 c.args.w.u0 c.args.w.v0 in
    rw (back w64 c.value.type_inv e) (within_more (lit≤ tt) (value_within c.requires.0 c.requires.1.0.t0 c.requires.1.0.u0 c.requires.1.0.v0))

pub overflow_mul-limit : goal.overflow_mul-limit
overflow_mul-limit c =
    let h : c.args.d ≤ 1_048_576 = omega (arith, c.requires.1.1) in
    record { fits = omega (arith, limit c, units_most {n = c.args.d} c.requires.1.0 h) }

pub returns : goal.returns
returns c = omega (arith, c.saturating_sub.ensures, got c.before, limit c.before)
