use mathlib.Core.Path.{◌≡◌}
use Prim.Native.Nat.{◌+◌, ◌-◌, ◌*◌, ◌/◌, ◌^◌}
use native.Mathlib.Omega.{arith}
use Rattle.rules.specs.Search.{largest}
use Rattle.kernel.specs.Kernel.{on_axis, apart_on}
use Rattle.gap.specs.Corners.{beyond, excess_of}
use Rattle.gap.specs.Steps.{unit_most}
use Rattle.gap.specs.Bounds.{unit_least, beyond_within, excess_most, shift_is}
use Rattle.gap.proofs.measure.excess.Goals as goal

-- the largest, and what is worked out of it
largest_is : (c : goal.After-unit_of-unit) → c.larger-n.result ≡ largest (λ axis. beyond (on_axis c.args.p axis) c.args.w (apart_on c.args.p axis))
largest_is c =
    rw (c.larger.ensures, c.beyond-x.ensures, c.beyond-y.ensures, c.beyond-z.ensures)
    at c.larger-n.ensures

got : (c : goal.After-unit_of-unit) → (c.larger-n.result + (c.unit_of-unit.result - 1)) / 2 ^ (2 * c.args.p.deepest) ≡ excess_of c.args.p c.args.w
unfolding excess_of
got c = rw (shift_is c.requires, largest_is c, c.unit_of-unit.ensures)

pub overflow_sub-result : goal.overflow_sub-result
overflow_sub-result c = rw c.unit_of-unit.ensures (unit_least c.requires)

pub overflow_add-result : goal.overflow_add-result
overflow_add-result c =
    record {
      fits = omega (
        arith,
        largest_is c,
        c.unit_of-unit.ensures,
        unit_most c.requires.in_parts,
        beyond_within c.requires.x c.requires.in_parts c.args.p.dx,
        beyond_within c.requires.y c.requires.in_parts c.args.p.dy,
        beyond_within c.requires.z c.requires.in_parts c.args.p.dz,
      );
    }

pub overflow_mul-result : goal.overflow_mul-result
overflow_mul-result c = record { fits = omega (arith, c.requires.deepest) }

pub overflow_shr-result : goal.overflow_shr-result
overflow_shr-result c = omega (arith, c.requires.deepest)

pub overflow_cast-result : goal.overflow_cast-result
overflow_cast-result c = rw (got c.before) (record { fits = omega (arith, excess_most c.requires) })

pub returns : goal.returns
returns c = got c.before
