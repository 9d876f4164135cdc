-- A box of the grid lies in 0 to parts, where 2 to the depth limit parts are the whole.
use Rattle.std.specs.Prelude.{◌≡◌, ℕ, ◌+◌, ◌-◌, ◌*◌, ◌^◌, ◌<◌, ◌≤◌}
use Rattle.std.proofs.Common.{sym, ap, ◌∙◌, subst, arith, le_trans, lt_of_lt_of_le, mul-le-mul_right, pow-add, pow_mono, pow_pos}
use Rattle.rules.specs.declared.Three.{Three}
use Rattle.kernel.specs.declared.Pair.{Pair}
use Rattle.kernel.specs.declared.Kernel.{Kernel}
use Rattle.kernel.specs.Ranges.{Small, Ranged, Shallow, InGrid}
use Rattle.gap.specs.declared.cell.Cell.{Cell}
use Rattle.gap.specs.Corners.{low_in, cell_of}
use Rattle.gap.specs.Steps.{InParts, Placed, Over}

sides : {d k : ℕ} → k ≤ d → 2 ^ k * 2 ^ (d - k) ≡ 2 ^ d
sides {d} {k} h = let e : k + (d - k) ≡ d = omega arith in sym (pow-add 2 k (d - k)) ∙ ap (λ (n : ℕ). 2 ^ n) e

pub whole_is : (d : ℕ) → low_in d 0 1 ≡ 2 ^ d
whole_is d = let e : d - 0 ≡ d = omega arith in ap (λ (n : ℕ). 1 * 2 ^ n) e ∙ omega arith

pub parts_most : {d : ℕ} → d ≤ 20 → 2 ^ d ≤ 1_048_576
parts_most {d} h = pow_mono {i = d} {j = 20} h

pub index_most : {d k i : ℕ} → d ≤ 20 → k ≤ d → i < 2 ^ k → i < 1_048_576
index_most {d} {k} g h f = lt_of_lt_of_le f (pow_mono {i = k} {j = 20} (omega arith))

pub low_most : {d k i : ℕ} → k ≤ d → i ≤ 2 ^ k → low_in d k i ≤ 2 ^ d
low_most {d} {k} {i} h g = subst (λ (n : ℕ). low_in d k i ≤ n) (sides h) (mul-le-mul_right (2 ^ (d - k)) g)

pub low_fits : {d k i : ℕ} → d ≤ 20 → k ≤ d → i ≤ 2 ^ k → low_in d k i ≤ 1_048_576
low_fits f h g = le_trans (low_most h g) (parts_most f)

pub in_parts_of : {d : ℕ} {k box : Three} → d ≤ 20 → Shallow d k → InGrid k box → InParts (cell_of d k box)
in_parts_of {d} f s g =
    record {
      parts_least = pow_pos d;
      parts_most = parts_most f;
      t0 = low_most s.t (omega (arith, g.t));
      t1 = low_most s.t (omega (arith, g.t));
      u0 = low_most s.u (omega (arith, g.u));
      u1 = low_most s.u (omega (arith, g.u));
      v0 = low_most s.v (omega (arith, g.v));
      v1 = low_most s.v (omega (arith, g.v));
    }

-- a pair's kernels over a box's cell
pub over_of : {p : Pair} {k i : Three} {w : Cell} → Ranged p → Placed p.deepest k i w → Over p w
over_of {p} {w = w} r g =
    let e : w.parts ≡ 2 ^ p.deepest = ap (λ (w : Cell). w.parts) g.is in
    let small : (K : Kernel) → Small (2 ^ p.deepest) K → Small w.parts K = λ K s. subst (λ (q : ℕ). Small q K) (sym e) s in
    record {
      in_parts = g.in_parts;
      deepest = r.deepest;
      parts = e;
      x = small p.x r.x;
      y = small p.y r.y;
      z = small p.z r.z;
      dx = r.dx;
      dy = r.dy;
      dz = r.dz;
      tolerance = r.tolerance;
    }
