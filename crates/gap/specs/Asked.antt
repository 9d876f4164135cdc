-- What the written search asks of a pair's box, axis by axis, over the box's cell.
use Rattle.std.specs.Prelude.{◌≡◌, Bool, true, false, not, ◌||◌, ℕ, ◌+◌, ◌*◌, ◌≤◌, max, leb, ◌-ℤ◌}
use Rattle.std.proofs.Math.Path.{refl, ap₂}
use Rattle.std.proofs.Common.{sym, ap, ◌∙◌, arith, le-leb, leb-true, leb-false, pow_pos}
use Rattle.std.proofs.Math.Bool.{◌&&◌}
use Rattle.std.proofs.lemmas.Bool.{lt-leb}
use Rattle.std.proofs.Math.IntN.{nat_abs}
use Rattle.whole.specs.Defs.{min_z, max_z}
use Rattle.rules.specs.declared.Three.{Three}
use Rattle.rules.specs.declared.Axis.{Axis}
use Rattle.rules.specs.declared.Axis.TheVariants.{X, Y, Z}
use Rattle.rules.specs.declared.Corner.{Corner}
use Rattle.rules.specs.Numbers.{parts}
use Rattle.rules.specs.Search.{Query, over_corners, least, greatest, survives, corner, excess, width, on_all, largest, unit, low, inside}
use Rattle.kernel.specs.declared.Pair.{Pair}
use Rattle.kernel.specs.Kernel.{asked, on_axis, apart_on}
use Rattle.kernel.specs.Ranges.{Shallow}
use Rattle.gap.specs.declared.cell.Cell.{Cell}
use Rattle.gap.specs.Corners.{over, cell_of, meets, excess_of, is_narrow, is_thin}
use Rattle.gap.specs.Finer.{times, some_times, cell_finer, meets_finer, excess_finer, narrow_finer}

and_assoc : (a b c : Bool) → (a && b && c) ≡ (a && (b && c))
and_assoc true b c = refl
and_assoc false b c = refl

-- z first, then x, then y
pub height_first : (x y z : Bool) → (z && (x && y)) ≡ (x && y && z)
height_first true true true = refl
height_first true true false = refl
height_first true false true = refl
height_first true false false = refl
height_first false true true = refl
height_first false true false = refl
height_first false false true = refl
height_first false false false = refl

-- a half is inside where its low t is not beyond the last moment and it is not outside the face
abbrev pub in_face : Query → Three → Three → Bool
in_face q k i = not q.is_face || leb (low k.u i.u + low k.v i.v) parts

pub inside_is : (q : Query) (k i : Three) → inside q k i ≡ (leb (low k.t i.t) q.last && in_face q k i)
unfolding inside
inside_is q k i = refl

-- what is recorded has the excess at its corner
pub recorded : (q : Query) (k i : Three) (c : Corner) → c ≡ corner q k i → c.excess ≡ excess q k i
unfolding corner
recorded q k i c e = ap (λ (c : Corner). c.excess) e

leb_max : (x y n : ℕ) → (leb x n && leb y n) ≡ leb (max x y) n
leb_max x y n = go (leb x n) (leb y n) refl refl
  where
    go : (a b : Bool) → leb x n ≡ a → leb y n ≡ b → (a && b) ≡ leb (max x y) n
    go true true e f = sym (le-leb (max x y) n (omega (arith, leb-true x n e, leb-true y n f)))
    go true false e f = sym (lt-leb (max x y) n (omega (arith, leb-false y n f)))
    go false b e f = sym (lt-leb (max x y) n (omega (arith, leb-false x n e)))

leb_largest : (f : Axis → ℕ) (n : ℕ) → on_all (λ axis. leb (f axis) n) ≡ leb (largest f) n
leb_largest f n =
    and_assoc (leb (f X) n) (leb (f Y) n) (leb (f Z) n) ∙ ap (λ (b : Bool). leb (f X) n && b) (leb_max (f Y) (f Z) n) ∙ leb_max (f X) (max (f Y) (f Z)) n

module _ (p : Pair) (k i : Three) where
  -- the written search counts in 2^20 parts
  survives_at : on_all (λ axis. meets (on_axis p axis) (cell_of 20 k i) (apart_on p axis)) ≡ survives (asked p) k i
  unfolding meets over min_z max_z survives least greatest over_corners
  survives_at = refl

  excess_at : excess_of p (cell_of 20 k i) ≡ excess (asked p) k i
  unfolding excess_of excess
  excess_at = refl

  width_at : is_thin p (cell_of 20 k i) ≡ leb (width (asked p) k i) (p.tolerance * unit)
  unfolding is_thin over min_z max_z width least greatest over_corners
  width_at = leb_largest (λ axis. nat_abs (greatest (asked p) k i axis -ℤ least (asked p) k i axis)) (p.tolerance * unit)

-- and a cell of any depth limit up to 20 says the same, where the box's depths are within it
module _ {d : ℕ} (deep : d ≤ 20) (p : Pair) (k i : Three) (h : Shallow d k) where
  meets_in_lem : (axis : Axis) → meets (on_axis p axis) (cell_of d k i) (apart_on p axis) ≡ meets (on_axis p axis) (cell_of 20 k i) (apart_on p axis)
  meets_in_lem axis =
      sym (meets_finer (times deep) (some_times deep) (cell_of d k i) (on_axis p axis) (apart_on p axis)) ∙ ap (λ (w : Cell). meets (on_axis p axis) w (apart_on p axis)) (sym (cell_finer deep k i h))

  pub survives_is : on_all (λ axis. meets (on_axis p axis) (cell_of d k i) (apart_on p axis)) ≡ survives (asked p) k i
  survives_is = ap₂ ◌&&◌ (ap₂ ◌&&◌ (meets_in_lem X) (meets_in_lem Y)) (meets_in_lem Z) ∙ survives_at p k i

  pub by_height : (meets p.z (cell_of d k i) p.dz && (meets p.x (cell_of d k i) p.dx && meets p.y (cell_of d k i) p.dy)) ≡ survives (asked p) k i
  by_height = height_first (meets p.x (cell_of d k i) p.dx) (meets p.y (cell_of d k i) p.dy) (meets p.z (cell_of d k i) p.dz) ∙ survives_is

  pub excess_is : excess_of p (cell_of d k i) ≡ excess (asked p) k i
  excess_is =
      sym (excess_finer (times deep) (some_times deep) (cell_of d k i) p (pow_pos d)) ∙ ap (λ (w : Cell). excess_of p w) (sym (cell_finer deep k i h)) ∙ excess_at p k i

  narrow_in : (axis : Axis) → is_narrow (on_axis p axis) (cell_of d k i) p.tolerance ≡ is_narrow (on_axis p axis) (cell_of 20 k i) p.tolerance
  narrow_in axis =
      sym (narrow_finer (times deep) (some_times deep) (cell_of d k i) (on_axis p axis) p.tolerance) ∙ ap (λ (w : Cell). is_narrow (on_axis p axis) w p.tolerance) (sym (cell_finer deep k i h))

  pub width_is : is_thin p (cell_of d k i) ≡ leb (width (asked p) k i) (p.tolerance * unit)
  unfolding is_thin
  width_is = ap₂ ◌&&◌ (ap₂ ◌&&◌ (narrow_in X) (narrow_in Y)) (narrow_in Z) ∙ width_at p k i
