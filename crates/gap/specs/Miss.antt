-- The side on which a cell is beyond the separation, axis by axis, and what the written descent asks of a pair's box.
use Rattle.std.specs.Prelude.{◌≡◌, refl, Bool, cond, ℕ, ◌*◌, ◌≤◌, ℤ, pos, neg_ℤ, Option, Some, None}
use Rattle.std.proofs.Common.{sym, ap, ap₂, ◌∙◌}
use Rattle.std.specs.Int.Signed.{le_z}
use Rattle.std.specs.Option.{option_or}
use Rattle.whole.specs.Defs.{min_z, max_z}
use Rattle.rules.specs.declared.Three.{Three}
use Rattle.rules.specs.declared.Axis.{Axis}
use Rattle.rules.specs.declared.Axis.TheVariants.{X, Y, Z}
use Rattle.rules.specs.declared.Side.TheVariants.{Above, Below}
use Rattle.rules.specs.declared.Miss.{Miss}
use Rattle.rules.specs.Search.{least, greatest, over_corners}
use Rattle.rules.specs.Why.{miss_on, missed}
use Rattle.kernel.specs.declared.Kernel.{Kernel}
use Rattle.kernel.specs.declared.Pair.{Pair}
use Rattle.kernel.specs.Kernel.{asked, on_axis, apart_on}
use Rattle.kernel.specs.Ranges.{Shallow}
use Rattle.gap.specs.declared.cell.Cell.{Cell}
use Rattle.gap.specs.declared.span.Span.{Span}
use Rattle.gap.specs.Corners.{over, span_over, unit_of, cell_of}
use Rattle.gap.specs.Finer.{finer, times, some_times, cell_finer, not_above_finer, not_below_finer}

-- by whether it is not above, and not below
abbrev pub miss_by : Axis → Bool → Bool → Option Miss
miss_by axis a b = cond a (cond b None (Some (record { axis = axis; side = Below }))) (Some (record { axis = axis; side = Above }))

unfoldable pub side_of : Span → ℤ → Axis → Option Miss
side_of s limit axis = miss_by axis (le_z s.least limit) (le_z (neg_ℤ limit) s.greatest)

unfoldable pub miss_in : Kernel → Cell → ℕ → Axis → Option Miss
miss_in K w d axis = side_of (span_over K w) (pos (d * unit_of w)) axis

miss_finer : (s : ℕ) → 1 ≤ s → (w : Cell) (K : Kernel) (d : ℕ) (axis : Axis) → miss_in K (finer s w) d axis ≡ miss_in K w d axis
unfolding miss_in side_of
miss_finer s above w K d axis = ap₂ (miss_by axis) (not_above_finer s above w K d) (not_below_finer s above w K d)

-- on the three axes, over a cell
abbrev pub miss_over : Pair → Cell → Option Miss
miss_over p w = option_or (miss_in p.x w p.dx X) (option_or (miss_in p.y w p.dy Y) (miss_in p.z w p.dz Z))

-- the written descent counts in 2^20 parts
missed_at : (p : Pair) (k i : Three) → miss_over p (cell_of 20 k i) ≡ missed (asked p) k i
unfolding miss_in side_of over min_z max_z missed miss_on least greatest over_corners
missed_at p k i = refl

-- and a cell of any depth limit up to 20 says the same, where the box's depths are within it
module _ {d : ℕ} (deep : d ≤ 20) (p : Pair) (k i : Three) (h : Shallow d k) where
  miss_in_lem : (axis : Axis) → miss_in (on_axis p axis) (cell_of d k i) (apart_on p axis) axis ≡ miss_in (on_axis p axis) (cell_of 20 k i) (apart_on p axis) axis
  miss_in_lem axis =
      sym (miss_finer (times deep) (some_times deep) (cell_of d k i) (on_axis p axis) (apart_on p axis) axis) ∙ ap (λ (w : Cell). miss_in (on_axis p axis) w (apart_on p axis) axis) (sym (cell_finer deep k i h))

  pub missed_is : miss_over p (cell_of d k i) ≡ missed (asked p) k i
  missed_is = ap₂ option_or (miss_in_lem X) (ap₂ option_or (miss_in_lem Y) (miss_in_lem Z)) ∙ missed_at p k i
