-- A cell counted in finer parts answers the same: F times parts·parts, a unit and a separation all grow by the same factor.
use Rattle.std.specs.Prelude.{◌≡◌, refl, Bool, true, false, leb, ℤ, pos, neg_ℤ, nat_abs, ◌+ℤ◌, ◌-ℤ◌, ◌*ℤ◌}
use Rattle.std.proofs.Common.{sym, ap, ◌∙◌, arith, add-mul, mul_comm, mul-le-mul_right, mul-lt-mul_of_pos_right, mul-pos, le-leb, leb-true, leb-false, pow-add, pow_pos}
use Rattle.std.proofs.Math.Path.{ap₂}
use Rattle.std.proofs.Math.Bool.{◌&&◌}
use Prim.Native.Nat.{ℕ, ◌+◌, ◌*◌, ◌-◌, ◌/◌, ◌^◌, ◌≤◌, ◌<◌, max}
use Rattle.std.proofs.Math.Nat.{mul-sub, mul-add-div_right, div-div-eq-div-mul, div-eq_of_lt, max-eq_left, max-eq_right}
use Rattle.std.proofs.lemmas.Bool.{lt-leb}
use Rattle.std.proofs.Math.IntN.{*ℤ_comm}
use Rattle.std.specs.Int.Signed.{le_z}
use Rattle.whole.specs.Defs.{min_z, max_z}
use Rattle.whole.specs.Laws.{distr, neg_mul}
use Rattle.whole.specs.Order.{scale_test, min_scale, max_scale}
use Rattle.whole.specs.Within.{abs_mul}
use Rattle.rules.specs.declared.Three.{Three}
use Rattle.rules.specs.declared.Axis.{Axis}
use Rattle.rules.specs.declared.Axis.TheVariants.{X, Y, Z}
use Rattle.rules.specs.Search.{largest}
use Rattle.kernel.specs.declared.Kernel.{Kernel}
use Rattle.kernel.specs.declared.Pair.{Pair}
use Rattle.kernel.specs.Kernel.{on_axis, apart_on}
use Rattle.kernel.specs.Lines.{kern_scale}
use Rattle.kernel.specs.Ranges.{Shallow}
use Rattle.gap.specs.declared.cell.Cell.{Cell}
use Rattle.gap.specs.Corners.{value, over, unit_of, meets, beyond, round_up_by, excess_of, is_narrow, low_in, cell_of}

abbrev pub finer : ℕ → Cell → Cell
finer s w = record { parts = s * w.parts; t0 = s * w.t0; t1 = s * w.t1; u0 = s * w.u0; u1 = s * w.u1; v0 = s * w.v0; v1 = s * w.v1 }

-- ---- numbers

leb_scale : (s m n : ℕ) → 0 < s → leb (m * s) (n * s) ≡ leb m n
leb_scale s m n h = go (leb m n) refl
  where
    go : (b : Bool) → leb m n ≡ b → leb (m * s) (n * s) ≡ b
    go true e = le-leb (m * s) (n * s) (mul-le-mul_right s (leb-true m n e))
    go false e = lt-leb (m * s) (n * s) (mul-lt-mul_of_pos_right (leb-false m n e) h)

module _ (K : Kernel) (s : ℕ) where
  value_finer : (q t u v : ℕ) → value (s * q) K (s * t) (s * u) (s * v) ≡ value q K t u v *ℤ pos (s * s)
  value_finer q t u v = kern_scale K (pos s) (pos q) (pos t) (pos u) (pos v) ∙ *ℤ_comm (pos s *ℤ pos s) (value q K t u v)

  module _ (pick : ℤ → ℤ → ℤ) (scale : (x y : ℤ) → pick (x *ℤ pos (s * s)) (y *ℤ pos (s * s)) ≡ pick x y *ℤ pos (s * s)) (w : Cell) where
    four : (t : ℕ)
        → pick (pick (value (s * w.parts) K (s * t) (s * w.u0) (s * w.v0)) (value (s * w.parts) K (s * t) (s * w.u0) (s * w.v1)))
        (pick (value (s * w.parts) K (s * t) (s * w.u1) (s * w.v0)) (value (s * w.parts) K (s * t) (s * w.u1) (s * w.v1)))
        ≡ pick (pick (value w.parts K t w.u0 w.v0) (value w.parts K t w.u0 w.v1)) (pick (value w.parts K t w.u1 w.v0) (value w.parts K t w.u1 w.v1))
        *ℤ pos (s * s)
    four t =
        ap₂ pick
        (ap₂ pick (value_finer w.parts t w.u0 w.v0) (value_finer w.parts t w.u0 w.v1) ∙ scale _ _)
        (ap₂ pick (value_finer w.parts t w.u1 w.v0) (value_finer w.parts t w.u1 w.v1) ∙ scale _ _)
        ∙ scale _ _

    over_finer : over pick K (finer s w) ≡ over pick K w *ℤ pos (s * s)
    unfolding over
    over_finer = ap₂ pick (four w.t0) (four w.t1) ∙ scale _ _

-- ---- the questions

module _ (s : ℕ) (above : 0 < s) (w : Cell) where
  squared : 0 < s * s
  squared = mul-pos above above

  unit_finer : (d : ℕ) → d * unit_of (finer s w) ≡ d * unit_of w * (s * s)
  unit_finer d = omega arith

  one_finer : unit_of (finer s w) ≡ unit_of w * (s * s)
  one_finer = omega arith

  least_finer : (K : Kernel) → over min_z K (finer s w) ≡ over min_z K w *ℤ pos (s * s)
  least_finer K = over_finer K s min_z (min_scale (s * s) squared) w

  greatest_finer : (K : Kernel) → over max_z K (finer s w) ≡ over max_z K w *ℤ pos (s * s)
  greatest_finer K = over_finer K s max_z (max_scale (s * s) squared) w

  -- a separation in units
  units_finer : (d : ℕ) → pos (d * unit_of (finer s w)) ≡ pos (d * unit_of w) *ℤ pos (s * s)
  units_finer d = ap pos (unit_finer d)

  pub not_above_finer : (K : Kernel) (d : ℕ) → le_z (over min_z K (finer s w)) (pos (d * unit_of (finer s w))) ≡ le_z (over min_z K w) (pos (d * unit_of w))
  not_above_finer K d = ap₂ le_z (least_finer K) (units_finer d) ∙ scale_test (s * s) squared (over min_z K w) (pos (d * unit_of w))

  pub not_below_finer : (K : Kernel) (d : ℕ) → le_z (neg_ℤ (pos (d * unit_of (finer s w)))) (over max_z K (finer s w)) ≡ le_z (neg_ℤ (pos (d * unit_of w))) (over max_z K w)
  not_below_finer K d =
      ap₂ le_z (ap neg_ℤ (units_finer d) ∙ sym (neg_mul (pos (d * unit_of w)) (pos (s * s)))) (greatest_finer K) ∙ scale_test (s * s) squared (neg_ℤ (pos (d * unit_of w))) (over max_z K w)

  pub meets_finer : (K : Kernel) (d : ℕ) → meets K (finer s w) d ≡ meets K w d
  unfolding meets
  meets_finer K d = ap₂ ◌&&◌ (not_above_finer K d) (not_below_finer K d)

  pub narrow_finer : (K : Kernel) (t : ℕ) → is_narrow K (finer s w) t ≡ is_narrow K w t
  narrow_finer K t =
      let x = over max_z K w in
      let y = over min_z K w in
      let e : over max_z K (finer s w) -ℤ over min_z K (finer s w) ≡ (x -ℤ y) *ℤ pos (s * s) =
      ap₂ ◌-ℤ◌ (greatest_finer K) (least_finer K) ∙ ap (λ (z : ℤ). x *ℤ pos (s * s) +ℤ z) (sym (neg_mul y (pos (s * s)))) ∙ sym (distr x (neg_ℤ y) (pos (s * s))) in
      ap₂ leb (ap nat_abs e ∙ abs_mul (x -ℤ y) (pos (s * s))) (unit_finer t) ∙ leb_scale (s * s) (nat_abs (x -ℤ y)) (t * unit_of w) squared

  less : (a b n : ℕ) → a * n - b * n ≡ (a - b) * n
  less a b n = omega (arith, mul-sub n a b)

  beyond_finer : (K : Kernel) (d : ℕ) → beyond K (finer s w) d ≡ beyond K w d * (s * s)
  beyond_finer K d =
      let z = value w.parts K w.t0 w.u0 w.v0 in
      ap₂ ◌-◌ (ap nat_abs (value_finer K s w.parts w.t0 w.u0 w.v0) ∙ abs_mul z (pos (s * s))) (unit_finer d) ∙ less (nat_abs z) (d * unit_of w) (s * s)

  max_finer : (a b n : ℕ) → max (a * n) (b * n) ≡ max a b * n
  max_finer a b n = go (leb a b) refl
    where
      go : (c : Bool) → leb a b ≡ c → max (a * n) (b * n) ≡ max a b * n
      go true e = max-eq_right (mul-le-mul_right n (leb-true a b e)) ∙ ap (λ (m : ℕ). m * n) (sym (max-eq_right (leb-true a b e)))
      go false e =
          let h : b ≤ a = omega (arith, leb-false a b e) in
          max-eq_left (mul-le-mul_right n h) ∙ ap (λ (m : ℕ). m * n) (sym (max-eq_left h))

  round_finer : (u n : ℕ) → 0 < u → round_up_by (u * (s * s)) (n * (s * s)) ≡ round_up_by u n
  round_finer u n h =
      let S : ℕ = s * s in
      ap (λ (x : ℕ). x / (u * S)) (top S squared)
      ∙ ap (λ (x : ℕ). ((n + (u - 1)) * S + (S - 1)) / x) (mul_comm u S)
      ∙ sym (div-div-eq-div-mul ((n + (u - 1)) * S + (S - 1)) S u)
      ∙ ap (λ (x : ℕ). x / u) (mul-add-div_right squared (n + (u - 1)) (S - 1) ∙ last S squared)
    where
      top : (S : ℕ) → 0 < S → n * S + (u * S - 1) ≡ (n + (u - 1)) * S + (S - 1)
      top S g = omega (arith, mul-sub S u 1, mul-le-mul_right S h, add-mul n (u - 1) S)

      last : (S : ℕ) → 0 < S → n + (u - 1) + (S - 1) / S ≡ n + (u - 1)
      last S g = let e : (S - 1) / S ≡ 0 = div-eq_of_lt (omega arith) in omega arith

  pub excess_finer : (p : Pair) → 0 < w.parts → excess_of p (finer s w) ≡ excess_of p w
  unfolding excess_of
  excess_finer p h =
      let b : Axis → ℕ = λ axis. beyond (on_axis p axis) w (apart_on p axis) in
      ap₂ round_up_by one_finer
      (ap₂ max (beyond_finer p.x p.dx) (ap₂ max (beyond_finer p.y p.dy) (beyond_finer p.z p.dz) ∙ max_finer (b Y) (b Z) (s * s)) ∙ max_finer (b X) (max (b Y) (b Z)) (s * s))
      ∙ round_finer (unit_of w) (largest b) (mul-pos h h)

-- ---- a box's cell at the definitions' depth limit is that at another, in finer parts

module _ {d : ℕ} (deep : d ≤ 20) where
  abbrev pub times : ℕ
  times = 2 ^ (20 - d)

  low_finer : (k i : ℕ) → k ≤ d → low_in 20 k i ≡ times * low_in d k i
  low_finer k i h =
      let e : 20 - k ≡ (20 - d) + (d - k) = omega arith in
      let f = ap (λ (n : ℕ). 2 ^ n) e ∙ pow-add 2 (20 - d) (d - k) in
      ap (λ (n : ℕ). i * n) f ∙ swap i times (2 ^ (d - k))
    where
      swap : (i a b : ℕ) → i * (a * b) ≡ a * (i * b)
      swap i a b = omega arith

  pub cell_finer : (k i : Three) → Shallow d k → cell_of 20 k i ≡ finer times (cell_of d k i)
  cell_finer k i h =
      let e : 20 ≡ (20 - d) + d = omega arith in
      let parts : 2 ^ 20 ≡ times * 2 ^ d = ap (λ (n : ℕ). 2 ^ n) e ∙ pow-add 2 (20 - d) d in
      let t0 = low_finer k.t i.t h.t in
      let t1 = low_finer k.t (i.t + 1) h.t in
      let u0 = low_finer k.u i.u h.u in
      let u1 = low_finer k.u (i.u + 1) h.u in
      let v0 = low_finer k.v i.v h.v in
      let v1 = low_finer k.v (i.v + 1) h.v in
      λ j. record { parts = parts j; t0 = t0 j; t1 = t1 j; u0 = u0 j; u1 = u1 j; v0 = v0 j; v1 = v1 j }

  pub some_times : 0 < times
  some_times = pow_pos (20 - d)
