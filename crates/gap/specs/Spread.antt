-- "the largest axis difference of F between its ends 0 and 1": along t what A, B, C change by, along u it is B, along v it is C.
use Rattle.std.specs.Prelude.{◌≡◌, List, [], ◌∷◌, ℤ, pos, ◌+ℤ◌, ◌-ℤ◌, ◌*ℤ◌}
use Rattle.std.proofs.Math.Path.{sym}
use Rattle.std.proofs.Common.{ap, ap₂, ◌∙◌, subst, arith, mul-le-mul, lit≤, pow_mono, SFits}
use Prim.Native.Nat.{ℕ, max, ◌-◌, ◌*◌, ◌≤◌}
use Rattle.std.proofs.Math.IntN.{nat_abs}
use Rattle.std.specs.Int.{w64}
use Rattle.whole.specs.Ring.{Ex, var, num, ◌:+◌, ◌:*◌, ◌:-◌}
use Rattle.whole.proofs.Ring.{ring}
use Rattle.whole.specs.Within.{Within, within_add, within_sub, within_mul, within_pos, within_more, fits}
use Rattle.rules.specs.declared.Parameter.{Parameter}
use Rattle.rules.specs.declared.Parameter.TheVariants.{InT, InU, InV}
use Rattle.rules.specs.declared.Axis.{Axis}
use Rattle.rules.specs.declared.Axis.TheVariants.{X, Y, Z}
use Rattle.rules.specs.Search.{largest, four_ways, spread, side}
use Rattle.kernel.specs.declared.Kernel.{Kernel}
use Rattle.kernel.specs.declared.Pair.{Pair}
use Rattle.kernel.specs.Kernel.{kern, asked, on_axis}
use Rattle.kernel.specs.Ranges.{Small, Ranged}
use Rattle.gap.specs.declared.span.Moment.{Moment}
use Rattle.gap.specs.Steps.{SmallMoment, number_within}

abbrev pub change_of : Kernel → Moment
change_of K = record { a = K.a1 -ℤ K.a0; b = K.b1 -ℤ K.b0; c = K.c1 -ℤ K.c0 }

abbrev pub step_of : ℤ → ℤ → Moment → ℤ
step_of u v m = m.a +ℤ u *ℤ m.b +ℤ v *ℤ m.c

abbrev pub sizes : ℤ → ℤ → ℤ → ℕ
sizes x y z = max (nat_abs x) (max (nat_abs y) (nat_abs z))

abbrev pub way_of : ℤ → ℤ → Moment → Moment → Moment → ℕ
way_of u v x y z = sizes (step_of u v x) (step_of u v y) (step_of u v z)

-- ---- one axis

abbrev kern_e : Ex → Ex → Ex → Ex
kern_e a b c = (num (pos 1) :- a) :* (num (pos 1) :* var 0 :+ b :* var 1 :+ c :* var 2) :+ a :* (num (pos 1) :* var 3 :+ b :* var 4 :+ c :* var 5)

abbrev zero : Ex
zero = num (pos 0)

abbrev one : Ex
one = num (pos 1)

pub along_t : (K : Kernel) (u v : ℤ) → kern K (pos 1) (pos 1) u v -ℤ kern K (pos 1) (pos 0) u v ≡ step_of u v (change_of K)
unfolding kern
along_t K u v =
    ring (K.a0 ∷ K.b0 ∷ K.c0 ∷ K.a1 ∷ K.b1 ∷ K.c1 ∷ u ∷ v ∷ [])
    (kern_e one (var 6) (var 7) :- kern_e zero (var 6) (var 7))
    ((var 3 :- var 0) :+ var 6 :* (var 4 :- var 1) :+ var 7 :* (var 5 :- var 2))
    tt

module _ (K : Kernel) (x : ℤ) where
  abbrev values : List ℤ
  values = K.a0 ∷ K.b0 ∷ K.c0 ∷ K.a1 ∷ K.b1 ∷ K.c1 ∷ x ∷ []

  pub along_u_start : kern K (pos 1) (pos 0) (pos 1) x -ℤ kern K (pos 1) (pos 0) (pos 0) x ≡ K.b0
  unfolding kern
  along_u_start = ring values (kern_e zero one (var 6) :- kern_e zero zero (var 6)) (var 1) tt

  pub along_u_end : kern K (pos 1) (pos 1) (pos 1) x -ℤ kern K (pos 1) (pos 1) (pos 0) x ≡ K.b1
  unfolding kern
  along_u_end = ring values (kern_e one one (var 6) :- kern_e one zero (var 6)) (var 4) tt

  pub along_v_start : kern K (pos 1) (pos 0) x (pos 1) -ℤ kern K (pos 1) (pos 0) x (pos 0) ≡ K.c0
  unfolding kern
  along_v_start = ring values (kern_e zero (var 6) one :- kern_e zero (var 6) zero) (var 2) tt

  pub along_v_end : kern K (pos 1) (pos 1) x (pos 1) -ℤ kern K (pos 1) (pos 1) x (pos 0) ≡ K.c1
  unfolding kern
  along_v_end = ring values (kern_e one (var 6) one :- kern_e one (var 6) zero) (var 5) tt

-- ---- what the steps are within

abbrev pub spread_most : ℕ
spread_most = 6_442_450_944

abbrev pub change_most : ℕ
change_most = 2_147_483_648

-- the six numbers of an axis, whatever the limits are
pub record Numbers (K : Kernel) : Type 0 where
  pub a0 : Within 1_073_741_824 K.a0
  pub b0 : Within 1_073_741_824 K.b0
  pub c0 : Within 1_073_741_824 K.c0
  pub a1 : Within 1_073_741_824 K.a1
  pub b1 : Within 1_073_741_824 K.b1
  pub c1 : Within 1_073_741_824 K.c1

pub numbers : {q : ℕ} {K : Kernel} → Small q K → Numbers K
numbers s =
    let h = s.held in
    record {
      a0 = number_within h s.a0;
      b0 = number_within h s.b0;
      c0 = number_within h s.c0;
      a1 = number_within h s.a1;
      b1 = number_within h s.b1;
      c1 = number_within h s.c1;
    }

pub change_small : {K : Kernel} → Numbers K → SmallMoment change_most (change_of K)
change_small s = record { a = within_sub s.a1 s.a0; b = within_sub s.b1 s.b0; c = within_sub s.c1 s.c0 }

pub record StepFits (u v : ℤ) (m : Moment) : Type 0 where
  pub start : SmallMoment change_most m
  pub b : SFits w64 (u *ℤ m.b)
  pub c : SFits w64 (v *ℤ m.c)
  pub ab : SFits w64 (m.a +ℤ u *ℤ m.b)
  pub abc : SFits w64 (step_of u v m)

module _ {u v : ℤ} {m : Moment} (hu : Within 1 u) (hv : Within 1 v) (s : SmallMoment change_most m) where
  pub step_within : Within spread_most (step_of u v m)
  step_within = within_add (within_add s.a (within_mul hu s.b)) (within_mul hv s.c)

  pub step_fits : StepFits u v m
  step_fits =
      record {
        start = s;
        b = fits tt (within_mul hu s.b);
        c = fits tt (within_mul hv s.c);
        ab = fits tt (within_add s.a (within_mul hu s.b));
        abc = fits tt step_within;
      }

-- the ends 0 and 1
pub none : Within 1 (pos 0)
none = within_more (lit≤ tt) (within_pos 0)

pub full : Within 1 (pos 1)
full = within_pos 1

max_most : {x y n : ℕ} → x ≤ n → y ≤ n → max x y ≤ n
max_most h g = omega arith

sizes_most : {n : ℕ} {x y z : ℤ} → Within n x → Within n y → Within n z → sizes x y z ≤ n
sizes_most f g h = max_most f.most (max_most g.most h.most)

-- ---- all three axes

-- the sizes of what each axis gives
abbrev over_axes : (Axis → ℤ) → ℕ
over_axes f = sizes (f X) (f Y) (f Z)

same_sizes : (f g : Axis → ℤ) → ((axis : Axis) → f axis ≡ g axis) → over_axes f ≡ over_axes g
same_sizes f g e = ap₂ max (ap nat_abs (e X)) (ap₂ max (ap nat_abs (e Y)) (ap nat_abs (e Z)))

same_ends : (x y : ℕ) → max (max x x) (max y y) ≡ max x y
same_ends x y = omega arith

module _ (p : Pair) where
  abbrev way : ℕ → ℕ → ℕ
  way u v = way_of (pos u) (pos v) (change_of p.x) (change_of p.y) (change_of p.z)

  pub spread_t : max (max (way 0 0) (way 0 1)) (max (way 1 0) (way 1 1)) ≡ spread (asked p) InT
  unfolding spread
  spread_t = sym (ap₂ max (ap₂ max (one_way 0 0) (one_way 0 1)) (ap₂ max (one_way 1 0) (one_way 1 1)))
    where
      one_way : (u v : ℕ) → largest (λ axis. nat_abs ((asked p).gap axis 1 1 u v -ℤ (asked p).gap axis 1 0 u v)) ≡ way u v
      one_way u v =
          same_sizes
          (λ axis. kern (on_axis p axis) (pos 1) (pos 1) (pos u) (pos v) -ℤ kern (on_axis p axis) (pos 1) (pos 0) (pos u) (pos v))
          (λ axis. step_of (pos u) (pos v) (change_of (on_axis p axis)))
          (λ axis. along_t (on_axis p axis) (pos u) (pos v))

  -- along u and v the change is one number at the start and one at the end
  ends_only : (f : ℕ → ℕ → Axis → ℤ) (start end : Axis → ℤ) → ((x : ℕ) (axis : Axis) → f 0 x axis ≡ start axis) → ((x : ℕ) (axis : Axis) → f 1 x axis ≡ end axis)
      → max (over_axes start) (over_axes end) ≡ four_ways (λ a x. over_axes (f a x))
  ends_only f start end s e =
      sym
      (ap₂ max (ap₂ max (same_sizes (f 0 0) start (s 0)) (same_sizes (f 0 1) start (s 1))) (ap₂ max (same_sizes (f 1 0) end (e 0)) (same_sizes (f 1 1) end (e 1)))
      ∙ same_ends (over_axes start) (over_axes end))

  pub spread_u : max (sizes p.x.b0 p.y.b0 p.z.b0) (sizes p.x.b1 p.y.b1 p.z.b1) ≡ spread (asked p) InU
  unfolding spread
  spread_u =
      ends_only (λ a v axis. (asked p).gap axis 1 a 1 v -ℤ (asked p).gap axis 1 a 0 v) (λ axis. (on_axis p axis).b0) (λ axis. (on_axis p axis).b1)
      (λ v axis. along_u_start (on_axis p axis) (pos v))
      (λ v axis. along_u_end (on_axis p axis) (pos v))

  pub spread_v : max (sizes p.x.c0 p.y.c0 p.z.c0) (sizes p.x.c1 p.y.c1 p.z.c1) ≡ spread (asked p) InV
  unfolding spread
  spread_v =
      ends_only (λ a u axis. (asked p).gap axis 1 a u 1 -ℤ (asked p).gap axis 1 a u 0) (λ axis. (on_axis p axis).c0) (λ axis. (on_axis p axis).c1)
      (λ u axis. along_v_start (on_axis p axis) (pos u))
      (λ u axis. along_v_end (on_axis p axis) (pos u))

pub wide : {x : ℤ} → Within 1_073_741_824 x → Within spread_most x
wide h = within_more (lit≤ tt) h

pub spread_most_lem : {p : Pair} → Ranged p → (m : Parameter) → spread (asked p) m ≤ spread_most
spread_most_lem {p} r InT = subst (λ (n : ℕ). n ≤ spread_most) (spread_t p) (max_most (max_most (most none none) (most none full)) (max_most (most full none) (most full full)))
  where
    most : {u v : ℤ} → Within 1 u → Within 1 v → way_of u v (change_of p.x) (change_of p.y) (change_of p.z) ≤ spread_most
    most hu hv = sizes_most (step_within hu hv (change_small (numbers r.x))) (step_within hu hv (change_small (numbers r.y))) (step_within hu hv (change_small (numbers r.z)))
spread_most_lem {p} r InU =
    subst (λ (n : ℕ). n ≤ spread_most) (spread_u p)
    (max_most (sizes_most (wide (numbers r.x).b0) (wide (numbers r.y).b0) (wide (numbers r.z).b0)) (sizes_most (wide (numbers r.x).b1) (wide (numbers r.y).b1) (wide (numbers r.z).b1)))
spread_most_lem {p} r InV =
    subst (λ (n : ℕ). n ≤ spread_most) (spread_v p)
    (max_most (sizes_most (wide (numbers r.x).c0) (wide (numbers r.y).c0) (wide (numbers r.z).c0)) (sizes_most (wide (numbers r.x).c1) (wide (numbers r.y).c1) (wide (numbers r.z).c1)))

-- a spread at a depth fits
pub weight_most : {n : ℕ} (k : ℕ) → n ≤ spread_most → n * side k ≤ spread_most * 1_048_576
weight_most k h = mul-le-mul h (pow_mono {i = 20 - k} {j = 20} (omega arith))
