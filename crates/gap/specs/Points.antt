-- The kernel of an axis as the code makes it, from the coordinates as they were read.
use Rattle.std.specs.Prelude.{◌≡◌, refl, Bool, true, false, cond, ◌&&◌, List, [], ◌∷◌, ℕ, zero, suc, ◌+◌, ℤ, pos, neg_ℤ, ◌-ℤ◌, get_or}
use Rattle.std.proofs.Common.{ap, ◌∙◌, arith}
use Rattle.whole.specs.Defs.{turned}
use Rattle.whole.specs.Within.{Within, within_neg, within_sub}
use Rattle.rules.specs.declared.Axis.{Axis}
use Rattle.rules.specs.declared.Axis.TheVariants.{X, Y, Z}
use Rattle.rules.specs.Gap.{place, is_second_y, negate_from}
use Rattle.kernel.specs.declared.Kernel.{Kernel}
use Rattle.kernel.specs.Kernel.{kernel_of}
use Rattle.kernel.specs.Ranges.{Held, Small}
use Rattle.gap.specs.declared.points.Four.{Four}
use Rattle.gap.specs.declared.span.Moment.{Moment}
use Rattle.gap.specs.Steps.{SmallMoment}

-- the coordinates are within a limit
abbrev pub Coordinates : ℕ → List ℤ → Type 0
Coordinates limit points = (i : ℕ) → Within limit (get_or points i (pos 0))

pub record Near (limit : ℕ) (f : Four) : Type 0 where
  pub p0 : Within limit f.p0
  pub p1 : Within limit f.p1
  pub p2 : Within limit f.p2
  pub p3 : Within limit f.p3

abbrev pub four_of : List ℤ → ℕ → Four
four_of points at =
    record { p0 = get_or points at (pos 0); p1 = get_or points (at + 3) (pos 0); p2 = get_or points (at + 6) (pos 0); p3 = get_or points (at + 9) (pos 0) }

abbrev pub sided_four : Bool → Bool → Four → Four
sided_four turn face f = record { p0 = f.p0; p1 = turned (turn && face) f.p1; p2 = turned turn f.p2; p3 = turned turn f.p3 }

abbrev pub end_of : Bool → Four → Moment
end_of true f = record { a = f.p0 -ℤ f.p1; b = f.p1 -ℤ f.p2; c = f.p1 -ℤ f.p3 }
end_of false f = record { a = f.p0 -ℤ f.p2; b = f.p1 -ℤ f.p0; c = f.p2 -ℤ f.p3 }

abbrev pub kernel_by : Four → Four → Bool → Bool → Kernel
kernel_by f g turn face = both (end_of face (sided_four turn face f)) (end_of face (sided_four turn face g))
  where
    both : Moment → Moment → Kernel
    both s e = record { a0 = s.a; b0 = s.b; c0 = s.c; a1 = e.a; b1 = e.b; c1 = e.c }

abbrev pub kernel_at : List ℤ → ℕ → Bool → Bool → Kernel
kernel_at points at = kernel_by (four_of points at) (four_of points (at + 12))

-- ---- it is the written one

-- "y of every point of the second body is negated"
abbrev pub is_y : Axis → Bool
is_y X = false
is_y Y = true
is_y Z = false

negate_at : (picked : ℕ → Bool) (j i : ℕ) (l : List ℤ) → get_or (negate_from picked j l) i (pos 0) ≡ cond (picked (j + i)) (neg_ℤ (get_or l i (pos 0))) (get_or l i (pos 0))
unfolding negate_from
negate_at picked j i [] = nothing (picked (j + i))
  where
    nothing : (b : Bool) → pos 0 ≡ cond b (neg_ℤ (pos 0)) (pos 0)
    nothing true = refl
    nothing false = refl
negate_at picked j zero (z ∷ l) = let e : j ≡ j + 0 = omega arith in ap (λ (k : ℕ). cond (picked k) (neg_ℤ z) z) e
negate_at picked j (suc i) (z ∷ l) =
    let e : j + 1 + i ≡ j + suc i = omega arith in
    negate_at picked (j + 1) i l ∙ ap (λ (k : ℕ). cond (picked k) (neg_ℤ (get_or l i (pos 0))) (get_or l i (pos 0))) e

pub kernel_at_is : (flag face : Bool) (points : List ℤ) (axis : Axis)
    → kernel_at points (place axis) (is_y axis && flag) face ≡ kernel_of face (cond flag (negate_from (is_second_y face) 0 points) points) axis
unfolding kernel_of
kernel_at_is false true points X = refl
kernel_at_is false true points Y = refl
kernel_at_is false true points Z = refl
kernel_at_is false false points X = refl
kernel_at_is false false points Y = refl
kernel_at_is false false points Z = refl
kernel_at_is true true points X = simp negate_at
kernel_at_is true true points Y = simp negate_at
kernel_at_is true true points Z = simp negate_at
kernel_at_is true false points X = simp negate_at
kernel_at_is true false points Y = simp negate_at
kernel_at_is true false points Z = simp negate_at

-- ---- it is in range

turned_within : {M : ℕ} {z : ℤ} (turn : Bool) → Within M z → Within M (turned turn z)
turned_within true h = within_neg h
turned_within false h = h

pub four_near : {C : ℕ} (points : List ℤ) → Coordinates C points → (at : ℕ) → Near C (four_of points at)
four_near points h at = record { p0 = h at; p1 = h (at + 3); p2 = h (at + 6); p3 = h (at + 9) }

end_small : {C : ℕ} (face : Bool) {f : Four} → Near C f → SmallMoment (C + C) (end_of face f)
end_small true n = record { a = within_sub n.p0 n.p1; b = within_sub n.p1 n.p2; c = within_sub n.p1 n.p3 }
end_small false n = record { a = within_sub n.p0 n.p2; b = within_sub n.p1 n.p0; c = within_sub n.p2 n.p3 }

sided_near : {C : ℕ} (turn face : Bool) {f : Four} → Near C f → Near C (sided_four turn face f)
sided_near turn face n = record { p0 = n.p0; p1 = turned_within (turn && face) n.p1; p2 = turned_within turn n.p2; p3 = turned_within turn n.p3 }

pub kernel_by_small : {C q : ℕ} {f g : Four} → Held C q → Near C f → Near C g → (turn face : Bool) → Small q (kernel_by f g turn face)
kernel_by_small {C} held n m turn face =
    let s = end_small face (sided_near turn face n) in
    let e = end_small face (sided_near turn face m) in
    record { coordinate = C; held = held; a0 = s.a; b0 = s.b; c0 = s.c; a1 = e.a; b1 = e.b; c1 = e.c }

pub kernel_small : {C q : ℕ} (points : List ℤ) → Held C q → Coordinates C points → (at : ℕ) (turn face : Bool) → Small q (kernel_at points at turn face)
kernel_small points held h at = kernel_by_small held (four_near points h at) (four_near points h (at + 12))
