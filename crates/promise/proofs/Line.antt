-- The affine lemma: between its two ends a straight line stays on the side of a number on which both ends are.
use mathlib.Core.Path.{◌≡◌, sym, subst, subst₂}
use mathlib.Core.Logic.{⊎_elim}
use mathlib.Core.List.{[], ◌∷◌}
use Prim.Native.Nat.{ℕ, ◌+◌, ◌-◌, ◌≤◌, ◌<◌}
use native.Mathlib.Omega.{arith}
use lib.IntN.{ℤ, pos, ◌+ℤ◌, ◌*ℤ◌, *ℤ_comm}
use lib.Signed.{◌≤ℤ◌, <ℤ_irrefl}
use Rattle.whole.specs.Ring.{var, ◌:+◌, ◌:*◌}
use Rattle.whole.proofs.Ring.{ring}
use Rattle.whole.specs.View.{zed}
use Rattle.whole.specs.Order.{≤ℤ_or-<, ≤ℤ-<ℤ_trans, +ℤ_mono, *ℤ_mono, *ℤ_strict}

-- ---- a factor that is a natural number, on the left
pub ≤ℤ_times : (n : ℕ) {x y : ℤ} → x ≤ℤ y → (pos n *ℤ x) ≤ℤ (pos n *ℤ y)
≤ℤ_times n {x} {y} h = subst₂ (λ (a b : ℤ). a ≤ℤ b) (*ℤ_comm x (pos n)) (*ℤ_comm y (pos n)) (*ℤ_mono x y (pos n) (omega zed) h)

pub ≤ℤ_cancel : (n : ℕ) → 0 < n → {x y : ℤ} → (pos n *ℤ x) ≤ℤ (pos n *ℤ y) → x ≤ℤ y
≤ℤ_cancel n p {x} {y} h =
    ⊎_elim (λ g. g)
    (λ g. absurd (<ℤ_irrefl (≤ℤ-<ℤ_trans (subst₂ (λ (a b : ℤ). a ≤ℤ b) (*ℤ_comm (pos n) x) (*ℤ_comm (pos n) y) h) (*ℤ_strict y x (pos n) (omega zed) g))))
    (≤ℤ_or-< x y)

-- ---- a straight line

-- f at d of the d + e steps from one end to the other
abbrev pub Straight : (ℕ → ℤ) → Type 0
Straight f = (l d e : ℕ) → pos (d + e) *ℤ f (l + d) ≡ pos e *ℤ f l +ℤ pos d *ℤ f (l + (d + e))

-- what holds at both ends of a straight line holds on it
abbrev pub Convex : (ℤ → Type 0) → Type 0
Convex P = (d e : ℕ) (g0 g1 g : ℤ) → 0 < d + e → pos (d + e) *ℤ g ≡ pos e *ℤ g0 +ℤ pos d *ℤ g1 → P g0 → P g1 → P g

apart : (d e : ℕ) (m : ℤ) → pos (d + e) *ℤ m ≡ pos e *ℤ m +ℤ pos d *ℤ m
apart d e m = ring (pos d ∷ pos e ∷ m ∷ []) ((var 0 :+ var 1) :* var 2) (var 1 :* var 2 :+ var 0 :* var 2) tt

pub at_least : (m : ℤ) → Convex (λ g. m ≤ℤ g)
at_least m d e g0 g1 g p line h0 h1 =
    ≤ℤ_cancel (d + e) p (subst₂ (λ (a b : ℤ). a ≤ℤ b) (sym (apart d e m)) (sym line) (+ℤ_mono (≤ℤ_times e h0) (≤ℤ_times d h1)))

pub at_most : (m : ℤ) → Convex (λ g. g ≤ℤ m)
at_most m d e g0 g1 g p line h0 h1 =
    ≤ℤ_cancel (d + e) p (subst₂ (λ (a b : ℤ). a ≤ℤ b) (sym line) (sym (apart d e m)) (+ℤ_mono (≤ℤ_times e h0) (≤ℤ_times d h1)))

-- from l to h, at x between them
pub on_line : {P : ℤ → Type 0} → Convex P → (f : ℕ → ℤ) → Straight f → (l x h : ℕ) → l ≤ x → x ≤ h → l < h → P (f l) → P (f h) → P (f x)
on_line {P} convex f straight l x h lx xh lh p0 p1 =
    subst (λ (n : ℕ). P (f n)) (up l x lx)
    (convex (x - l) (h - x) (f l) (f (l + ((x - l) + (h - x)))) (f (l + (x - l))) (some l x h lx xh lh) (straight l (x - l) (h - x)) p0
    (subst (λ (n : ℕ). P (f n)) (sym (to_end l x h lx xh)) p1))
  where
    up : (l x : ℕ) → l ≤ x → l + (x - l) ≡ x
    up l x h₁ = omega arith

    to_end : (l x h : ℕ) → l ≤ x → x ≤ h → l + ((x - l) + (h - x)) ≡ h
    to_end l x h h₁ h₂ = omega arith

    some : (l x h : ℕ) → l ≤ x → x ≤ h → l < h → 0 < (x - l) + (h - x)
    some l x h h₁ h₂ h₃ = omega arith
