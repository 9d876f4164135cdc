-- The box lemma: in a closed box F is at least the least, and at most the greatest, of its values at the eight corners; at a place over any denominator.
use mathlib.Core.Path.{◌≡◌, sym, ap, ◌∙◌, subst, subst⁻¹}
use mathlib.Core.Bool.{Bool, true, false}
use Prim.Native.Nat.{ℕ, ◌*◌, ◌-◌, ◌≤◌, ◌<◌}
use native.Mathlib.Nat.{mul_comm, mul-lt-mul_of_pos_right, mul-lt-mul_of_pos_left}
use native.Mathlib.Omega.{arith}
use lib.Pow.{pow_pos}
use lib.IntN.{ℤ, pos, ◌*ℤ◌}
use Rattle.rules.specs.Numbers.{parts}
use Rattle.rules.specs.declared.Axis.{Axis}
use Rattle.rules.specs.Gap.{Place}
use Rattle.rules.specs.Search.{Query, Box, Depths, low, high, unit, ends, over_corners}
use Rattle.kernel.specs.declared.Kernel.{Kernel}
use Rattle.kernel.specs.Kernel.{kern}
use Rattle.kernel.specs.Lines.{kern_scale, line_t, line_u, line_v}
pub use Rattle.promise.specs.Why.{Between, In}
use Rattle.promise.proofs.Line.{Convex, on_line}
use Rattle.promise.proofs.Side.{Side}

-- ---- straight in each of three numbers

-- an interval by its two ends, and a number in it
pub record Span : Type 0 where
  pub end : Bool → ℕ
  pub here : ℕ
  pub above : end false ≤ here
  pub under : here ≤ end true
  pub wide : end false < end true

module _ (K : Kernel) (q : ℤ) {P : ℤ → Type 0} (convex : Convex P) (t u v : Span) where
  abbrev at : ℕ → ℕ → ℕ → Type 0
  at a b c = P (kern K q (pos a) (pos b) (pos c))

  in_box : ((x y z : Bool) → at (t.end x) (u.end y) (v.end z)) → at t.here u.here v.here
  in_box corner = in_t (λ x. in_u x (λ y. in_v x y (λ z. corner x y z)))
    where
      in_v : (x y : Bool) → ((z : Bool) → at (t.end x) (u.end y) (v.end z)) → at (t.end x) (u.end y) v.here
      in_v x y g =
          on_line convex (λ c. kern K q (pos (t.end x)) (pos (u.end y)) (pos c)) (λ l d e. line_v K q d e (pos (t.end x)) (pos (u.end y)) (pos l))
          (v.end false) v.here (v.end true) v.above v.under v.wide (g false) (g true)

      in_u : (x : Bool) → ((y : Bool) → at (t.end x) (u.end y) v.here) → at (t.end x) u.here v.here
      in_u x g =
          on_line convex (λ b. kern K q (pos (t.end x)) (pos b) (pos v.here)) (λ l d e. line_u K q d e (pos (t.end x)) (pos l) (pos v.here))
          (u.end false) u.here (u.end true) u.above u.under u.wide (g false) (g true)

      in_t : ((x : Bool) → at (t.end x) u.here v.here) → at t.here u.here v.here
      in_t g =
          on_line convex (λ a. kern K q (pos a) (pos u.here) (pos v.here)) (λ l d e. line_t K q d e (pos l) (pos u.here) (pos v.here))
          (t.end false) t.here (t.end true) t.above t.under t.wide (g false) (g true)

abbrev pub cell_end : Bool → ℕ → ℕ → ℕ
cell_end false = low
cell_end true = high

span : (q k i a : ℕ) → 0 < q → Between q k i a → Span
span q k i a h w =
    record {
      end = λ x. q * cell_end x k i;
      here = parts * a;
      above = w.above;
      under = w.under;
      wide = mul-lt-mul_of_pos_left (mul-lt-mul_of_pos_right (omega arith) (pow_pos (20 - k))) h;
    }

-- ---- the least and the greatest bound each corner's value
module _ (s : Side) where
  ends_bound : (k i : ℕ) (f : ℕ → ℤ) (x : Bool) → s.bounds (ends s.pick k i f) (f (cell_end x k i))
  ends_bound k i f false = s.first (f (low k i)) (f (high k i))
  ends_bound k i f true = s.second (f (low k i)) (f (high k i))

  module _ (S : Query) (k : Depths) (box : Box) (axis : Axis) (x y z : Bool) where
    abbrev pub corner_value : ℤ
    corner_value = S.gap axis parts (cell_end x k.t box.t) (cell_end y k.u box.u) (cell_end z k.v box.v)

    pub corner_bound : s.bounds (over_corners s.pick S k box axis) corner_value
    unfolding over_corners
    corner_bound =
        s.trans (ends_bound k.t box.t (λ a. ends s.pick k.u box.u (λ b. ends s.pick k.v box.v (λ c. S.gap axis parts a b c))) x)
        (s.trans (ends_bound k.u box.u (λ b. ends s.pick k.v box.v (λ c. S.gap axis parts (cell_end x k.t box.t) b c)) y)
        (ends_bound k.v box.v (λ c. S.gap axis parts (cell_end x k.t box.t) (cell_end y k.u box.u) c) z))

-- ---- and so the value at each place of the box

-- F has the form of a kernel on each axis
pub record HasKernel (S : Query) : Type 0 where
  pub kernel : Axis → Kernel
  pub same : (axis : Axis) (q a b c : ℕ) → S.gap axis q a b c ≡ kern (kernel axis) (pos q) (pos a) (pos b) (pos c)

module _ (S : Query) (H : HasKernel S) (k : Depths) (box : Box) (m : Place) (h : 0 < m.q) (w : In k box m) (axis : Axis) where
  abbrev K : Kernel
  K = H.kernel axis

  abbrev pub value_at : ℤ
  value_at = S.gap axis m.q m.a m.b m.c

  -- the common denominator is q · parts
  at_place : kern K (pos (m.q * parts)) (pos (parts * m.a)) (pos (parts * m.b)) (pos (parts * m.c)) ≡ pos unit *ℤ value_at
  at_place =
      ap (λ (n : ℕ). kern K (pos n) (pos (parts * m.a)) (pos (parts * m.b)) (pos (parts * m.c))) (mul_comm m.q parts)
      ∙ kern_scale K (pos parts) (pos m.q) (pos m.a) (pos m.b) (pos m.c)
      ∙ ap (λ x. pos unit *ℤ x) (sym (H.same axis m.q m.a m.b m.c))

  at_corner : (a b c : ℕ) → kern K (pos (m.q * parts)) (pos (m.q * a)) (pos (m.q * b)) (pos (m.q * c)) ≡ pos (m.q * m.q) *ℤ S.gap axis parts a b c
  at_corner a b c =
      kern_scale K (pos m.q) (pos parts) (pos a) (pos b) (pos c) ∙ ap (λ x. pos (m.q * m.q) *ℤ x) (sym (H.same axis parts a b c))

  pub box_bound : (s : Side) → s.bounds (pos (m.q * m.q) *ℤ over_corners s.pick S k box axis) (pos unit *ℤ value_at)
  unfolding span
  box_bound s =
      subst (s.bounds bound) at_place
      (in_box K (pos (m.q * parts)) (s.convex bound) (span m.q k.t box.t m.a h w.t) (span m.q k.u box.u m.b h w.u) (span m.q k.v box.v m.c h w.v)
      (λ x y z. subst⁻¹ (s.bounds bound) (at_corner (cell_end x k.t box.t) (cell_end y k.u box.u) (cell_end z k.v box.v)) (s.times (m.q * m.q) (corner_bound s S k box axis x y z))))
    where
      bound : ℤ
      bound = pos (m.q * m.q) *ℤ over_corners s.pick S k box axis
