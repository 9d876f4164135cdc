-- What a triangle reaches over the step on each axis: over its parallelogram, the fourth corner too, since the level 0 box of a face reaches it (document 02, R-9).
--     reach_over   it is what the rules have for the triangle by itself
-- Assumes nothing.
use Rattle.std.specs.Prelude.{◌≡◌, List, [], ◌∷◌, ℕ, ◌+◌, ◌*◌, ◌≤◌, ℤ, pos, ◌+ℤ◌, ◌-ℤ◌, length, get_or}
use Rattle.std.proofs.Common.{sym, ap, ap₂, ◌∙◌}
use Rattle.whole.specs.Defs.{min_z, max_z}
use Rattle.whole.specs.Order.{min_add, max_add}
use Rattle.whole.specs.Ring.{var, num, ◌:+◌, ◌:-◌}
use Rattle.whole.proofs.Ring.{ring}
use Rattle.rules.specs.declared.Axis.{Axis}
use Rattle.rules.specs.declared.Axis.TheVariants.{X, Y, Z}
use Rattle.rules.specs.Gap.{place}
use Rattle.rules.specs.Search.{lesser, greater}
use Rattle.rules.specs.Bodies.{Body}
use Rattle.rules.specs.Bounds.{over_triangle}
use Rattle.kernel.specs.declared.Kernel.{Kernel}
use Rattle.gap.specs.declared.span.Span.{Span}
use Rattle.gap.specs.Cube.{cube_of, cube_most}
use Rattle.gap.specs.Steps.{SmallSpan}
use Rattle.bounds.specs.declared.reach.Reach.{Reach}
use Rattle.bounds.specs.declared.Body.{Body as LentBody}

abbrev pub body : ℕ → List ℤ → List ℤ → Body
body n start end = record { count = n; start = start; end = end }

-- one that is lent
abbrev pub body_of : LentBody → Body
body_of m = body m.count m.start.now m.end.now

-- ---- a triangle on an axis

-- as a kernel of its own, from the coordinate at a place: its cube is what the triangle reaches over both moments
abbrev pub triangle_at : List ℤ → List ℤ → ℕ → Kernel
triangle_at s e at =
    record {
      a0 = get_or s at (pos 0) -ℤ pos 0;
      b0 = get_or s (at + 3) (pos 0) -ℤ get_or s at (pos 0);
      c0 = get_or s (at + 6) (pos 0) -ℤ get_or s at (pos 0);
      a1 = get_or e at (pos 0) -ℤ pos 0;
      b1 = get_or e (at + 3) (pos 0) -ℤ get_or e at (pos 0);
      c1 = get_or e (at + 6) (pos 0) -ℤ get_or e at (pos 0);
    }

abbrev pub reach_at : List ℤ → List ℤ → ℕ → Span
reach_at s e at = cube_of (triangle_at s e at)

-- a sum goes through the pick, as through the least and the greatest
module _ (pick : ℤ → ℤ → ℤ) (add : (x y z : ℤ) → pick (x +ℤ y) (x +ℤ z) ≡ x +ℤ pick y z) where
  over_face_lem : (x y z : ℤ) → (x -ℤ pos 0) +ℤ pick (pos 0) (y -ℤ x) +ℤ pick (pos 0) (z -ℤ x) ≡ pick (pick x y) (pick z (y +ℤ z -ℤ x))
  over_face_lem x y z =
      let o = num (pos 0) in
      let a = x -ℤ pos 0 in
      let c = z -ℤ x in
      let l = x ∷ y ∷ z ∷ [] in
      let near : a +ℤ pick (pos 0) (y -ℤ x) ≡ pick x y = sym (add a (pos 0) (y -ℤ x)) ∙ ap₂ pick (ring l ((var 0 :- o) :+ o) (var 0) tt) (ring l ((var 0 :- o) :+ (var 1 :- var 0)) (var 1) tt) in
      let far : pick x y +ℤ c ≡ pick z (y +ℤ z -ℤ x) =
      ring (pick x y ∷ c ∷ []) (var 0 :+ var 1) (var 1 :+ var 0) tt ∙ sym (add c x y) ∙ ap₂ pick (ring l ((var 2 :- var 0) :+ var 0) (var 2) tt) (ring l ((var 2 :- var 0) :+ var 1) (var 1 :+ var 2 :- var 0) tt) in
      ap (λ (v : ℤ). v +ℤ pick (pos 0) c) near
      ∙ sym (add (pick x y) (pos 0) c)
      ∙ ap₂ pick (ring (pick x y ∷ []) (var 0 :+ o) (var 0) tt) far

pub reach_over : (s e : List ℤ) (axis : Axis) (i : ℕ) → reach_at s e (9 * i + place axis) ≡ record { least = over_triangle lesser s e axis i; greatest = over_triangle greater s e axis i }
unfolding min_z max_z
reach_over s e axis i =
    let at = 9 * i + place axis in
    λ k.
    record {
      least = min_z (over_face_lem min_z min_add (x s at) (y s at) (z s at) k) (over_face_lem min_z min_add (x e at) (y e at) (z e at) k);
      greatest = max_z (over_face_lem max_z max_add (x s at) (y s at) (z s at) k) (over_face_lem max_z max_add (x e at) (y e at) (z e at) k);
    }
  where
    x : List ℤ → ℕ → ℤ
    x l at = get_or l at (pos 0)

    y : List ℤ → ℕ → ℤ
    y l at = get_or l (at + 3) (pos 0)

    z : List ℤ → ℕ → ℤ
    z l at = get_or l (at + 6) (pos 0)

-- ---- on each axis

-- triangle i is there at both moments
abbrev pub HasTriangle : List ℤ → List ℤ → ℕ → Type 0
HasTriangle s e i = (9 * i + 9 ≤ length s) × (9 * i + 9 ≤ length e)

abbrev pub on_reach : Reach → Axis → Span
on_reach r X = r.x
on_reach r Y = r.y
on_reach r Z = r.z

pub record WideReach (r : Reach) : Type 0 where
  pub x : SmallSpan cube_most r.x
  pub y : SmallSpan cube_most r.y
  pub z : SmallSpan cube_most r.z

pub record ReachIs (s e : List ℤ) (i : ℕ) (r : Reach) : Type 0 where
  pub is : (axis : Axis) → on_reach r axis ≡ reach_at s e (9 * i + place axis)
  pub wide : WideReach r

pub reach_is : {s e : List ℤ} {i : ℕ} {r : Reach} → r.x ≡ reach_at s e (9 * i + 0) → r.y ≡ reach_at s e (9 * i + 1) → r.z ≡ reach_at s e (9 * i + 2) → WideReach r → ReachIs s e i r
reach_is {s} {e} {i} {r} x y z wide = record { is = each; wide = wide }
  where
    each : (axis : Axis) → on_reach r axis ≡ reach_at s e (9 * i + place axis)
    each X = x
    each Y = y
    each Z = z
