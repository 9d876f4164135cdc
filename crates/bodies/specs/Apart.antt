-- Two triangles that are further apart on an axis than the separation: every one of their fifteen queries misses over the whole cube.
-- A triangle reaches over its parallelogram, the fourth corner too, since the level 0 box of a face reaches it (document 02, R-9).
use Rattle.std.specs.Prelude.{◌≡◌, refl, false, cond, List, [], ◌∷◌, ℕ, zero, suc, ◌+◌, ◌*◌, ◌<◌, ℤ, pos, ◌-ℤ◌, get_or, ltb}
use Rattle.std.proofs.Common.{sym, ap, ◌∙◌, subst, arith}
use Rattle.whole.specs.Ring.{var, num, ◌:-◌}
use Rattle.whole.proofs.Ring.{ring}
use Rattle.rules.specs.declared.Record.{Record}
use Rattle.rules.specs.declared.Terms.{Terms}
use Rattle.rules.specs.declared.Ask.{Ask}
use Rattle.rules.specs.declared.Axis.{Axis}
use Rattle.rules.specs.declared.Axis.TheVariants.{X, Y, Z}
use Rattle.rules.specs.Gap.{place}
use Rattle.rules.specs.Bodies.{face, edges, corner_place, ask_of}
use Rattle.kernel.specs.declared.Kernel.{Kernel}
use Rattle.gap.specs.declared.span.Span.{Span}
use Rattle.gap.specs.Corners.{meets}
use Rattle.gap.specs.Cube.{square_of, whole_cube}
use Rattle.gap.specs.Prepared.{axis_of}
use Rattle.triangles.specs.Members.{ask_at}
use Rattle.bounds.specs.declared.reach.Reach.{Reach}
use Rattle.bounds.specs.Reach.{triangle_at, reach_at, on_reach, ReachIs}
use Rattle.bodies.specs.Walk.{positions}
use Rattle.bodies.specs.Between.{In, Holds, Further, triangle_holds, holds_first, holds_second, face_between, edges_between, both_between, misses, turned}

-- ---- a triangle of a body on an axis

first_is : (x : ℤ) → x -ℤ pos 0 ≡ x
first_is x = ring (x ∷ []) (var 0 :- num (pos 0)) (var 0) tt

start_holds : (s e : List ℤ) (at : ℕ) → Holds (reach_at s e at) (get_or s at (pos 0)) (get_or s (at + 3) (pos 0)) (get_or s (at + 6) (pos 0))
start_holds s e at =
    holds_first (square_of (triangle_at s e at).a0 (triangle_at s e at).b0 (triangle_at s e at).c0) (square_of (triangle_at s e at).a1 (triangle_at s e at).b1 (triangle_at s e at).c1)
    (subst (λ (x : ℤ). Holds (square_of x (triangle_at s e at).b0 (triangle_at s e at).c0) (get_or s at (pos 0)) (get_or s (at + 3) (pos 0)) (get_or s (at + 6) (pos 0))) (sym (first_is (get_or s at (pos 0))))
    (triangle_holds (get_or s at (pos 0)) (get_or s (at + 3) (pos 0)) (get_or s (at + 6) (pos 0))))

end_holds : (s e : List ℤ) (at : ℕ) → Holds (reach_at s e at) (get_or e at (pos 0)) (get_or e (at + 3) (pos 0)) (get_or e (at + 6) (pos 0))
end_holds s e at =
    holds_second (square_of (triangle_at s e at).a0 (triangle_at s e at).b0 (triangle_at s e at).c0) (square_of (triangle_at s e at).a1 (triangle_at s e at).b1 (triangle_at s e at).c1)
    (subst (λ (x : ℤ). Holds (square_of x (triangle_at s e at).b1 (triangle_at s e at).c1) (get_or e at (pos 0)) (get_or e (at + 3) (pos 0)) (get_or e (at + 6) (pos 0))) (sym (first_is (get_or e at (pos 0))))
    (triangle_holds (get_or e at (pos 0)) (get_or e (at + 3) (pos 0)) (get_or e (at + 6) (pos 0))))

abbrev pub separation_in : Terms → Axis → ℕ
separation_in w X = w.dx
separation_in w Y = w.dy
separation_in w Z = w.dz

-- apart on some axis
pub data Distant (w : Terms) (a0 a1 b0 b1 : List ℤ) (i j : ℕ) : Type 0 where
  distant : (axis : Axis) → Further (reach_at a0 a1 (9 * i + place axis)) (reach_at b0 b1 (9 * j + place axis)) (separation_in w axis) → Distant w a0 a1 b0 b1 i j

-- the same by the reach of A's triangle
pub data DistantFrom (w : Terms) (r : Reach) (b0 b1 : List ℤ) (j : ℕ) : Type 0 where
  distant_from : (axis : Axis) → Further (on_reach r axis) (reach_at b0 b1 (9 * j + place axis)) (separation_in w axis) → DistantFrom w r b0 b1 j

pub by_reach : {w : Terms} {a0 a1 b0 b1 : List ℤ} {i j : ℕ} {r : Reach} → ReachIs a0 a1 i r → DistantFrom w r b0 b1 j → Distant w a0 a1 b0 b1 i j
by_reach {w} {a0} {a1} {b0} {b1} {i} {j} h (distant_from axis f) = distant axis (subst (λ (P : Span). Further P (reach_at b0 b1 (9 * j + place axis)) (separation_in w axis)) (h.is axis) f)

-- ---- the fifteen queries

-- where a corner's coordinate on an axis stands
abbrev off : Axis → ℕ → ℕ
off X at = at
off Y at = at + 1
off Z at = at + 2

module _ (w : Terms) (a0 a1 b0 b1 : List ℤ) (i j : ℕ) (axis : Axis) where
  abbrev pub ask : Ask → Record
  ask k = ask_of w (positions a0 a1) (positions b0 b1) i j k

  abbrev S : ℕ → ℤ
  S n = get_or (cond (ltb n 3) a0 b0) (off axis (corner_place i j n)) (pos 0)

  abbrev E : ℕ → ℤ
  E n = get_or (cond (ltb n 3) a1 b1) (off axis (corner_place i j n)) (pos 0)

  abbrev A : Span
  A = reach_at a0 a1 (9 * i + place axis)

  abbrev B : Span
  B = reach_at b0 b1 (9 * j + place axis)

  -- the corners are within the triangles' spans
  pub record Corners : Type 0 where
    pub a_start : Holds A (S 0) (S 1) (S 2)
    pub a_end : Holds A (E 0) (E 1) (E 2)
    pub b_start : Holds B (S 3) (S 4) (S 5)
    pub b_end : Holds B (E 3) (E 4) (E 5)

face_kernel : (w : Terms) (a0 a1 b0 b1 : List ℤ) (i j : ℕ) (axis : Axis) (p q r s : ℕ)
    → axis_of (ask w a0 a1 b0 b1 i j axis (face p q r s)) axis
    ≡ record {
      a0 = S w a0 a1 b0 b1 i j axis p -ℤ S w a0 a1 b0 b1 i j axis q;
      b0 = S w a0 a1 b0 b1 i j axis q -ℤ S w a0 a1 b0 b1 i j axis r;
      c0 = S w a0 a1 b0 b1 i j axis q -ℤ S w a0 a1 b0 b1 i j axis s;
      a1 = E w a0 a1 b0 b1 i j axis p -ℤ E w a0 a1 b0 b1 i j axis q;
      b1 = E w a0 a1 b0 b1 i j axis q -ℤ E w a0 a1 b0 b1 i j axis r;
      c1 = E w a0 a1 b0 b1 i j axis q -ℤ E w a0 a1 b0 b1 i j axis s;
    }
unfolding ask_of
face_kernel w a0 a1 b0 b1 i j X p q r s = refl
face_kernel w a0 a1 b0 b1 i j Y p q r s = refl
face_kernel w a0 a1 b0 b1 i j Z p q r s = refl

edges_kernel : (w : Terms) (a0 a1 b0 b1 : List ℤ) (i j : ℕ) (axis : Axis) (p q r s : ℕ)
    → axis_of (ask w a0 a1 b0 b1 i j axis (edges p q r s)) axis
    ≡ record {
      a0 = S w a0 a1 b0 b1 i j axis p -ℤ S w a0 a1 b0 b1 i j axis r;
      b0 = S w a0 a1 b0 b1 i j axis q -ℤ S w a0 a1 b0 b1 i j axis p;
      c0 = S w a0 a1 b0 b1 i j axis r -ℤ S w a0 a1 b0 b1 i j axis s;
      a1 = E w a0 a1 b0 b1 i j axis p -ℤ E w a0 a1 b0 b1 i j axis r;
      b1 = E w a0 a1 b0 b1 i j axis q -ℤ E w a0 a1 b0 b1 i j axis p;
      c1 = E w a0 a1 b0 b1 i j axis r -ℤ E w a0 a1 b0 b1 i j axis s;
    }
unfolding ask_of
edges_kernel w a0 a1 b0 b1 i j X p q r s = refl
edges_kernel w a0 a1 b0 b1 i j Y p q r s = refl
edges_kernel w a0 a1 b0 b1 i j Z p q r s = refl

module _ (w : Terms) (a0 a1 b0 b1 : List ℤ) (i j : ℕ) (axis : Axis) (h : Corners w a0 a1 b0 b1 i j axis) (d : ℕ) where
  abbrev St : ℕ → ℤ
  St = S w a0 a1 b0 b1 i j axis

  abbrev En : ℕ → ℤ
  En = E w a0 a1 b0 b1 i j axis

  abbrev SA : Span
  SA = A w a0 a1 b0 b1 i j axis

  abbrev SB : Span
  SB = B w a0 a1 b0 b1 i j axis

  abbrev pub Misses : Ask → Type 0
  Misses k = meets (axis_of (ask w a0 a1 b0 b1 i j axis k) axis) whole_cube d ≡ false

  face_misses : (P Q : Span) (p q r s : ℕ) → In P (St p) → In P (En p) → Holds Q (St q) (St r) (St s) → Holds Q (En q) (En r) (En s) → Further P Q d → Misses (face p q r s)
  face_misses P Q p q r s f g hs he far =
      ap (λ (K : Kernel). meets K whole_cube d) (face_kernel w a0 a1 b0 b1 i j axis p q r s)
      ∙ misses P Q _ d
      (both_between P Q (square_of (St p -ℤ St q) (St q -ℤ St r) (St q -ℤ St s)) (square_of (En p -ℤ En q) (En q -ℤ En r) (En q -ℤ En s))
      (face_between P Q (St p) (St q) (St r) (St s) f hs) (face_between P Q (En p) (En q) (En r) (En s) g he)) far

  edges_miss : (p q r s : ℕ) → In SA (St p) → In SA (St q) → In SB (St r) → In SB (St s) → In SA (En p) → In SA (En q) → In SB (En r) → In SB (En s) → Further SA SB d → Misses (edges p q r s)
  edges_miss p q r s f1 f2 f3 f4 g1 g2 g3 g4 far =
      ap (λ (K : Kernel). meets K whole_cube d) (edges_kernel w a0 a1 b0 b1 i j axis p q r s)
      ∙ misses SA SB _ d
      (both_between SA SB (square_of (St p -ℤ St r) (St q -ℤ St p) (St r -ℤ St s)) (square_of (En p -ℤ En r) (En q -ℤ En p) (En r -ℤ En s))
      (edges_between SA SB (St p) (St q) (St r) (St s) f1 f2 f3 f4) (edges_between SA SB (En p) (En q) (En r) (En s) g1 g2 g3 g4)) far

  abbrev sa : Holds SA (St 0) (St 1) (St 2)
  sa = h.a_start

  abbrev ea : Holds SA (En 0) (En 1) (En 2)
  ea = h.a_end

  abbrev sb : Holds SB (St 3) (St 4) (St 5)
  sb = h.b_start

  abbrev eb : Holds SB (En 3) (En 4) (En 5)
  eb = h.b_end

  pub all_miss : Further SA SB d → (k : ℕ) → k < 15 → Misses (ask_at k)
  all_miss f zero l = face_misses SA SB 0 3 4 5 sa.one ea.one sb eb f
  all_miss f (suc zero) l = face_misses SA SB 1 3 4 5 sa.two ea.two sb eb f
  all_miss f (suc (suc zero)) l = face_misses SA SB 2 3 4 5 sa.three ea.three sb eb f
  all_miss f (suc (suc (suc zero))) l = face_misses SB SA 3 0 1 2 sb.one eb.one sa ea (turned f)
  all_miss f (suc (suc (suc (suc zero)))) l = face_misses SB SA 4 0 1 2 sb.two eb.two sa ea (turned f)
  all_miss f (suc (suc (suc (suc (suc zero))))) l = face_misses SB SA 5 0 1 2 sb.three eb.three sa ea (turned f)
  all_miss f (suc (suc (suc (suc (suc (suc zero)))))) l = edges_miss 0 1 3 4 sa.one sa.two sb.one sb.two ea.one ea.two eb.one eb.two f
  all_miss f (suc (suc (suc (suc (suc (suc (suc zero))))))) l = edges_miss 0 1 4 5 sa.one sa.two sb.two sb.three ea.one ea.two eb.two eb.three f
  all_miss f (suc (suc (suc (suc (suc (suc (suc (suc zero)))))))) l = edges_miss 0 1 5 3 sa.one sa.two sb.three sb.one ea.one ea.two eb.three eb.one f
  all_miss f (suc (suc (suc (suc (suc (suc (suc (suc (suc zero))))))))) l = edges_miss 1 2 3 4 sa.two sa.three sb.one sb.two ea.two ea.three eb.one eb.two f
  all_miss f (suc (suc (suc (suc (suc (suc (suc (suc (suc (suc zero)))))))))) l = edges_miss 1 2 4 5 sa.two sa.three sb.two sb.three ea.two ea.three eb.two eb.three f
  all_miss f (suc (suc (suc (suc (suc (suc (suc (suc (suc (suc (suc zero))))))))))) l = edges_miss 1 2 5 3 sa.two sa.three sb.three sb.one ea.two ea.three eb.three eb.one f
  all_miss f (suc (suc (suc (suc (suc (suc (suc (suc (suc (suc (suc (suc zero)))))))))))) l = edges_miss 2 0 3 4 sa.three sa.one sb.one sb.two ea.three ea.one eb.one eb.two f
  all_miss f (suc (suc (suc (suc (suc (suc (suc (suc (suc (suc (suc (suc (suc zero))))))))))))) l = edges_miss 2 0 4 5 sa.three sa.one sb.two sb.three ea.three ea.one eb.two eb.three f
  all_miss f (suc (suc (suc (suc (suc (suc (suc (suc (suc (suc (suc (suc (suc (suc zero)))))))))))))) l = edges_miss 2 0 5 3 sa.three sa.one sb.three sb.one ea.three ea.one eb.three eb.one f
  all_miss f (suc (suc (suc (suc (suc (suc (suc (suc (suc (suc (suc (suc (suc (suc (suc k))))))))))))))) l = absurd (omega arith)

-- ---- the corners of a pair are within what their triangles reach

holds_same : (s : Span) (x y z x' y' z' : ℤ) → x ≡ x' → y ≡ y' → z ≡ z' → Holds s x y z → Holds s x' y' z'
holds_same s x y z x' y' z' e f g h =
    subst (λ (v : ℤ). Holds s v y' z') e (subst (λ (v : ℤ). Holds s x v z') f (subst (λ (v : ℤ). Holds s x y v) g h))

-- a corner's place, from the first coordinate's
at_corner : (axis : Axis) (m n : ℕ) → 9 * m + place axis + 3 * n ≡ off axis (9 * m + 3 * n)
at_corner X m n = omega arith
at_corner Y m n = omega arith
at_corner Z m n = omega arith

same_at : (axis : Axis) (l : List ℤ) (m n x : ℕ) → x ≡ 9 * m + place axis + 3 * n → get_or l x (pos 0) ≡ get_or l (off axis (9 * m + 3 * n)) (pos 0)
same_at axis l m n x e = ap (λ (y : ℕ). get_or l y (pos 0)) (e ∙ at_corner axis m n)

moved : (axis : Axis) (l : List ℤ) (m : ℕ) (s : Span) → Holds s (get_or l (9 * m + place axis) (pos 0)) (get_or l (9 * m + place axis + 3) (pos 0)) (get_or l (9 * m + place axis + 6) (pos 0))
    → Holds s (get_or l (off axis (9 * m + 3 * 0)) (pos 0)) (get_or l (off axis (9 * m + 3 * 1)) (pos 0)) (get_or l (off axis (9 * m + 3 * 2)) (pos 0))
moved axis l m s h = holds_same s _ _ _ _ _ _ (same_at axis l m 0 _ (omega arith)) (same_at axis l m 1 _ (omega arith)) (same_at axis l m 2 _ (omega arith)) h

pub corners : (w : Terms) (a0 a1 b0 b1 : List ℤ) (i j : ℕ) (axis : Axis) → Corners w a0 a1 b0 b1 i j axis
corners w a0 a1 b0 b1 i j axis =
    record {
      a_start = moved axis a0 i (reach_at a0 a1 (9 * i + place axis)) (start_holds a0 a1 (9 * i + place axis));
      a_end = moved axis a1 i (reach_at a0 a1 (9 * i + place axis)) (end_holds a0 a1 (9 * i + place axis));
      b_start = moved axis b0 j (reach_at b0 b1 (9 * j + place axis)) (start_holds b0 b1 (9 * j + place axis));
      b_end = moved axis b1 j (reach_at b0 b1 (9 * j + place axis)) (end_holds b0 b1 (9 * j + place axis));
    }
