-- All queries' coordinates are right exactly where the bodies' are: every corner is in some query.
-- Assumes nothing.
use Prim.Native.Nat.{ℕ, zero, suc, ◌+◌, ◌*◌, ◌/◌, ◌%◌, ◌<◌}
use Rattle.std.specs.Prelude.{◌≡◌, refl, Bool, true, false, cond, ◌&&◌, List, [], ◌∷◌, ℤ, pos, length, get_or, eqb, ltb}
use Rattle.std.proofs.Common.{subst, arith}
use Rattle.std.proofs.Math.Bool.{and-eq-true_iff}
use Rattle.rules.specs.declared.Terms.{Terms}
use Rattle.rules.specs.declared.Ask.{Ask}
use Rattle.rules.specs.Numbers.{limits_of, is_coordinate}
use Rattle.rules.specs.Refusals.{every}
use Rattle.rules.specs.Bodies.{Body, Asked, xyz, corner_of, corner_place, four_of, ask_of, queries_of}
use Rattle.refusals.specs.Accepted.{zero_in}
use Rattle.refusals.specs.Every.{every_at}
use Rattle.bodies.specs.OnePass.{all_right}
use Rattle.triangles.specs.Members.{ask_at, All, member, all_of}

abbrev pub Right : ℕ → List ℤ → Type 0
Right d s = every (is_coordinate (limits_of d)) s ≡ true

-- a body's coordinates are right
pub record RightBody (d : ℕ) (m : Body) : Type 0 where
  pub start : Right d m.start
  pub end : Right d m.end

also : (f t : Bool) → f ≡ true → t ≡ true → (f && t) ≡ true
also f t e g = (and-eq-true_iff f t).1 (e, g)

-- ---- from the bodies to the queries

xyz_right : (d : ℕ) (s : List ℤ) (at : ℕ) (rest : List ℤ) → Right d s → Right d rest → Right d (xyz s at rest)
unfolding every
xyz_right d s at rest h g =
    let one = every_at (is_coordinate (limits_of d)) s h (zero_in (eqb d 3)) in
    also _ _ (one at) (also _ _ (one (at + 1)) (also _ _ (one (at + 2)) g))

corner_right : (d : ℕ) (a b : List ℤ) (i j n : ℕ) (rest : List ℤ) → Right d a → Right d b → Right d rest → Right d (corner_of a b i j n rest)
corner_right d a b i j n rest ha hb g = xyz_right d (cond (ltb n 3) a b) (corner_place i j n) rest (either (ltb n 3)) g
  where
    either : (t : Bool) → Right d (cond t a b)
    either true = ha
    either false = hb

four_right : (d : ℕ) (a b : List ℤ) (i j : ℕ) (k : Ask) (rest : List ℤ) → Right d a → Right d b → Right d rest → Right d (four_of a b i j k rest)
four_right d a b i j k rest ha hb g =
    corner_right d a b i j k.p _ ha hb (corner_right d a b i j k.q _ ha hb (corner_right d a b i j k.r _ ha hb (corner_right d a b i j k.s rest ha hb g)))

abbrev pub RightAsk : Asked → Type 0
RightAsk q = Right q.ask.edition q.ask.points

pub queries_right : (w : Terms) (a b : Body) → RightBody w.edition a → RightBody w.edition b → All RightAsk (queries_of w a b)
unfolding ask_of every
queries_right w a b ha hb =
    all_of RightAsk w a b (λ i j k _ _ _. four_right w.edition a.start b.start i j (ask_at k) (four_of a.end b.end i j (ask_at k) []) ha.start hb.start (four_right w.edition a.end b.end i j (ask_at k) [] ha.end hb.end refl))

-- ---- a list of queries

pub all_right_lem : (qs : List Asked) → All RightAsk qs → all_right qs ≡ true
unfolding All all_right
all_right_lem [] h = refl
all_right_lem (q ∷ qs) h = also _ _ h.0 (all_right_lem qs h.1)

pub right_all : (qs : List Asked) → all_right qs ≡ true → All RightAsk qs
unfolding All all_right
right_all [] e = tt
right_all (q ∷ qs) e = let h = (and-eq-true_iff (every (is_coordinate (limits_of q.ask.edition)) q.ask.points) (all_right qs)).0 e in (h.0, right_all qs h.1)

-- a list is right where each of its numbers is
pub right_from : (d : ℕ) (s : List ℤ) → ((m : ℕ) → m < length s → is_coordinate (limits_of d) (get_or s m (pos 0)) ≡ true) → Right d s
unfolding every
right_from d [] h = refl
right_from d (x ∷ s) h = also _ _ (h zero (omega arith)) (right_from d s (λ m l. h (suc m) (omega arith)))

-- ---- from the queries to the bodies

-- three numbers from a place on, and what stands after a corner
at_three : (d : ℕ) (s : List ℤ) (at : ℕ) (rest : List ℤ) → Right d (xyz s at rest) → (x : ℕ) → x < 3 → is_coordinate (limits_of d) (get_or s (at + x) (pos 0)) ≡ true
at_three d s at rest h zero l =
    let e : at ≡ at + zero = omega arith in
    subst (λ (y : ℕ). is_coordinate (limits_of d) (get_or s y (pos 0)) ≡ true) e (every_at (is_coordinate (limits_of d)) (xyz s at rest) h (zero_in (eqb d 3)) 0)
at_three d s at rest h (suc zero) l = every_at (is_coordinate (limits_of d)) (xyz s at rest) h (zero_in (eqb d 3)) 1
at_three d s at rest h (suc (suc zero)) l = every_at (is_coordinate (limits_of d)) (xyz s at rest) h (zero_in (eqb d 3)) 2
at_three d s at rest h (suc (suc (suc x))) l = absurd (omega arith)

after : (d : ℕ) (s : List ℤ) (at : ℕ) (rest : List ℤ) → Right d (xyz s at rest) → Right d rest
unfolding every
after d s at rest h =
    let one = ((and-eq-true_iff (is_coordinate (limits_of d) (get_or s at (pos 0))) _).0 h).1 in
    let two = ((and-eq-true_iff (is_coordinate (limits_of d) (get_or s (at + 1) (pos 0))) _).0 one).1 in
    ((and-eq-true_iff (is_coordinate (limits_of d) (get_or s (at + 2) (pos 0))) (every (is_coordinate (limits_of d)) rest)).0 two).1

after_four : (d : ℕ) (a b : List ℤ) (i j : ℕ) (k : Ask) (rest : List ℤ) → Right d (four_of a b i j k rest) → Right d rest
after_four d a b i j k rest h =
    one k.s rest (one k.r (corner_of a b i j k.s rest) (one k.q (corner_of a b i j k.r (corner_of a b i j k.s rest)) (one k.p (corner_of a b i j k.q (corner_of a b i j k.r (corner_of a b i j k.s rest))) h)))
  where
    one : (n : ℕ) (rest : List ℤ) → Right d (corner_of a b i j n rest) → Right d rest
    one n rest h = after d (cond (ltb n 3) a b) (corner_place i j n) rest h

module _ (w : Terms) (a b : Body) (h : All RightAsk (queries_of w a b)) (la : 0 < a.count) (lb : 0 < b.count) where
  -- query c of the pair i, 0 has corner c of A's triangle i first, at the start and at the end
  start_on_a : (i c x : ℕ) → i < a.count → c < 3 → x < 3 → is_coordinate (limits_of w.edition) (get_or a.start (9 * i + 3 * c + x) (pos 0)) ≡ true
  unfolding ask_of
  start_on_a i zero x l lc lx = at_three w.edition a.start (9 * i + 3 * 0) _ (member RightAsk w a b i 0 0 l lb (omega arith) h) x lx
  start_on_a i (suc zero) x l lc lx = at_three w.edition a.start (9 * i + 3 * 1) _ (member RightAsk w a b i 0 1 l lb (omega arith) h) x lx
  start_on_a i (suc (suc zero)) x l lc lx = at_three w.edition a.start (9 * i + 3 * 2) _ (member RightAsk w a b i 0 2 l lb (omega arith) h) x lx
  start_on_a i (suc (suc (suc c))) x l lc lx = absurd (omega arith)

  end_on_a : (i c x : ℕ) → i < a.count → c < 3 → x < 3 → is_coordinate (limits_of w.edition) (get_or a.end (9 * i + 3 * c + x) (pos 0)) ≡ true
  unfolding ask_of
  end_on_a i zero x l lc lx = at_three w.edition a.end (9 * i + 3 * 0) _ (after_four w.edition a.start b.start i 0 (ask_at 0) (four_of a.end b.end i 0 (ask_at 0) []) (member RightAsk w a b i 0 0 l lb (omega arith) h)) x lx
  end_on_a i (suc zero) x l lc lx = at_three w.edition a.end (9 * i + 3 * 1) _ (after_four w.edition a.start b.start i 0 (ask_at 1) (four_of a.end b.end i 0 (ask_at 1) []) (member RightAsk w a b i 0 1 l lb (omega arith) h)) x lx
  end_on_a i (suc (suc zero)) x l lc lx = at_three w.edition a.end (9 * i + 3 * 2) _ (after_four w.edition a.start b.start i 0 (ask_at 2) (four_of a.end b.end i 0 (ask_at 2) []) (member RightAsk w a b i 0 2 l lb (omega arith) h)) x lx
  end_on_a i (suc (suc (suc c))) x l lc lx = absurd (omega arith)

  -- query 3 + c of the pair 0, i has corner c of B's triangle i first
  start_on_b : (i c x : ℕ) → i < b.count → c < 3 → x < 3 → is_coordinate (limits_of w.edition) (get_or b.start (9 * i + 3 * c + x) (pos 0)) ≡ true
  unfolding ask_of
  start_on_b i zero x l lc lx = at_three w.edition b.start (9 * i + 3 * 0) _ (member RightAsk w a b 0 i 3 la l (omega arith) h) x lx
  start_on_b i (suc zero) x l lc lx = at_three w.edition b.start (9 * i + 3 * 1) _ (member RightAsk w a b 0 i 4 la l (omega arith) h) x lx
  start_on_b i (suc (suc zero)) x l lc lx = at_three w.edition b.start (9 * i + 3 * 2) _ (member RightAsk w a b 0 i 5 la l (omega arith) h) x lx
  start_on_b i (suc (suc (suc c))) x l lc lx = absurd (omega arith)

  end_on_b : (i c x : ℕ) → i < b.count → c < 3 → x < 3 → is_coordinate (limits_of w.edition) (get_or b.end (9 * i + 3 * c + x) (pos 0)) ≡ true
  unfolding ask_of
  end_on_b i zero x l lc lx = at_three w.edition b.end (9 * i + 3 * 0) _ (after_four w.edition a.start b.start 0 i (ask_at 3) (four_of a.end b.end 0 i (ask_at 3) []) (member RightAsk w a b 0 i 3 la l (omega arith) h)) x lx
  end_on_b i (suc zero) x l lc lx = at_three w.edition b.end (9 * i + 3 * 1) _ (after_four w.edition a.start b.start 0 i (ask_at 4) (four_of a.end b.end 0 i (ask_at 4) []) (member RightAsk w a b 0 i 4 la l (omega arith) h)) x lx
  end_on_b i (suc (suc zero)) x l lc lx = at_three w.edition b.end (9 * i + 3 * 2) _ (after_four w.edition a.start b.start 0 i (ask_at 5) (four_of a.end b.end 0 i (ask_at 5) []) (member RightAsk w a b 0 i 5 la l (omega arith) h)) x lx
  end_on_b i (suc (suc (suc c))) x l lc lx = absurd (omega arith)

  -- number m of a body's coordinates by triangle, corner and axis
  each : (n : ℕ) (s : List ℤ) → length s ≡ 9 * n → ((i c x : ℕ) → i < n → c < 3 → x < 3 → is_coordinate (limits_of w.edition) (get_or s (9 * i + 3 * c + x) (pos 0)) ≡ true) → Right w.edition s
  each n s e f =
      right_from w.edition s (λ m l.
      let at : 9 * (m / 9) + 3 * (m % 9 / 3) + m % 9 % 3 ≡ m = omega arith in
      subst (λ (y : ℕ). is_coordinate (limits_of w.edition) (get_or s y (pos 0)) ≡ true) at (f (m / 9) (m % 9 / 3) (m % 9 % 3) (omega (arith, e)) (omega arith) (omega arith)))

  pub body_a : length a.start ≡ 9 * a.count → length a.end ≡ 9 * a.count → RightBody w.edition a
  body_a s e = record { start = each a.count a.start s start_on_a; end = each a.count a.end e end_on_a }

  pub body_b : length b.start ≡ 9 * b.count → length b.end ≡ 9 * b.count → RightBody w.edition b
  body_b s e = record { start = each b.count b.start s start_on_b; end = each b.count b.end e end_on_b }
