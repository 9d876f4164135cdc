-- The way down to a point: every box on it is of the grid and holds the point, the upper one on a boundary; and the box that is named is the first on it that does not survive.
use mathlib.Core.Path.{◌≡◌, refl, sym, ◌∙◌, subst}
use mathlib.Core.Bool.{Bool, true, false, not, cond, ◌&&◌}
use Prim.Native.Nat.{ℕ, zero, suc, ◌+◌, ◌*◌, ◌≤◌, ◌<◌}
use native.Mathlib.Nat.{le_trans, le_of_lt, mul-le-mul_left}
use native.Mathlib.Omega.{arith}
use lib.Dec.{T, eqb, eqb→eq, leb→le, nleb→lt}
use Rattle.std.specs.Prelude.{Option, Some, None}
use Rattle.rules.specs.declared.Three.{Three}
use Rattle.rules.specs.declared.Parameter.{Parameter}
use Rattle.rules.specs.declared.Parameter.TheVariants.{InT, InU, InV}
use Rattle.rules.specs.declared.Axis.{Axis}
use Rattle.rules.specs.declared.Miss.{Miss}
use Rattle.rules.specs.declared.Stop.{Stop}
use Rattle.rules.specs.declared.Reason.{Reason}
use Rattle.rules.specs.declared.Ruling.{Ruling}
use Rattle.rules.specs.declared.Ruling.TheVariants.{Discarded, Refused}
use Rattle.rules.specs.Numbers.{parts}
use Rattle.rules.specs.Gap.{place}
use Rattle.rules.specs.Search.{Query, Box, Depths, low, survives, full, split, on, deeper, low_half, high_half}
use Rattle.rules.specs.Why.{goes_up, holding, missed, whole_domain, half_of, name_or, descend}
use Rattle.promise.specs.Why.{In, pointed, down, Held, Holds, First}
use Rattle.promise.proofs.Split.{Shallow, at as of, split_open, deeper_shallow, sum, deeper_sum}
use Rattle.promise.proofs.Survive.{reaches}
use Rattle.promise.proofs.Halves.{double, high_double, twice}
use Rattle.promise.proofs.Why.Beyond.{Says, says, Before, before}

abbrev pub stop : Depths → Box → Stop
stop k b = record { depths = k; index = b }

-- ---- one parameter: the half of a cell that holds a number of parts
module _ (k i a : ℕ) (h : k < 20) (w : Held k i a) where
  held_up : low (k + 1) (2 * i + 1) ≤ a → Held (k + 1) (2 * i + 1) a
  held_up f =
      record {
        depth = omega arith;
        grid = omega (arith, w.grid, twice k);
        from = f;
        to = subst (λ (n : ℕ). a ≤ n) (high_double k i h) w.to;
        upper = λ e. w.upper (e ∙ sym (high_double k i h));
      }

  held_down : a < low (k + 1) (2 * i + 1) → Held (k + 1) (2 * i) a
  held_down f =
      record {
        depth = omega arith;
        grid = omega (arith, w.grid, twice k);
        from = subst (λ (n : ℕ). n ≤ a) (double k i h) w.from;
        to = le_of_lt f;
        upper = λ e. absurd (omega arith);
      }

module _ (at : Three) where
  -- ---- the half of a box
  holds_at : (p : Parameter) {k : Depths} {b : Box} → Holds at (stop k b) → Held (of p k) (of p b) (of p at)
  holds_at InT w = w.t
  holds_at InU w = w.u
  holds_at InV w = w.v

  holds_on : (p : Parameter) (f : ℕ → ℕ) {k : Depths} {b : Box} → Holds at (stop k b) → Held (of p k + 1) (f (of p b)) (of p at) → Holds at (stop (deeper p k) (on p f b))
  holds_on InT f w x = record { t = x; u = w.u; v = w.v }
  holds_on InU f w x = record { t = w.t; u = x; v = w.v }
  holds_on InV f w x = record { t = w.t; u = w.u; v = x }

  up_low : (p : Parameter) (k : Depths) (b : Box) → T (goes_up p k b at) → low (of p k + 1) (2 * of p b + 1) ≤ of p at
  unfolding goes_up
  up_low InT k b t = leb→le _ _ t
  up_low InU k b t = leb→le _ _ t
  up_low InV k b t = leb→le _ _ t

  down_low : (p : Parameter) (k : Depths) (b : Box) → T (not (goes_up p k b at)) → of p at < low (of p k + 1) (2 * of p b + 1)
  unfolding goes_up
  down_low InT k b t = nleb→lt _ _ t
  down_low InU k b t = nleb→lt _ _ t
  down_low InV k b t = nleb→lt _ _ t

  pub holding_holds : (p : Parameter) (k : Depths) (b : Box) → of p k < 20 → Holds at (stop k b) → Holds at (stop (deeper p k) (holding p k b at))
  unfolding holding
  holding_holds p k b h w = go (goes_up p k b at) (up_low p k b) (down_low p k b)
    where
      go : (c : Bool) → (T c → low (of p k + 1) (2 * of p b + 1) ≤ of p at) → (T (not c) → of p at < low (of p k + 1) (2 * of p b + 1))
          → Holds at (stop (deeper p k) (cond c (high_half p b) (low_half p b)))
      go true f g = holds_on p (λ i. 2 * i + 1) w (held_up (of p k) (of p b) (of p at) h (holds_at p w) (f tt))
      go false f g = holds_on p (λ i. 2 * i) w (held_down (of p k) (of p b) (of p at) h (holds_at p w) (g tt))

  -- such a box is a closed one that the point is in
  pub holds_in : {k : Depths} {b : Box} → Holds at (stop k b) → In k b (pointed at)
  holds_in w =
      record {
        t = record { above = mul-le-mul_left parts w.t.from; under = mul-le-mul_left parts w.t.to };
        u = record { above = mul-le-mul_left parts w.u.from; under = mul-le-mul_left parts w.u.to };
        v = record { above = mul-le-mul_left parts w.v.from; under = mul-le-mul_left parts w.v.to };
      }

  pub whole_holds : at.t ≤ parts → at.u ≤ parts → at.v ≤ parts → Holds at whole_domain
  whole_holds t u v = record { t = all t; u = all u; v = all v }
    where
      all : {a : ℕ} → a ≤ parts → Held 0 0 a
      all h = record { depth = omega arith; grid = omega arith; from = omega arith; to = omega arith; upper = λ e. omega arith }

  module _ (S : Query) where
    -- ---- every box on the way
    not_full : (k : Depths) → sum k < 3 * S.deepest → T (not (full S k))
    not_full k h = go (eqb k.t S.deepest) (eqb k.u S.deepest) (eqb k.v S.deepest) (eqb→eq _ _) (eqb→eq _ _) (eqb→eq _ _)
      where
        go : (x y z : Bool) → (T x → k.t ≡ S.deepest) → (T y → k.u ≡ S.deepest) → (T z → k.v ≡ S.deepest) → T (not (x && y && z))
        go true true true d e f = omega (arith, d tt, e tt, f tt)
        go true true false d e f = tt
        go true false z d e f = tt
        go false y z d e f = tt

    pub down_holds : (n : ℕ) (s : Stop) → S.deepest ≤ 20 → Shallow S s.depths → sum s.depths + n ≤ 3 * S.deepest → Holds at s → Holds at (down S at n s)
    unfolding down
    down_holds zero s deep h few w = w
    down_holds (suc n) s deep h few w =
        let k = s.depths in
        let p = split S k in
        let left = not_full k (omega arith) in
        let open' = split_open S k h left in
        down_holds n (half_of S at s) deep (deeper_shallow S k h left p open') (omega (arith, deeper_sum p k)) (holding_holds p k s.index (le_trans open' deep) w)

    -- ---- the named box is the first that does not survive; so many levels down at most
    pub record FirstFrom (most : ℕ) (s : Stop) (x : Reason) : Type 0 where
      pub steps : ℕ
      pub few : steps ≤ most
      pub there : down S at steps s ≡ stop x.depths x.index
      pub far : x.level ≡ sum s.depths + steps
      pub level : x.level ≡ sum x.depths
      pub survived : (n : ℕ) → n < steps → T (survives S (down S at n s).depths (down S at n s).index)
      pub axes : (axis : Axis) → place axis < place x.axis → T (reaches S x.depths x.index axis)

    abbrev FirstOf : ℕ → Stop → Ruling → Type 0
    FirstOf most s (Discarded x) = FirstFrom most s x
    FirstOf most s (Refused n) = Unit {0}

    here : (most : ℕ) (s : Stop) (m : Option Miss) (rest : Ruling) → Says S s.depths s.index m → Before S s.depths s.index m → (T (survives S s.depths s.index) → FirstOf most s rest) → FirstOf most s (name_or m s rest)
    unfolding down
    here most s None rest e b f = f e
    here most s (Some m) rest e b f =
        record { steps = 0; few = omega arith; there = refl; far = omega arith; level = refl; survived = λ n h. absurd (omega arith); axes = b }

    further : (most : ℕ) (s : Stop) (a : Ruling) → T (survives S s.depths s.index) → FirstOf most (half_of S at s) a → FirstOf (suc most) s a
    unfolding down
    further most s (Refused n) alive f = tt
    further most s (Discarded x) alive f =
        record {
          steps = suc f.steps;
          few = omega (arith, f.few);
          there = f.there;
          far = omega (arith, f.far, deeper_sum (split S s.depths) s.depths);
          level = f.level;
          survived = earlier;
          axes = f.axes;
        }
      where
        earlier : (n : ℕ) → n < suc f.steps → T (survives S (down S at n s).depths (down S at n s).index)
        earlier zero h = alive
        earlier (suc n) h = f.survived n (omega arith)

    first_of : (most : ℕ) (s : Stop) → FirstOf most s (descend most S at s)
    unfolding descend
    first_of zero s = here zero s (missed S s.depths s.index) (Refused 0) (says S s.depths s.index) (before S s.depths s.index) (λ alive. tt)
    first_of (suc most) s =
        here (suc most) s (missed S s.depths s.index) (descend most S at (half_of S at s)) (says S s.depths s.index) (before S s.depths s.index)
        (λ alive. further most s (descend most S at (half_of S at s)) alive (first_of most (half_of S at s)))

    -- from the whole domain
    pub named_first : (x : Reason) → S.deepest ≤ 20 → Holds at whole_domain → descend (3 * S.deepest) S at whole_domain ≡ Discarded x → First S at x
    unfolding reaches
    named_first x deep w e =
        record {
          level = f.level;
          on_the_way = subst (λ (n : ℕ). down S at n whole_domain ≡ stop x.depths x.index) (sym far) f.there;
          held = λ n h. down_holds n whole_domain deep (record { t = omega arith; u = omega arith; v = omega arith }) (omega (arith, far, f.few)) w;
          survived = λ n h. f.survived n (omega (arith, far));
          axes = f.axes;
        }
      where
        f : FirstFrom (3 * S.deepest) whole_domain x
        f = subst (FirstOf (3 * S.deepest) whole_domain) e (first_of (3 * S.deepest) whole_domain)

        far : x.level ≡ f.steps
        far = omega (arith, f.far)
