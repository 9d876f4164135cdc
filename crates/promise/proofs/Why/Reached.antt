-- Which boxes of a level are checked: where the answer's moment is after the point, every box of the level that begins no later than the point.
use mathlib.Core.Path.{◌≡◌, refl, sym, subst}
use mathlib.Core.Logic.{◌⊎◌, inl, inr}
use mathlib.Core.Bool.{Bool, true, false, not}
use mathlib.Core.List.{List, [], ◌∷◌}
use Prim.Native.Nat.{ℕ, suc, ◌+◌, ◌-◌, ◌≤◌}
use native.Mathlib.Nat.{le_trans, mul-le-mul_right}
use native.Mathlib.Omega.{arith}
use lib.ListN.{take}
use lib.Dec.{T, eqb, ltb, ltb→lt}
use Rattle.rules.specs.declared.Three.{Three}
use Rattle.rules.specs.declared.Corner.{Corner}
use Rattle.rules.specs.declared.Answer.{Answer}
use Rattle.rules.specs.Search.{Query, Box, Depths, side, low, survives, corner, near, full, Checked, answered, through, keep, first_survivor, one_box, check, after_level}
use Rattle.rules.specs.Why.{is_before}
use Rattle.promise.specs.Why.{Some, counted}
use Rattle.promise.proofs.Lists.{From, Ascending, later_t}
use Rattle.promise.proofs.First.{Outcome, early, none, met, floor, spent, some}

abbrev pub Among : Box → List Box → Type 0
Among b = Some (λ x. x ≡ b)

module _ (S : Query) (at : Three) where
  -- a level's check has not answered a moment at or before the point
  abbrev pub Ahead : Checked → Type 0
  Ahead (answered a) = T (is_before a at.t)
  Ahead (through n c boxes) = Unit

  pub ahead_of : (k : Depths) (go : Depths → List Box → Corner → ℕ → Answer) (r : Checked) → T (is_before (after_level S k go r) at.t) → Ahead r
  unfolding after_level
  ahead_of k go (answered a) t = t
  ahead_of k go (through n c boxes) t = tt

  not_ahead : (n : ℕ) → n ≤ at.t → T (ltb at.t n) → ⊥
  not_ahead n h t = omega (arith, ltb→lt at.t n t)

  keep_ahead : (x : Box) (r : Checked) → Ahead (keep x r) → Ahead r
  keep_ahead x (answered a) t = t
  keep_ahead x (through n c boxes) t = tt

  keep_counted : (x : Box) (r : Checked) → counted (keep x r) ≡ counted r
  keep_counted x (answered a) = refl
  keep_counted x (through n c boxes) = refl

  module _ (k : Depths) (b : Box) (starts : low k.t b.t ≤ at.t) where
    -- a box that stands before it begins no later
    from_low : (n : ℕ) (l : List Box) → From n l → Among b l → low k.t n ≤ at.t
    from_low n [] f x'' = elim x'' [ ]
    from_low n (x ∷ xs) f (inl e) = le_trans (mul-le-mul_right (side k.t) (subst (λ (y : Box). n ≤ y.t) e f.0)) starts
    from_low n (x ∷ xs) f (inr w) = from_low n xs f.1 w

    pub first_low : (x : Box) (xs : List Box) → Ascending (x ∷ xs) → Among b (x ∷ xs) → low k.t x.t ≤ at.t
    first_low x xs a (inl e) = subst (λ (y : Box). low k.t y.t ≤ at.t) (sym e) starts
    first_low x xs a (inr w) = from_low x.t xs (later_t x xs a.0) w

    -- ---- it is among those that are counted

    -- the count does not fall
    rises : (boxes : List Box) (seen : Bool) (c : Corner) (n : ℕ) → n ≤ counted (check S k boxes seen c n)
    unfolding check one_box first_survivor
    rises [] seen c n = omega arith
    rises (x ∷ xs) seen c n = go (eqb n S.budget) (survives S k x) seen (λ s d. rises xs s d (n + 1))
      where
        on : Bool → Corner → Checked
        on s d = check S k xs s d (n + 1)

        first : (y z : Bool) → ((s : Bool) (d : Corner) → n + 1 ≤ counted (on s d)) → n ≤ counted (first_survivor y z (corner S k x) (n + 1) (on true))
        first true z f = omega arith
        first false true f = omega arith
        first false false f = omega (arith, f true (corner S k x))

        go : (over alive seen : Bool) → ((s : Bool) (d : Corner) → n + 1 ≤ counted (on s d)) → n ≤ counted (one_box S k x over alive seen c n on)
        go true alive seen f = omega arith
        go false false seen f = omega (arith, f seen c)
        go false true true f = omega (arith, f true c, keep_counted x (on true c))
        go false true false f =
            omega (arith, keep_counted x (first_survivor (near S k x) (full S k) (corner S k x) (n + 1) (on true)), first (near S k x) (full S k) f)

    front : (x : Box) (xs : List Box) (n i : ℕ) → n + 1 ≤ i → (x ≡ b) ⊎ Among b (take (i - (n + 1)) xs) → Among b (take (i - n) (x ∷ xs))
    front x xs n i h w =
        let e : i - n ≡ suc (i - (n + 1)) = omega arith in
        subst (λ (j : ℕ). Among b (take j (x ∷ xs))) (sym e) w

    pub reached : (boxes : List Box) (seen : Bool) (c : Corner) (n : ℕ)
        → Ascending boxes
        → Among b boxes
        → c.t ≤ at.t
        → Ahead (check S k boxes seen c n)
        → Among b (take (counted (check S k boxes seen c n) - n) boxes)
    unfolding check one_box first_survivor corner is_before
    reached [] seen c n a w h ah = elim w [ ]
    reached (x ∷ xs) seen c n a w h ah =
        go (eqb n S.budget) (survives S k x) seen ah
        (later w (λ v s d g t. reached xs s d (n + 1) a.1 v g t))
      where
        on : Bool → Corner → Checked
        on s d = check S k xs s d (n + 1)

        Later : Type 0
        Later = (s : Bool) (d : Corner) → d.t ≤ at.t → Ahead (on s d) → Among b (take (counted (on s d) - n) (x ∷ xs))

        later : Among b (x ∷ xs) → (Among b xs → (s : Bool) (d : Corner) → d.t ≤ at.t → Ahead (on s d) → Among b (take (counted (on s d) - (n + 1)) xs)) → Later
        later (inl e) f s d g t = front x xs n (counted (on s d)) (rises xs s d (n + 1)) (inl e)
        later (inr v) f s d g t = front x xs n (counted (on s d)) (rises xs s d (n + 1)) (inr (f v s d g t))

        kept : (r : Checked) → Among b (take (counted r - n) (x ∷ xs)) → Among b (take (counted (keep x r) - n) (x ∷ xs))
        kept r m = subst (λ (j : ℕ). Among b (take (j - n) (x ∷ xs))) (sym (keep_counted x r)) m

        first : (y z : Bool) → Ahead (first_survivor y z (corner S k x) (n + 1) (on true)) → Later
            → Among b (take (counted (first_survivor y z (corner S k x) (n + 1) (on true)) - n) (x ∷ xs))
        first true z t f = absurd (not_ahead _ (first_low x xs a w) t)
        first false true t f = absurd (not_ahead _ (first_low x xs a w) t)
        first false false t f = f true (corner S k x) (first_low x xs a w) t

        go : (over alive seen : Bool) → Ahead (one_box S k x over alive seen c n on) → Later
            → Among b (take (counted (one_box S k x over alive seen c n on) - n) (x ∷ xs))
        go true alive seen t f = absurd (not_ahead c.t h t)
        go false false seen t f = f seen c h t
        go false true true t f = kept (on true c) (f true c h (keep_ahead x (on true c) t))
        go false true false t f =
            let r = first_survivor (near S k x) (full S k) (corner S k x) (n + 1) (on true) in
            kept r (first (near S k x) (full S k) (keep_ahead x r t) f)

    -- ---- where it survives, the level goes on to the next
    pub record Goes (r : Checked) : Type 0 where
      pub count : ℕ
      pub corner : Corner
      pub first : Box
      pub rest : List Box
      pub is : r ≡ through count corner (first ∷ rest)
      pub ascending : Ascending (first ∷ rest)
      pub among : Among b (first ∷ rest)
      pub recorded : corner.t ≤ at.t
      pub not_full : T (not (full S k))

    pub goes : (c : Corner) (n size : ℕ) (l : List Box) (r : Checked) → Outcome S k c n size l r → Ascending l → Among b l → c.t ≤ at.t → Ahead r → Goes r
    unfolding corner is_before
    goes c n size l r (early i f e) a w h t = absurd (not_ahead c.t h t)
    goes c n size l r (none i) a w h t = absurd w
    goes c n size l r (met x xs i f) a w h t = absurd (not_ahead _ (first_low x xs a w) t)
    goes c n size l r (floor x xs i f) a w h t = absurd (not_ahead _ (first_low x xs a w) t)
    goes c n size l r (spent x xs i) a w h t = absurd (not_ahead _ (first_low x xs a w) t)
    goes c n size l r (some x xs i f) a w h t =
        record {
          count = i;
          corner = corner S k x;
          first = x;
          rest = xs;
          is = refl;
          ascending = a;
          among = w;
          recorded = first_low x xs a w;
          not_full = f;
        }
