-- Between what two bodies reach on an axis: where their spans are further apart than the separation, every query between them misses over the whole cube.
use Rattle.std.specs.Prelude.{◌≡◌, refl, Bool, true, false, ◌&&◌, [], ◌∷◌, ℕ, ℤ, pos, neg_ℤ, ◌+ℤ◌, ◌-ℤ◌, ◌≤ℤ◌, ◌<ℤ◌}
use Rattle.std.proofs.Common.{sym, ap, ◌∙◌, subst}
use Rattle.std.specs.Int.Signed.{le_z, ≤ℤ_refl}
use Rattle.whole.specs.Defs.{min_z, max_z}
use Rattle.whole.specs.View.{minus_view, neg_up, neg_dn, zed}
use Rattle.whole.specs.Order.{≤ℤ_trans, +ℤ_mono, min_le, le_max, min_pick, max_pick, lt_le_z}
use Rattle.whole.specs.Ring.{var, num, ◌:+◌, ◌:-◌}
use Rattle.whole.proofs.Ring.{ring}
use Rattle.kernel.specs.declared.Kernel.{Kernel}
use Rattle.gap.specs.declared.span.Span.{Span}
use Rattle.gap.specs.Corners.{meets, joined}
use Rattle.gap.specs.Cube.{square_of, cube_of, whole_cube, meets_whole}

-- ---- numbers within a span

pub record In (s : Span) (z : ℤ) : Type 0 where
  pub above : s.least ≤ℤ z
  pub below : z ≤ℤ s.greatest

-- a triangle's corners and the fourth of its parallelogram
pub record Holds (s : Span) (x y z : ℤ) : Type 0 where
  pub one : In s x
  pub two : In s y
  pub three : In s z
  pub four : In s (y +ℤ z -ℤ x)

module _ (a b c : ℤ) where
  in_square : (y z : ℤ) → (min_z (pos 0) b ≤ℤ y) × (y ≤ℤ max_z (pos 0) b) → (min_z (pos 0) c ≤ℤ z) × (z ≤ℤ max_z (pos 0) c) → In (square_of a b c) (a +ℤ y +ℤ z)
  in_square y z h k = record { above = +ℤ_mono (+ℤ_mono (≤ℤ_refl a) h.0) k.0; below = +ℤ_mono (+ℤ_mono (≤ℤ_refl a) h.1) k.1 }

  low_end : (x : ℤ) → (min_z (pos 0) x ≤ℤ pos 0) × (pos 0 ≤ℤ max_z (pos 0) x)
  low_end x = ((min_le (pos 0) x).0, (le_max (pos 0) x).0)

  high_end : (x : ℤ) → (min_z (pos 0) x ≤ℤ x) × (x ≤ℤ max_z (pos 0) x)
  high_end x = ((min_le (pos 0) x).1, (le_max (pos 0) x).1)

  -- what the four corners are within, all of the square is
  pub square_above : (m : ℤ) → m ≤ℤ (a +ℤ pos 0 +ℤ pos 0) → m ≤ℤ (a +ℤ pos 0 +ℤ c) → m ≤ℤ (a +ℤ b +ℤ pos 0) → m ≤ℤ (a +ℤ b +ℤ c) → m ≤ℤ (square_of a b c).least
  square_above m f g h k =
      min_pick (λ (y : ℤ). m ≤ℤ (a +ℤ y +ℤ min_z (pos 0) c)) (pos 0) b
      (min_pick (λ (z : ℤ). m ≤ℤ (a +ℤ pos 0 +ℤ z)) (pos 0) c f g)
      (min_pick (λ (z : ℤ). m ≤ℤ (a +ℤ b +ℤ z)) (pos 0) c h k)

  pub square_below : (m : ℤ) → (a +ℤ pos 0 +ℤ pos 0) ≤ℤ m → (a +ℤ pos 0 +ℤ c) ≤ℤ m → (a +ℤ b +ℤ pos 0) ≤ℤ m → (a +ℤ b +ℤ c) ≤ℤ m → (square_of a b c).greatest ≤ℤ m
  square_below m f g h k =
      max_pick (λ (y : ℤ). (a +ℤ y +ℤ max_z (pos 0) c) ≤ℤ m) (pos 0) b
      (max_pick (λ (z : ℤ). (a +ℤ pos 0 +ℤ z) ≤ℤ m) (pos 0) c f g)
      (max_pick (λ (z : ℤ). (a +ℤ b +ℤ z) ≤ℤ m) (pos 0) c h k)

-- a triangle's own square, and what is joined with it
abbrev pub triangle_span : ℤ → ℤ → ℤ → Span
triangle_span x y z = square_of x (y -ℤ x) (z -ℤ x)

pub triangle_holds : (x y z : ℤ) → Holds (triangle_span x y z) x y z
triangle_holds x y z =
    let b = y -ℤ x in
    let c = z -ℤ x in
    let at = in_square x b c in
    let low = low_end x b c in
    let high = high_end x b c in
    record {
      one = subst (In (triangle_span x y z)) (ring (x ∷ []) (var 0 :+ num (pos 0) :+ num (pos 0)) (var 0) tt) (at (pos 0) (pos 0) (low b) (low c));
      two = subst (In (triangle_span x y z)) (ring (x ∷ y ∷ []) (var 0 :+ (var 1 :- var 0) :+ num (pos 0)) (var 1) tt) (at b (pos 0) (high b) (low c));
      three = subst (In (triangle_span x y z)) (ring (x ∷ z ∷ []) (var 0 :+ num (pos 0) :+ (var 1 :- var 0)) (var 1) tt) (at (pos 0) c (low b) (high c));
      four = subst (In (triangle_span x y z)) (ring (x ∷ y ∷ z ∷ []) (var 0 :+ (var 1 :- var 0) :+ (var 2 :- var 0)) (var 1 :+ var 2 :- var 0) tt) (at b c (high b) (high c));
    }

module _ (s t : Span) where
  in_first : {z : ℤ} → In s z → In (joined s t) z
  in_first h = record { above = ≤ℤ_trans (min_le s.least t.least).0 h.above; below = ≤ℤ_trans h.below (le_max s.greatest t.greatest).0 }

  in_second : {z : ℤ} → In t z → In (joined s t) z
  in_second h = record { above = ≤ℤ_trans (min_le s.least t.least).1 h.above; below = ≤ℤ_trans h.below (le_max s.greatest t.greatest).1 }

  pub holds_first : {x y z : ℤ} → Holds s x y z → Holds (joined s t) x y z
  holds_first h = record { one = in_first h.one; two = in_first h.two; three = in_first h.three; four = in_first h.four }

  pub holds_second : {x y z : ℤ} → Holds t x y z → Holds (joined s t) x y z
  holds_second h = record { one = in_second h.one; two = in_second h.two; three = in_second h.three; four = in_second h.four }

-- ---- F between two bodies' spans

pub record Between (P Q s : Span) : Type 0 where
  pub above : (P.least -ℤ Q.greatest) ≤ℤ s.least
  pub below : s.greatest ≤ℤ (P.greatest -ℤ Q.least)

module _ (P Q : Span) where
  apart_above : {p v : ℤ} (z : ℤ) → In P p → In Q v → p -ℤ v ≡ z → (P.least -ℤ Q.greatest) ≤ℤ z
  apart_above {p} {v} z h k e = subst (λ (x : ℤ). (P.least -ℤ Q.greatest) ≤ℤ x) e (omega (zed, minus_view P.least Q.greatest, minus_view p v, h.above, k.below))

  apart_below : {p v : ℤ} (z : ℤ) → In P p → In Q v → p -ℤ v ≡ z → z ≤ℤ (P.greatest -ℤ Q.least)
  apart_below {p} {v} z h k e = subst (λ (x : ℤ). x ≤ℤ (P.greatest -ℤ Q.least)) e (omega (zed, minus_view P.greatest Q.least, minus_view p v, h.below, k.above))

  -- a corner and a face, at a moment
  pub face_between : (p x y z : ℤ) → In P p → Holds Q x y z → Between P Q (square_of (p -ℤ x) (x -ℤ y) (x -ℤ z))
  face_between p x y z h k =
      let l = p ∷ x ∷ y ∷ z ∷ [] in
      let a = var 0 :- var 1 in
      let b = var 1 :- var 2 in
      let c = var 1 :- var 3 in
      let o = num (pos 0) in
      let e1 = ring l a (a :+ o :+ o) tt in
      let e2 = ring l (var 0 :- var 3) (a :+ o :+ c) tt in
      let e3 = ring l (var 0 :- var 2) (a :+ b :+ o) tt in
      let e4 = ring l (var 0 :- (var 2 :+ var 3 :- var 1)) (a :+ b :+ c) tt in
      record {
        above = square_above (p -ℤ x) (x -ℤ y) (x -ℤ z) _ (apart_above _ h k.one e1) (apart_above _ h k.three e2) (apart_above _ h k.two e3) (apart_above _ h k.four e4);
        below = square_below (p -ℤ x) (x -ℤ y) (x -ℤ z) _ (apart_below _ h k.one e1) (apart_below _ h k.three e2) (apart_below _ h k.two e3) (apart_below _ h k.four e4);
      }

  -- two edges, at a moment
  pub edges_between : (p q r s : ℤ) → In P p → In P q → In Q r → In Q s → Between P Q (square_of (p -ℤ r) (q -ℤ p) (r -ℤ s))
  edges_between p q r s hp hq hr hs =
      let l = p ∷ q ∷ r ∷ s ∷ [] in
      let a = var 0 :- var 2 in
      let b = var 1 :- var 0 in
      let c = var 2 :- var 3 in
      let o = num (pos 0) in
      let e1 = ring l a (a :+ o :+ o) tt in
      let e2 = ring l (var 0 :- var 3) (a :+ o :+ c) tt in
      let e3 = ring l (var 1 :- var 2) (a :+ b :+ o) tt in
      let e4 = ring l (var 1 :- var 3) (a :+ b :+ c) tt in
      record {
        above = square_above (p -ℤ r) (q -ℤ p) (r -ℤ s) _ (apart_above _ hp hr e1) (apart_above _ hp hs e2) (apart_above _ hq hr e3) (apart_above _ hq hs e4);
        below = square_below (p -ℤ r) (q -ℤ p) (r -ℤ s) _ (apart_below _ hp hr e1) (apart_below _ hp hs e2) (apart_below _ hq hr e3) (apart_below _ hq hs e4);
      }

  pub both_between : (s t : Span) → Between P Q s → Between P Q t → Between P Q (joined s t)
  both_between s t h k = record {
    above = min_pick (λ (z : ℤ). (P.least -ℤ Q.greatest) ≤ℤ z) s.least t.least h.above k.above;
    below = max_pick (λ (z : ℤ). z ≤ℤ (P.greatest -ℤ Q.least)) s.greatest t.greatest h.below k.below;
  }

-- further apart than d, on one side or the other
pub data Further (P Q : Span) (d : ℕ) : Type 0 where
  over : pos d <ℤ (P.least -ℤ Q.greatest) → Further P Q d
  under : pos d <ℤ (Q.least -ℤ P.greatest) → Further P Q d

pub misses : (P Q : Span) (K : Kernel) (d : ℕ) → Between P Q (cube_of K) → Further P Q d → meets K whole_cube d ≡ false
misses P Q K d h (over f) =
    sym (meets_whole K d) ∙ ap (λ (b : Bool). b && le_z (neg_ℤ (pos d)) (cube_of K).greatest) (lt_le_z (cube_of K).least (pos d) (omega (zed, h.above)))
misses P Q K d h (under f) =
    sym (meets_whole K d) ∙ ap (λ (b : Bool). le_z (cube_of K).least (pos d) && b) (lt_le_z (neg_ℤ (pos d)) (cube_of K).greatest low) ∙ none (le_z (cube_of K).least (pos d))
  where
    low : (cube_of K).greatest <ℤ neg_ℤ (pos d)
    low = omega (zed, h.below, minus_view P.greatest Q.least, minus_view Q.least P.greatest, neg_up (pos d), neg_dn (pos d))

    none : (b : Bool) → (b && false) ≡ false
    none true = refl
    none false = refl

pub turned : {P Q : Span} {d : ℕ} → Further P Q d → Further Q P d
turned (over f) = under f
turned (under f) = over f
