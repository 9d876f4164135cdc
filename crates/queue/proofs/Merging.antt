-- A step of the merge of the low and the high halves that stay, where no half that is left on the other side goes before.
use mathlib.Core.Path.{◌≡◌, refl}
use mathlib.Core.Bool.{Bool, true, false, cond}
use mathlib.Core.List.{List, [], ◌∷◌, map}
use Prim.Native.Nat.{ℕ, ◌+◌, ◌<◌}
use native.Mathlib.Numerals.{add-one}
use lib.ListN.{length, get_or, drop}
use lib.Seq.{drop-cons}
use Rattle.rules.specs.declared.Parameter.{Parameter}
use Rattle.rules.specs.Search.{Query, Box, Depths, low_half, high_half, inside, those, merge, take_in, not_after}
use Rattle.boxes.specs.Boxes.{box_of}
use Rattle.queue.specs.All.{All}
use Rattle.queue.specs.Level.{halves_from, half_at}

-- ---- of the words' boxes, each changed, those that are such

module _ (f : Box → Bool) (g : Box → Box) where
  abbrev such : List ℕ → List Box
  such vs = those f (map g (map box_of vs))

  none_such : (vs : List ℕ) → All (λ v. f (g (box_of v)) ≡ false) vs → such vs ≡ []
  unfolding those
  none_such [] a = refl
  none_such (v ∷ vs) a = rw a.0 (none_such vs a.1)

  -- x goes before all of them
  goes_before : (x : Box) (xs : List Box) (vs : List ℕ) → All (λ v. not_after x (g (box_of v)) ≡ true) vs → merge (x ∷ xs) (such vs) ≡ x ∷ merge xs (such vs)
  unfolding those merge take_in
  goes_before x xs [] a = refl
  goes_before x xs (v ∷ vs) a = go (f (g (box_of v))) (goes_before x xs vs a.1)
    where
      go : (b : Bool) → take_in x (merge xs) (such vs) ≡ x ∷ merge xs (such vs) → take_in x (merge xs) (cond b (g (box_of v) ∷ such vs) (such vs)) ≡ x ∷ merge xs (cond b (g (box_of v) ∷ such vs) (such vs))
      go true e = rw a.0
      go false e = e

  -- all of them go after y
  go_after : (y : Box) (ys : List Box) (vs : List ℕ) → All (λ v. not_after (g (box_of v)) y ≡ false) vs → merge (such vs) (y ∷ ys) ≡ y ∷ merge (such vs) ys
  unfolding those merge take_in
  go_after y ys [] a = refl
  go_after y ys (v ∷ vs) a = go (f (g (box_of v))) (go_after y ys vs a.1)
    where
      go : (b : Bool) → merge (such vs) (y ∷ ys) ≡ y ∷ merge (such vs) ys → merge (cond b (g (box_of v) ∷ such vs) (such vs)) (y ∷ ys) ≡ y ∷ merge (cond b (g (box_of v) ∷ such vs) (such vs)) ys
      go true e = rw a.0
      go false e = e

-- ---- of the words of a level

module _ (q : Query) (k : Depths) (p : Parameter) (ws : List ℕ) where
  abbrev from : ℕ → ℕ → List Box
  from i j = halves_from q k p ws i j

  opened : (i : ℕ) → i < length ws → drop i ws ≡ get_or ws i 0 ∷ drop (i + 1) ws
  opened i h = rw (add-one) (drop-cons ws i 0 h)

  module _ (i j : ℕ) where
    pub none_left : All (λ v. inside q k (low_half p (box_of v)) ≡ false) (drop i ws) → All (λ v. inside q k (high_half p (box_of v)) ≡ false) (drop j ws) → from i j ≡ []
    unfolding merge
    none_left a b = rw (none_such (inside q k) (low_half p) (drop i ws) a, none_such (inside q k) (high_half p) (drop j ws) b)

    pub step_low : i < length ws → All (λ v. not_after (half_at p false ws i) (high_half p (box_of v)) ≡ true) (drop j ws)
        → from i j ≡ cond (inside q k (half_at p false ws i)) (half_at p false ws i ∷ from (i + 1) j) (from (i + 1) j)
    unfolding those
    step_low h a = rw (opened i h) (go (inside q k (half_at p false ws i)))
      where
        rest : List Box
        rest = such (inside q k) (low_half p) (drop (i + 1) ws)

        others : List Box
        others = such (inside q k) (high_half p) (drop j ws)

        go : (b : Bool) → merge (cond b (half_at p false ws i ∷ rest) rest) others ≡ cond b (half_at p false ws i ∷ merge rest others) (merge rest others)
        go true = goes_before (inside q k) (high_half p) (half_at p false ws i) rest (drop j ws) a
        go false = refl

    pub step_high : j < length ws → All (λ v. not_after (low_half p (box_of v)) (half_at p true ws j) ≡ false) (drop i ws)
        → from i j ≡ cond (inside q k (half_at p true ws j)) (half_at p true ws j ∷ from i (j + 1)) (from i (j + 1))
    unfolding those
    step_high h a = rw (opened j h) (go (inside q k (half_at p true ws j)))
      where
        rest : List Box
        rest = such (inside q k) (high_half p) (drop (j + 1) ws)

        others : List Box
        others = such (inside q k) (low_half p) (drop i ws)

        go : (b : Bool) → merge others (cond b (half_at p true ws j ∷ rest) rest) ≡ cond b (half_at p true ws j ∷ merge others rest) (merge others rest)
        go true = go_after (inside q k) (low_half p) (half_at p true ws j) rest (drop i ws) a
        go false = refl
