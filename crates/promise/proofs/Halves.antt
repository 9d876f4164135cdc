-- The next level loses no place of the bodies: a box that holds one has a half that does, and no such half is dropped. Its boxes stay on the grid.
use mathlib.Core.Path.{◌≡◌, refl, sym, ap, ◌∙◌, subst}
use mathlib.Core.Logic.{◌⊎◌, inl, inr, ⊎_map}
use mathlib.Core.Bool.{Bool, true, false, not}
use mathlib.Core.List.{List, map}
use Prim.Native.Nat.{ℕ, suc, ◌+◌, ◌*◌, ◌-◌, ◌^◌, ◌≤◌, ◌<◌}
use native.Mathlib.Nat.{le_of_lt, mul_comm, mul_assoc, pow-suc}
use native.Mathlib.Omega.{arith}
use lib.Dec.{T, leb, leb→le, nleb→lt}
use Rattle.rules.specs.declared.Parameter.{Parameter}
use Rattle.rules.specs.declared.Parameter.TheVariants.{InT, InU, InV}
use Rattle.rules.specs.Numbers.{parts}
use Rattle.rules.specs.Gap.{Place}
use Rattle.rules.specs.Search.{Query, Box, Depths, side, high, on, deeper, low_half, high_half, inside, those, halves}
use Rattle.kernel.specs.Ranges.{InGrid}
use Rattle.promise.proofs.Box.{Between, In}
use Rattle.promise.proofs.Split.{at}
use Rattle.promise.proofs.Domain.{Domain, in_inside}
use Rattle.promise.proofs.Before.{Apart, on_up}
use Rattle.promise.proofs.Lists.{Every, Some, Before, Ascending, every_weaken, those_every, those_some, those_ascending, map_every, map_all, map_some, map_ascending, merge_every, merge_some, merge_ascending}

-- ---- one parameter: a cell is its two halves
half_side : (k : ℕ) → k < 20 → side k ≡ side (k + 1) * 2
half_side k h = ap (λ (n : ℕ). 2 ^ n) (one_more k h) ∙ pow-suc 2 (20 - (k + 1))
  where
    one_more : (k : ℕ) → k < 20 → 20 - k ≡ suc (20 - (k + 1))
    one_more k h = omega arith

pub double : (k j : ℕ) → k < 20 → j * side k ≡ 2 * j * side (k + 1)
double k j h =
    ap (λ (n : ℕ). j * n) (half_side k h) ∙ sym (mul_assoc j (side (k + 1)) 2) ∙ mul_comm (j * side (k + 1)) 2 ∙ sym (mul_assoc 2 j (side (k + 1)))

pub high_double : (k i : ℕ) → k < 20 → high k i ≡ high (k + 1) (2 * i + 1)
high_double k i h = double k (i + 1) h ∙ ap (λ (n : ℕ). n * side (k + 1)) (next i)
  where
    next : (i : ℕ) → 2 * (i + 1) ≡ 2 * i + 1 + 1
    next i = omega arith

half_between : (q k i a : ℕ) → k < 20 → Between q k i a → Between q (k + 1) (2 * i) a ⊎ Between q (k + 1) (2 * i + 1) a
half_between q k i a h w = go (leb (parts * a) (q * high (k + 1) (2 * i))) (λ t. leb→le _ _ t) (λ t. le_of_lt (nleb→lt _ _ t))
  where
    go : (c : Bool) → (T c → parts * a ≤ q * high (k + 1) (2 * i)) → (T (not c) → q * high (k + 1) (2 * i) ≤ parts * a) → Between q (k + 1) (2 * i) a ⊎ Between q (k + 1) (2 * i + 1) a
    go true f g = inl (record { above = subst (λ (n : ℕ). q * n ≤ parts * a) (double k i h) w.above; under = f tt })
    go false f g = inr (record { above = g tt; under = subst (λ (n : ℕ). parts * a ≤ q * n) (high_double k i h) w.under })

-- ---- a box, by the parameter that it is split in
abbrev along : Parameter → Place → ℕ
along InT m = m.a
along InU m = m.b
along InV m = m.c

in_at : (p : Parameter) {k : Depths} {b : Box} {m : Place} → In k b m → Between m.q (at p k) (at p b) (along p m)
in_at InT w = w.t
in_at InU w = w.u
in_at InV w = w.v

in_on : (p : Parameter) (f : ℕ → ℕ) {k : Depths} {b : Box} {m : Place} → In k b m → Between m.q (at p k + 1) (f (at p b)) (along p m) → In (deeper p k) (on p f b) m
in_on InT f w x = record { t = x; u = w.u; v = w.v }
in_on InU f w x = record { t = w.t; u = x; v = w.v }
in_on InV f w x = record { t = w.t; u = w.u; v = x }

half_in : (p : Parameter) (k : Depths) (b : Box) (m : Place) → at p k < 20 → In k b m → In (deeper p k) (low_half p b) m ⊎ In (deeper p k) (high_half p b) m
half_in p k b m h w =
    ⊎_map (λ x. in_on p (λ i. 2 * i) w x) (λ x. in_on p (λ i. 2 * i + 1) w x) (half_between m.q (at p k) (at p b) (along p m) h (in_at p w))

grid_at : (p : Parameter) {k : Depths} {b : Box} → InGrid k b → at p b < 2 ^ at p k
grid_at InT g = g.t
grid_at InU g = g.u
grid_at InV g = g.v

grid_on : (p : Parameter) (f : ℕ → ℕ) {k : Depths} {b : Box} → InGrid k b → f (at p b) < 2 ^ (at p k + 1) → InGrid (deeper p k) (on p f b)
grid_on InT f g x = record { t = x; u = g.u; v = g.v }
grid_on InU f g x = record { t = g.t; u = x; v = g.v }
grid_on InV f g x = record { t = g.t; u = g.u; v = x }

pub twice : (k : ℕ) → 2 ^ (k + 1) ≡ 2 ^ k * 2
twice k = ap (λ (n : ℕ). 2 ^ n) (one_more k) ∙ pow-suc 2 k
  where
    one_more : (k : ℕ) → k + 1 ≡ suc k
    one_more k = omega arith

pub low_grid : (p : Parameter) (k : Depths) (b : Box) → InGrid k b → InGrid (deeper p k) (low_half p b)
low_grid p k b g = grid_on p (λ i. 2 * i) g (omega (arith, grid_at p g, twice (at p k)))

pub high_grid : (p : Parameter) (k : Depths) (b : Box) → InGrid k b → InGrid (deeper p k) (high_half p b)
high_grid p k b g = grid_on p (λ i. 2 * i + 1) g (omega (arith, grid_at p g, twice (at p k)))

low_up : (p : Parameter) (a b : Box) → Before a b → Before (low_half p a) (low_half p b)
low_up p = on_up p (λ i. 2 * i) (λ i j h. omega arith)

high_up : (p : Parameter) (a b : Box) → Before a b → Before (high_half p a) (high_half p b)
high_up p = on_up p (λ i. 2 * i + 1) (λ i j h. omega arith)

-- no low half is a high one: an index is even here and odd there
abbrev Has : Parameter → (ℕ → ℕ) → Box → Type 0
Has p f b = (i : ℕ) × (at p b ≡ f i)

on_has : (p : Parameter) (f : ℕ → ℕ) (b : Box) → Has p f (on p f b)
on_has InT f b = (b.t, refl)
on_has InU f b = (b.u, refl)
on_has InV f b = (b.v, refl)

low_high_apart : (p : Parameter) (x y : Box) → Has p (λ i. 2 * i) x → Has p (λ i. 2 * i + 1) y → Apart x y
low_high_apart InT x y g h e f d = omega (arith, g.1, h.1, e)
low_high_apart InU x y g h e f d = omega (arith, g.1, h.1, f)
low_high_apart InV x y g h e f d = omega (arith, g.1, h.1, d)

-- ---- the next level
module _ (S : Query) (k : Depths) (p : Parameter) (l : List Box) where
  abbrev keeps : Box → Bool
  keeps = inside S (deeper p k)

  -- the halves on one side of the level's boxes
  side_has : (f : ℕ → ℕ) → Every (Has p f) (those keeps (map (on p f) l))
  side_has f = every_weaken (λ b h. h.0) (those keeps (map (on p f) l)) (those_every (Has p f) keeps (map (on p f) l) (map_all (Has p f) (on p f) (on_has p f) l))

  pub halves_ascending : Ascending l → Ascending (halves S (deeper p k) p l)
  unfolding halves
  halves_ascending h =
      merge_ascending (Has p (λ i. 2 * i)) (Has p (λ i. 2 * i + 1)) (low_high_apart p) _ _ (side_has (λ i. 2 * i)) (side_has (λ i. 2 * i + 1))
      (those_ascending keeps (map (low_half p) l) (map_ascending (low_half p) (low_up p) l h))
      (those_ascending keeps (map (high_half p) l) (map_ascending (high_half p) (high_up p) l h))

  pub halves_grid : Every (InGrid k) l → Every (λ b. InGrid (deeper p k) b × T (inside S (deeper p k) b)) (halves S (deeper p k) p l)
  unfolding halves
  halves_grid h =
      merge_every (λ b. InGrid (deeper p k) b × T (keeps b)) _ _
      (those_every (InGrid (deeper p k)) keeps (map (low_half p) l) (map_every (InGrid k) (InGrid (deeper p k)) (low_half p) (λ b. low_grid p k b) l h))
      (those_every (InGrid (deeper p k)) keeps (map (high_half p) l) (map_every (InGrid k) (InGrid (deeper p k)) (high_half p) (λ b. high_grid p k b) l h))

  pub halves_some : (m : Place) → Domain S m → at p k < 20 → Some (λ b. In k b m) l → Some (λ b. In (deeper p k) b m) (halves S (deeper p k) p l)
  unfolding halves
  halves_some m d h w =
      merge_some (λ b. In (deeper p k) b m) _ _
      (⊎_map (those_some (λ b. In (deeper p k) b m) keeps (map (low_half p) l)) (those_some (λ b. In (deeper p k) b m) keeps (map (high_half p) l))
      (map_some (λ b. In k b m) (λ b. In (deeper p k) b m × T (keeps b)) (low_half p) (high_half p) (λ b x. ⊎_map (held (low_half p b)) (held (high_half p b)) (half_in p k b m h x)) l w))
    where
      held : (b : Box) → In (deeper p k) b m → In (deeper p k) b m × T (keeps b)
      held b x = (x, in_inside S (deeper p k) b m d x)
