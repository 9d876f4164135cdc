-- Laws of words: what is packed is read back, and the order of words is the order of boxes.
use Rattle.std.specs.Prelude.{◌≡◌, Bool, true, false, ◌&&◌, ◌||◌, ℕ, ◌+◌, ◌*◌, ◌^◌, ◌≤◌, ◌<◌, leb, ltb, eqb}
use Rattle.std.proofs.Math.Path.{refl}
use Rattle.std.proofs.Common.{sym, ap, ◌∙◌, arith, ltb-true, ltb-false, eqb-true, leb-true, leb-false, le-leb, lt-ltb, le-ltb}
use Rattle.std.proofs.lemmas.Bool.{eqb-false, lt-leb}
use Rattle.std.proofs.lemmas.Nat.{and_mask}
use Rattle.std.proofs.lemmas.Nat.Bits.{and_high}
use Rattle.rules.specs.Search.{Box, stored, not_after}
use Rattle.rules.specs.declared.Three.{Three}
use Rattle.rules.specs.declared.Parameter.{Parameter}
use Rattle.rules.specs.declared.Parameter.TheVariants.{InT, InU, InV}
use Rattle.boxes.specs.Boxes.{box_of, Fits, half_of, index_bits, index_one, half_by}

-- a box is its three indices
three : (a b : Three) → a.t ≡ b.t → a.u ≡ b.u → a.v ≡ b.v → a ≡ b
three a b e f g = ap (λ (x : ℕ). record { t = x; u = a.u; v = a.v }) e ∙ ap (λ (x : ℕ). record { t = b.t; u = x; v = a.v }) f ∙ ap (λ (x : ℕ). record { t = b.t; u = b.u; v = x }) g

-- unpacking undoes packing
pub unpack_pack : (b : Box) → Fits b → box_of (stored b) ≡ b
unpack_pack b h = three (box_of (stored b)) b (omega arith) (omega arith) (omega arith)

-- packing undoes unpacking
pub pack_unpack : (w : ℕ) → w < 2 ^ 60 → stored (box_of w) ≡ w
pack_unpack w h = omega arith

-- what is read from a word fits one
pub fits_word : (w : ℕ) → Fits (box_of w)
fits_word w = record { t = omega arith; u = omega arith; v = omega arith }

-- a half by arithmetic on the word is the word of the half
pub half_by_lem : (p : Parameter) (high : Bool) (w : ℕ) → w < 2 ^ 60 → half_by (index_bits p) (index_one p) high w ≡ stored (half_of p high (box_of w))
half_by_lem InT false w h = rw (and_high w 20 40) (omega arith)
half_by_lem InU false w h = rw (and_high w 20 20) (omega arith)
half_by_lem InV false w h = rw (and_mask w 20) (omega arith)
half_by_lem InT true w h = rw (and_high w 20 40) (omega arith)
half_by_lem InU true w h = rw (and_high w 20 20) (omega arith)
half_by_lem InV true w h = rw (and_mask w 20) (omega arith)

pub one_most : (p : Parameter) → index_one p ≤ 2 ^ 40
one_most InT = omega arith
one_most InU = omega arith
one_most InV = omega arith

-- a word is below those of t index n + 1 where its t index is at most n
pub below_index : (b : Box) (n : ℕ) → Fits b → ltb (stored b) ((n + 1) * 2 ^ 40) ≡ leb b.t n
below_index b n f = go (leb b.t n) refl
  where
    go : (x : Bool) → leb b.t n ≡ x → ltb (stored b) ((n + 1) * 2 ^ 40) ≡ x
    go true e = lt-ltb (stored b) ((n + 1) * 2 ^ 40) (omega (arith, leb-true b.t n e, f.u, f.v))
    go false e = le-ltb (stored b) ((n + 1) * 2 ^ 40) (omega (arith, leb-false b.t n e))

-- the order of words is the order of boxes
module _ (a b : Box) (f : Fits a) (g : Fits b) where
  -- in the last index
  in_v : (x : Bool) → a.t ≡ b.t → a.u ≡ b.u → leb a.v b.v ≡ x → x ≡ leb (stored a) (stored b)
  in_v true d e h = sym (le-leb (stored a) (stored b) (omega (arith, leb-true a.v b.v h)))
  in_v false d e h = sym (lt-leb (stored a) (stored b) (omega (arith, leb-false a.v b.v h)))

  in_u : (x y : Bool) → a.t ≡ b.t → ltb a.u b.u ≡ x → eqb a.u b.u ≡ y → (x || y && leb a.v b.v) ≡ leb (stored a) (stored b)
  in_u true y d h k = sym (le-leb (stored a) (stored b) (omega (arith, ltb-true a.u b.u h)))
  in_u false true d h k = in_v (leb a.v b.v) d (eqb-true a.u b.u k) refl
  in_u false false d h k = sym (lt-leb (stored a) (stored b) (omega (arith, ltb-false a.u b.u h, eqb-false a.u b.u k)))

  in_t : (x y : Bool) → ltb a.t b.t ≡ x → eqb a.t b.t ≡ y
      → (x || y && (ltb a.u b.u || eqb a.u b.u && leb a.v b.v)) ≡ leb (stored a) (stored b)
  in_t true y h k = sym (le-leb (stored a) (stored b) (omega (arith, ltb-true a.t b.t h)))
  in_t false true h k = in_u (ltb a.u b.u) (eqb a.u b.u) (eqb-true a.t b.t k) refl refl
  in_t false false h k = sym (lt-leb (stored a) (stored b) (omega (arith, ltb-false a.t b.t h, eqb-false a.t b.t k)))

  pub same_order : not_after a b ≡ leb (stored a) (stored b)
  unfolding not_after
  same_order = in_t (ltb a.t b.t) (eqb a.t b.t) refl refl

-- halving keeps it
pub half_order : (p : Parameter) (high : Bool) (a b : Box) → Fits a → Fits b → Fits (half_of p high a) → Fits (half_of p high b) → stored a ≤ stored b → stored (half_of p high a) ≤ stored (half_of p high b)
half_order InT false a b f g x y o = omega (arith, f.u, f.v, g.u, g.v)
half_order InU false a b f g x y o = omega (arith, f.v, g.v, x.u, y.u)
half_order InV false a b f g x y o = omega (arith, f.u, g.u, x.v, y.v)
half_order InT true a b f g x y o = omega (arith, f.u, f.v, g.u, g.v)
half_order InU true a b f g x y o = omega (arith, f.v, g.v, x.u, y.u)
half_order InV true a b f g x y o = omega (arith, f.u, g.u, x.v, y.v)
