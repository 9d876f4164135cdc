-- Places on the bodies, as the search's question has them, and the test for a half outside: all that a further condition on places would move.
use mathlib.Core.Path.{◌≡◌, sym, ap, ◌∙◌}
use mathlib.Core.Bool.{Bool, true, false, not, ◌&&◌, ◌||◌}
use Prim.Native.Nat.{ℕ, ◌+◌, ◌*◌, ◌-◌, ◌^◌, ◌≤◌, ◌<◌}
use native.Mathlib.Nat.{le_trans, le_of_lt, mul_comm, mul-add, mul-le-mul_right, mul-lt-mul_of_pos_right, le_of_mul-le-mul_left}
use native.Mathlib.Omega.{arith}
use lib.Pow.{pow-add, pow_pos}
use lib.Dec.{T, leb, leb→le, le→leb}
use Rattle.rules.specs.declared.Record.{Record}
use Rattle.rules.specs.Numbers.{parts}
use Rattle.rules.specs.Gap.{Place, OnBodies}
use Rattle.promise.specs.Promise.{UpToCap}
use Rattle.rules.specs.Search.{Query, query, Box, Depths, side, low, inside, origin}
use Rattle.kernel.specs.Ranges.{InGrid}
use Rattle.promise.proofs.Box.{In}
use Rattle.promise.proofs.Split.{Shallow}

pub record Domain (S : Query) (m : Place) : Type 0 where
  pub positive : 0 < m.q
  pub t : m.a ≤ m.q
  pub u : m.b ≤ m.q
  pub v : m.c ≤ m.q
  pub face : T S.is_face → m.b + m.c ≤ m.q
  pub until : m.a * parts ≤ S.last * m.q

both : (f g : Bool) → T f → T g → T (f && g)
both true g x y = y
both false g x y = x

parts_of : (f g : Bool) → T (f && g) → T f × T g
parts_of true g x = (tt, x)
parts_of false g x = absurd x

-- a box that holds one is not dropped
pub in_inside : (S : Query) (k : Depths) (b : Box) (m : Place) → Domain S m → In k b m → T (inside S k b)
unfolding inside
in_inside S k b m d w = both (leb z S.last) _ (le→leb z S.last in_time) (go S.is_face d.face)
  where
    z : ℕ
    z = low k.t b.t

    in_time : z ≤ S.last
    in_time = le_of_mul-le-mul_left scaled d.positive
      where
        scaled : m.q * z ≤ m.q * S.last
        scaled = omega (arith, w.t.above, d.until, mul_comm parts m.a, mul_comm m.q S.last)

    x : ℕ
    x = low k.u b.u

    y : ℕ
    y = low k.v b.v

    small : m.b + m.c ≤ m.q → x + y ≤ parts
    small h = le_of_mul-le-mul_left scaled d.positive
      where
        scaled : m.q * (x + y) ≤ m.q * parts
        scaled = omega (arith, mul-add m.q x y, w.u.above, w.v.above, mul_comm m.q parts)

    go : (f : Bool) → (T f → m.b + m.c ≤ m.q) → T (not f || leb (x + y) parts)
    go true h = le→leb (x + y) parts (small (h tt))
    go false h = tt

-- the whole cube is not
pub origin_inside : (S : Query) → T (inside S origin origin)
unfolding inside
origin_inside S = both (leb 0 S.last) _ (le→leb 0 S.last (omega arith)) (go S.is_face)
  where
    go : (f : Bool) → T (not f || true)
    go true = tt
    go false = tt

-- ---- the low corner of a box that was not dropped is on the bodies
abbrev pub low_place : Depths → Box → Place
low_place k b = record { q = parts; a = low k.t b.t; b = low k.u b.u; c = low k.v b.v }

pub low_parts : (k i : ℕ) → k ≤ 20 → i < 2 ^ k → low k i ≤ parts
low_parts k i h g = le_trans (mul-le-mul_right (side k) (le_of_lt g)) (whole (sym (pow-add 2 k (20 - k)) ∙ ap (λ (n : ℕ). 2 ^ n) (sum k h)))
  where
    sum : (k : ℕ) → k ≤ 20 → k + (20 - k) ≡ 20
    sum k h = omega arith

    whole : 2 ^ k * side k ≡ 2 ^ 20 → 2 ^ k * side k ≤ parts
    whole e = omega arith

-- and below the end: the last cell begins before it
pub low_below : (k i : ℕ) → k ≤ 20 → i < 2 ^ k → low k i < parts
low_below k i h g =
    let e : 2 ^ k * side k ≡ 2 ^ 20 = sym (pow-add 2 k (20 - k)) ∙ ap (λ (n : ℕ). 2 ^ n) (sum k h) in
    let p : 0 < side k = pow_pos (20 - k) in
    let l : low k i < 2 ^ k * side k = mul-lt-mul_of_pos_right g p in
    omega arith
  where
    sum : (k : ℕ) → k ≤ 20 → k + (20 - k) ≡ 20
    sum k h = omega arith

pub low_domain : (S : Query) (k : Depths) (b : Box) → S.deepest ≤ 20 → Shallow S k → InGrid k b → T (inside S k b) → Domain S (low_place k b)
unfolding inside
low_domain S k b deep h g t =
    record {
      positive = omega arith;
      t = low_parts k.t b.t (le_trans h.t deep) g.t;
      u = low_parts k.u b.u (le_trans h.u deep) g.u;
      v = low_parts k.v b.v (le_trans h.v deep) g.v;
      face = λ f. leb→le _ parts (face S.is_face _ f (parts_of (leb (low k.t b.t) S.last) _ t).1);
      until = mul-le-mul_right parts (leb→le _ S.last (parts_of (leb (low k.t b.t) S.last) _ t).0);
    }
  where
    face : (f x : Bool) → T f → T (not f || x) → T x
    face true x p t = t
    face false x p t = absurd p

-- ---- of a record
module _ (r : Record) (words : ℕ) where
  pub in_domain_lem : {m : Place} → OnBodies r m → UpToCap r m → Domain (query r words) m
  in_domain_lem b h = record { positive = b.positive; t = b.t; u = b.u; v = b.v; face = b.face; until = h }

  pub on_bodies : {m : Place} → Domain (query r words) m → OnBodies r m
  on_bodies d = record { positive = d.positive; t = d.t; u = d.u; v = d.v; face = d.face }
