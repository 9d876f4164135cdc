-- That no step of the corner calculation leaves an `i64`, over a coordinate limit C and q parts, where C·q·q is at most 2^60: the six numbers
-- of an axis are within 2·C, a blend within 2·C·q, a term of F within 2·C·q·q, and F within 3·2^61.
use Rattle.std.specs.Prelude.{◌≡◌, [], ◌∷◌, ℕ, ◌+◌, ◌-◌, ◌*◌, ◌^◌, ◌≤◌, ℤ, pos, negsuc, nat_abs, ◌+ℤ◌, ◌-ℤ◌, ◌*ℤ◌}
use Rattle.std.proofs.Common.{ap, arith, add-mul, mul-le-mul, mul-le-mul_right, SFits, to_z}
use Rattle.std.specs.Int.{w64}
use Rattle.whole.specs.Read.{cast_back}
use Rattle.whole.specs.View.{up, dn, minus_view}
use Rattle.whole.specs.Order.{min_pick, max_pick}
use Rattle.whole.specs.Ring.{var, ◌:+◌, ◌:*◌, ◌:-◌}
use Rattle.whole.proofs.Ring.{ring}
use Rattle.whole.specs.Within.{Within, abs_mul, within_add, within_sub, within_mul, within_pos, within_more, fits}
use Rattle.rules.specs.declared.Three.{Three}
use Rattle.kernel.specs.declared.Kernel.{Kernel}
use Rattle.kernel.specs.declared.Pair.{Pair}
use Rattle.kernel.specs.Ranges.{Held, Small}
use Rattle.gap.specs.declared.cell.Cell.{Cell}
use Rattle.gap.specs.declared.span.Moment.{Moment}
use Rattle.gap.specs.declared.span.Span.{Span}
use Rattle.gap.specs.Corners.{cell_of, unit_of, blended, moment_of, span_of}

-- ---- what the functions may rely on

pub record InParts (w : Cell) : Type 0 where
  pub parts_least : 1 ≤ w.parts
  pub parts_most : w.parts ≤ 1_048_576
  pub t0 : w.t0 ≤ w.parts
  pub t1 : w.t1 ≤ w.parts
  pub u0 : w.u0 ≤ w.parts
  pub u1 : w.u1 ≤ w.parts
  pub v0 : w.v0 ≤ w.parts
  pub v1 : w.v1 ≤ w.parts

-- what is known of a box's cell
pub record Placed (deepest : ℕ) (k i : Three) (w : Cell) : Type 0 where
  pub is : w ≡ cell_of deepest k i
  pub in_parts : InParts w

-- a pair and a cell of it
pub record Over (p : Pair) (w : Cell) : Type 0 where
  pub in_parts : InParts w
  pub deepest : p.deepest ≤ 20
  pub parts : w.parts ≡ 2 ^ p.deepest
  pub x : Small w.parts p.x
  pub y : Small w.parts p.y
  pub z : Small w.parts p.z
  pub dx : p.dx ≤ 65_536
  pub dy : p.dy ≤ 65_536
  pub dz : p.dz ≤ 65_536
  pub tolerance : p.tolerance ≤ 1_048_576

-- a term of F, at most
abbrev pub term_most : ℕ
term_most = 2_305_843_009_213_693_952

pub record SmallMoment (M : ℕ) (m : Moment) : Type 0 where
  pub a : Within M m.a
  pub b : Within M m.b
  pub c : Within M m.c

pub record SmallSpan (M : ℕ) (s : Span) : Type 0 where
  pub least : Within M s.least
  pub greatest : Within M s.greatest

-- A, B, C at a moment, over q parts: each times q is a term of F
pub record Fine (q : ℕ) (m : Moment) : Type 0 where
  pub itself : SmallMoment term_most m
  pub a : Within term_most (pos q *ℤ m.a)
  pub b : Within term_most (pos q *ℤ m.b)
  pub c : Within term_most (pos q *ℤ m.c)

-- ---- the limits

module _ {C q : ℕ} (h : Held C q) where
  pub flat : C + C ≤ 1_073_741_824
  flat = omega (arith, h.coordinate_most)

  pub once : q * (C + C) ≤ term_most
  once = omega (arith, mul-le-mul_right (q * C) h.parts_least, h.product)

  pub twice : q * (q * (C + C)) ≤ term_most
  twice = omega (arith, h.product)

-- ---- one number between its two ends

pub record Blends (q t x y : ℤ) : Type 0 where
  pub whole : SFits w64 (q *ℤ x)
  pub change : SFits w64 (y -ℤ x)
  pub part : SFits w64 (t *ℤ (y -ℤ x))
  pub sum : SFits w64 (q *ℤ x +ℤ t *ℤ (y -ℤ x))
  pub is : q *ℤ x +ℤ t *ℤ (y -ℤ x) ≡ blended q t x y

-- one product in place of two
blend_is : (q t x y : ℤ) → q *ℤ x +ℤ t *ℤ (y -ℤ x) ≡ blended q t x y
blend_is q t x y = ring (q ∷ t ∷ x ∷ y ∷ []) (var 0 :* var 2 :+ var 1 :* (var 3 :- var 2)) ((var 0 :- var 1) :* var 2 :+ var 1 :* var 3) tt

rest_within : {q t : ℕ} → t ≤ q → Within (q - t) (pos q -ℤ pos t)
rest_within {q} {t} h = record { most = small (pos q -ℤ pos t) (minus_view (pos q) (pos t)) }
  where
    small : (z : ℤ) → up z + (0 + t) ≡ q + 0 + dn z → nat_abs z ≤ q - t
    small (pos k) e = omega arith
    small (negsuc k) e = omega arith

rest_and : {q t : ℕ} (m : ℕ) → t ≤ q → (q - t) * m + t * m ≤ q * m
rest_and {q} {t} m h = let e : (q - t) + t ≡ q = omega arith in omega (arith, add-mul (q - t) t m, ap (λ (n : ℕ). n * m) e)

pub in_parts_lem : {n q : ℕ} → n ≤ q → Within q (pos n)
in_parts_lem {n} h = within_more h (within_pos n)

module _ {C q t : ℕ} {x y : ℤ} (h : Held C q) (ht : t ≤ q) (hx : Within (C + C) x) (hy : Within (C + C) y) where
  pub blend_within : Within (q * (C + C)) (blended (pos q) (pos t) x y)
  blend_within = within_more (rest_and (C + C) ht) (within_add (within_mul (rest_within ht) hx) (within_mul (within_pos t) hy))

  pub blends : Blends (pos q) (pos t) x y
  blends =
      let whole : Within term_most (pos q *ℤ x) = within_more (once h) (within_mul (within_pos q) hx) in
      let part : Within (term_most + term_most) (pos t *ℤ (y -ℤ x)) = within_more (omega (arith, once h)) (within_mul (in_parts_lem ht) (within_sub hy hx)) in
      record {
        whole = fits tt whole;
        change = fits tt (within_more {N = term_most} (omega (arith, flat h)) (within_sub hy hx));
        part = fits tt part;
        sum = fits tt (within_add whole part);
        is = blend_is (pos q) (pos t) x y;
      }

  once_within : Within term_most (blended (pos q) (pos t) x y)
  once_within = within_more (once h) blend_within

  twice_within : Within term_most (pos q *ℤ blended (pos q) (pos t) x y)
  twice_within = within_more (twice h) (within_mul (within_pos q) blend_within)

pub moment_fine : {q t : ℕ} {K : Kernel} → Small q K → t ≤ q → Fine q (moment_of q K t)
moment_fine s ht =
    let h = s.held in
    record {
      itself = record { a = once_within h ht s.a0 s.a1; b = once_within h ht s.b0 s.b1; c = once_within h ht s.c0 s.c1 };
      a = twice_within h ht s.a0 s.a1;
      b = twice_within h ht s.b0 s.b1;
      c = twice_within h ht s.c0 s.c1;
    }

-- a number of the kernel by itself
pub number_within : {C q : ℕ} {x : ℤ} → Held C q → Within (C + C) x → Within 1_073_741_824 x
number_within h g = within_more (flat h) g

-- ---- a term of F, and their sum

pub term_within : {n q : ℕ} (s : ℤ) → n ≤ q → Within term_most (pos q *ℤ s) → Within term_most (pos n *ℤ s)
term_within {n} {q} s h g = record { most = omega (arith, abs_mul (pos n) s, abs_mul (pos q) s, mul-le-mul_right (nat_abs s) h, g.most) }

-- s times two numbers
pub record Reaches (lo hi : ℕ) (s : ℤ) : Type 0 where
  pub lo_most : lo ≤ 1_048_576
  pub hi_most : hi ≤ 1_048_576
  pub low : Within term_most (pos lo *ℤ s)
  pub high : Within term_most (pos hi *ℤ s)

pub reaches : {lo hi q : ℕ} (s : ℤ) → q ≤ 1_048_576 → lo ≤ q → hi ≤ q → Within term_most (pos q *ℤ s) → Reaches lo hi s
reaches s hq hl hh g = record { lo_most = omega arith; hi_most = omega arith; low = term_within s hl g; high = term_within s hh g }

pub record Sums (x : ℤ) (s t : Span) : Type 0 where
  pub first : SFits w64 x
  pub least : SFits w64 s.least
  pub least' : SFits w64 t.least
  pub greatest : SFits w64 s.greatest
  pub greatest' : SFits w64 t.greatest
  pub low : SFits w64 (x +ℤ s.least)
  pub lows : SFits w64 (x +ℤ s.least +ℤ t.least)
  pub high : SFits w64 (x +ℤ s.greatest)
  pub highs : SFits w64 (x +ℤ s.greatest +ℤ t.greatest)

pub sums : {x : ℤ} {s t : Span} → Within term_most x → SmallSpan term_most s → SmallSpan term_most t → Sums x s t
sums h f g =
    record {
      first = fits tt h;
      least = fits tt f.least;
      least' = fits tt g.least;
      greatest = fits tt f.greatest;
      greatest' = fits tt g.greatest;
      low = fits tt (within_add h f.least);
      lows = fits tt (within_add (within_add h f.least) g.least);
      high = fits tt (within_add h f.greatest);
      highs = fits tt (within_add (within_add h f.greatest) g.greatest);
    }

pub span_small : {M : ℕ} {x y : ℤ} → Within M x → Within M y → SmallSpan M (span_of x y)
span_small {M} {x} {y} f g = record { least = min_pick (Within M) x y f g; greatest = max_pick (Within M) x y f g }

-- ---- as they are read back

-- a number of parts cast to an `i64`
pub read_part : {n : ℕ} → n ≤ 1_048_576 → to_z w64 n ≡ pos n
read_part h = cast_back w64 (omega arith)

-- no end of a cell is more parts than that
pub part_most : {w : Cell} {n : ℕ} → InParts w → n ≤ w.parts → n ≤ 1_048_576
part_most h g = omega (arith, h.parts_most)

pub unit_most : {w : Cell} → InParts w → unit_of w ≤ 1_099_511_627_776
unit_most h = omega (arith, mul-le-mul h.parts_most h.parts_most)

pub units_most : {w : Cell} {n : ℕ} → InParts w → n ≤ 1_048_576 → n * unit_of w ≤ 1_152_921_504_606_846_976
units_most h g = omega (arith, mul-le-mul g (unit_most h))

-- a separation in units
pub limit_within : {w : Cell} {d : ℕ} → InParts w → d ≤ 65_536 → Within term_most (pos (d * unit_of w))
limit_within {w} {d} h g = within_more (omega (arith, units_most {n = d} h (omega arith))) (within_pos (d * unit_of w))
