-- What all boxes of a level with one t index share: at a moment F over a cell is F over the cell at u and v index 0, moved by its low corner.
use Rattle.std.specs.Prelude.{◌≡◌, refl, Bool, [], ◌∷◌, ℕ, ◌+◌, ◌-◌, ◌*◌, ◌^◌, ◌≤◌, ℤ, neg_ℤ, ◌+ℤ◌, ◌-ℤ◌, ◌*ℤ◌}
use Rattle.std.proofs.Math.Path.{sym, ap₂}
use Rattle.std.proofs.Common.{ap, ◌∙◌, subst, arith, mul-le-mul}
use Rattle.std.proofs.Math.Bool.{◌&&◌, ◌||◌}
use Rattle.std.proofs.Math.Nat.{le_of_lt}
use Rattle.std.proofs.Math.IntN.{pos}
use Rattle.std.specs.Int.Signed.{le_z}
use Rattle.whole.specs.Defs.{min_z, max_z}
use Rattle.whole.specs.Order.{min_add, max_add, min_test, max_test, sum_below, sum_above}
use Rattle.whole.specs.Ring.{var, num, ◌:+◌, ◌:*◌}
use Rattle.whole.proofs.Ring.{ring}
use Rattle.whole.specs.Within.{Within, within_sub, within_neg, within_pos, within_more}
use Rattle.rules.specs.declared.Three.{Three}
use Rattle.rules.specs.Search.{survives}
use Rattle.kernel.specs.declared.Kernel.{Kernel}
use Rattle.kernel.specs.declared.Pair.{Pair}
use Rattle.kernel.specs.Kernel.{asked}
use Rattle.kernel.specs.Ranges.{Small, Ranged, Shallow, InGrid}
use Rattle.gap.specs.declared.cell.Cell.{Cell}
use Rattle.gap.specs.declared.span.Moment.{Moment}
use Rattle.gap.specs.declared.span.Span.{Span}
use Rattle.gap.specs.declared.slab.Edge.{Edge}
use Rattle.gap.specs.declared.slab.Strip.{Strip}
use Rattle.gap.specs.declared.slab.Slab.{Slab}
use Rattle.gap.specs.Corners.{cell_of, unit_of, moment_of, span_at, joined, span_over, meets}
use Rattle.gap.specs.Affine.{span_over_lem}
use Rattle.gap.specs.Steps.{InParts, Fine, moment_fine, term_within, unit_most, term_most}
use Rattle.gap.specs.Bounds.{gap_most, span_within}
use Rattle.gap.specs.Grid.{in_parts_of, index_most}
use Rattle.gap.specs.Asked.{by_height}

-- by the cell w at u and v index 0, for a separation of `limit`
abbrev pub edge_of : Moment → Cell → ℤ → Edge
edge_of m w limit =
    record {
      u = pos w.u1 *ℤ m.b;
      v = pos w.v1 *ℤ m.c;
      from = neg_ℤ limit -ℤ (span_at m w).greatest;
      to = limit -ℤ (span_at m w).least;
    }

abbrev pub strip_of : Kernel → Cell → ℕ → Strip
strip_of K w d =
    record {
      start = edge_of (moment_of w.parts K w.t0) w (pos (d * unit_of w));
      end = edge_of (moment_of w.parts K w.t1) w (pos (d * unit_of w));
    }

-- the cell at u and v index 0
abbrev pub row_of : ℕ → Three → ℕ → Cell
row_of deepest k t = cell_of deepest k (record { t = t; u = 0; v = 0 })

unfoldable pub slab_of : Pair → Three → ℕ → Slab
slab_of p k t = record { t = t; x = strip_of p.x row p.dx; y = strip_of p.y row p.dy; z = strip_of p.z row p.dz }
  where
    row : Cell
    row = row_of p.deepest k t

pub slab_is : (p : Pair) (k : Three) (t : ℕ) {w : Cell} {x y z : Strip} → w ≡ row_of p.deepest k t → x ≡ strip_of p.x w p.dx → y ≡ strip_of p.y w p.dy → z ≡ strip_of p.z w p.dz
    → record { t = t; x = x; y = y; z = z } ≡ slab_of p k t
unfolding slab_of
slab_is p k t e f g h =
    let x = f ∙ ap (λ (w : Cell). strip_of p.x w p.dx) e in
    let y = g ∙ ap (λ (w : Cell). strip_of p.y w p.dy) e in
    let z = h ∙ ap (λ (w : Cell). strip_of p.z w p.dz) e in
    λ i. record { t = t; x = x i; y = y i; z = z i }

-- it is that of its own t index
pub slab_own : (p : Pair) (k : Three) (t : ℕ) (s : Slab) → s ≡ slab_of p k t → s ≡ slab_of p k s.t
unfolding slab_of
slab_own p k t s e = e ∙ ap (λ (t : ℕ). slab_of p k t) (sym (ap (λ (s : Slab). s.t) e))

-- by a u and a v index
abbrev pub changed : Edge → ℕ → ℕ → ℤ
changed e u v = pos u *ℤ e.u +ℤ pos v *ℤ e.v

unfoldable pub meets_strip : Strip → ℕ → ℕ → Bool
meets_strip s u v =
    (le_z (changed s.start u v) s.start.to || le_z (changed s.end u v) s.end.to)
    && (le_z s.start.from (changed s.start u v) || le_z s.end.from (changed s.end u v))

-- ---- every step fits

-- a separation, and what bounds the changes, at most
abbrev pub limit_most : ℕ
limit_most = 72_057_594_037_927_936

pub record Moves (e : Edge) (u v : ℕ) : Type 0 where
  pub u_most : u ≤ 1_048_576
  pub v_most : v ≤ 1_048_576
  pub by_u : Within term_most e.u
  pub by_v : Within term_most e.v
  pub along_u : Within term_most (pos u *ℤ e.u)
  pub along_v : Within term_most (pos v *ℤ e.v)
  pub from : Within (limit_most + gap_most) e.from
  pub to : Within (limit_most + gap_most) e.to

pub record MovesStrip (s : Strip) (u v : ℕ) : Type 0 where
  pub start : Moves s.start u v
  pub end : Moves s.end u v

-- ---- a cell is the one at index 0, moved by its u and v index

pub record Shifted (i j : ℕ) (w w0 : Cell) : Type 0 where
  pub parts : w.parts ≡ w0.parts
  pub t0 : w.t0 ≡ w0.t0
  pub t1 : w.t1 ≡ w0.t1
  pub none_u : w0.u0 ≡ 0
  pub none_v : w0.v0 ≡ 0
  pub u0 : i * w0.u1 ≡ w.u0
  pub v0 : j * w0.v1 ≡ w.v0
  pub u1 : w.u1 ≡ w.u0 + w0.u1
  pub v1 : w.v1 ≡ w.v0 + w0.v1

pub shifted : (d : ℕ) (k b : Three) → Shifted b.u b.v (cell_of d k b) (row_of d k b.t)
shifted d k b =
    record {
      parts = refl;
      t0 = refl;
      t1 = refl;
      none_u = omega arith;
      none_v = omega arith;
      u0 = ap (λ (n : ℕ). b.u * n) (one (2 ^ (d - k.u)));
      v0 = ap (λ (n : ℕ). b.v * n) (one (2 ^ (d - k.v)));
      u1 = omega (arith, more b.u (2 ^ (d - k.u)));
      v1 = omega (arith, more b.v (2 ^ (d - k.v)));
    }
  where
    one : (s : ℕ) → (0 + 1) * s ≡ s
    one s = omega arith

    more : (n s : ℕ) → (n + 1) * s ≡ n * s + (0 + 1) * s
    more n s = omega arith

module _ (pick : ℤ → ℤ → ℤ) (add : (x y z : ℤ) → pick (x +ℤ y) (x +ℤ z) ≡ x +ℤ pick y z) where
  -- one term, by its low end
  term : (lo hi none side : ℕ) (b : ℤ) → none ≡ 0 → hi ≡ lo + side → pick (pos lo *ℤ b) (pos hi *ℤ b) ≡ pos lo *ℤ b +ℤ pick (pos none *ℤ b) (pos side *ℤ b)
  term lo hi none side b z e =
      ap₂ pick
      (ring (pos lo ∷ b ∷ []) (var 0 :* var 1) (var 0 :* var 1 :+ num (pos 0) :* var 1) tt ∙ ap (λ (n : ℕ). pos lo *ℤ b +ℤ pos n *ℤ b) (sym z))
      (ap (λ (n : ℕ). pos n *ℤ b) e ∙ ring (pos lo ∷ pos side ∷ b ∷ []) ((var 0 :+ var 1) :* var 2) (var 0 :* var 2 :+ var 1 :* var 2) tt)
      ∙ add (pos lo *ℤ b) (pos none *ℤ b) (pos side *ℤ b)

  at : (i j : ℕ) (w w0 : Cell) → Shifted i j w w0 → (m : Moment)
      → pos w.u0 *ℤ m.b +ℤ pos w.v0 *ℤ m.c +ℤ (pos w0.parts *ℤ m.a +ℤ pick (pos w0.u0 *ℤ m.b) (pos w0.u1 *ℤ m.b) +ℤ pick (pos w0.v0 *ℤ m.c) (pos w0.v1 *ℤ m.c))
      ≡ pos w.parts *ℤ m.a +ℤ pick (pos w.u0 *ℤ m.b) (pos w.u1 *ℤ m.b) +ℤ pick (pos w.v0 *ℤ m.c) (pos w.v1 *ℤ m.c)
  at i j w w0 s m =
      ring ((pos w.u0 *ℤ m.b) ∷ (pos w.v0 *ℤ m.c) ∷ (pos w0.parts *ℤ m.a) ∷ pick (pos w0.u0 *ℤ m.b) (pos w0.u1 *ℤ m.b) ∷ pick (pos w0.v0 *ℤ m.c) (pos w0.v1 *ℤ m.c) ∷ [])
      (var 0 :+ var 1 :+ (var 2 :+ var 3 :+ var 4)) (var 2 :+ (var 0 :+ var 3) :+ (var 1 :+ var 4)) tt
      ∙ ap₂ (λ (x y : ℤ). pos w0.parts *ℤ m.a +ℤ x +ℤ y)
      (sym (term w.u0 w.u1 w0.u0 w0.u1 m.b s.none_u s.u1))
      (sym (term w.v0 w.v1 w0.v0 w0.v1 m.c s.none_v s.v1))
      ∙ ap (λ (q : ℕ). pos q *ℤ m.a +ℤ pick (pos w.u0 *ℤ m.b) (pos w.u1 *ℤ m.b) +ℤ pick (pos w.v0 *ℤ m.c) (pos w.v1 *ℤ m.c)) (sym s.parts)

module _ (i j : ℕ) (w w0 : Cell) (s : Shifted i j w w0) where
  -- the changes by its indices are those to its low corner
  low_corner : (m : Moment) (limit : ℤ) → changed (edge_of m w0 limit) i j ≡ pos w.u0 *ℤ m.b +ℤ pos w.v0 *ℤ m.c
  low_corner m limit =
      ring (pos i ∷ pos j ∷ pos w0.u1 ∷ pos w0.v1 ∷ m.b ∷ m.c ∷ [])
      (var 0 :* (var 2 :* var 4) :+ var 1 :* (var 3 :* var 5)) (var 0 :* var 2 :* var 4 :+ var 1 :* var 3 :* var 5) tt
      ∙ ap₂ (λ (u v : ℕ). pos u *ℤ m.b +ℤ pos v *ℤ m.c) s.u0 s.v0

  below : (m : Moment) (limit : ℤ) → le_z (changed (edge_of m w0 limit) i j) (limit -ℤ (span_at m w0).least) ≡ le_z (span_at m w).least limit
  below m limit =
      sym (sum_below (changed (edge_of m w0 limit) i j) (span_at m w0).least limit)
      ∙ ap (λ (z : ℤ). le_z z limit) (ap (λ (x : ℤ). x +ℤ (span_at m w0).least) (low_corner m limit) ∙ at min_z min_add i j w w0 s m)

  above : (m : Moment) (limit : ℤ) → le_z (neg_ℤ limit -ℤ (span_at m w0).greatest) (changed (edge_of m w0 limit) i j) ≡ le_z (neg_ℤ limit) (span_at m w).greatest
  above m limit =
      sym (sum_above (changed (edge_of m w0 limit) i j) (span_at m w0).greatest (neg_ℤ limit))
      ∙ ap (le_z (neg_ℤ limit)) (ap (λ (x : ℤ). x +ℤ (span_at m w0).greatest) (low_corner m limit) ∙ at max_z max_add i j w w0 s m)

  both : (K : Kernel) → joined (span_at (moment_of w0.parts K w0.t0) w) (span_at (moment_of w0.parts K w0.t1) w) ≡ span_over K w
  both K =
      ap₂ (λ (t t' : ℕ). joined (span_at (moment_of w0.parts K t) w) (span_at (moment_of w0.parts K t') w)) (sym s.t0) (sym s.t1)
      ∙ ap (λ (q : ℕ). joined (span_at (moment_of q K w.t0) w) (span_at (moment_of q K w.t1) w)) (sym s.parts)
      ∙ span_over_lem K w

  pub strip_meets : (K : Kernel) (d : ℕ) → meets_strip (strip_of K w0 d) i j ≡ meets K w d
  unfolding meets_strip meets
  strip_meets K d =
      let limit = pos (d * unit_of w0) in
      let start = moment_of w0.parts K w0.t0 in
      let end = moment_of w0.parts K w0.t1 in
      ap₂ ◌&&◌
      (ap₂ ◌||◌ (below start limit) (below end limit) ∙ sym (min_test (span_at start w).least (span_at end w).least limit))
      (ap₂ ◌||◌ (above start limit) (above end limit) ∙ sym (max_test (span_at start w).greatest (span_at end w).greatest (neg_ℤ limit)))
      ∙ ap₂ (λ (x : Span) (q : ℕ). le_z x.least (pos (d * (q * q))) && le_z (neg_ℤ (pos (d * (q * q)))) x.greatest) (both K) (sym s.parts)

-- ---- every step of a box fits

pub limit_within : {w : Cell} {d : ℕ} → InParts w → d ≤ 65_536 → Within limit_most (pos (d * unit_of w))
limit_within {w} {d} g h = within_more (omega (arith, mul-le-mul h (unit_most g))) (within_pos (d * unit_of w))

pub record Edges (m : Moment) (w : Cell) (limit : ℤ) : Type 0 where
  pub by_u : Within term_most (edge_of m w limit).u
  pub by_v : Within term_most (edge_of m w limit).v
  pub from : Within (limit_most + gap_most) (edge_of m w limit).from
  pub to : Within (limit_most + gap_most) (edge_of m w limit).to

pub edges_within : {m : Moment} {w : Cell} {limit : ℤ} → Fine w.parts m → InParts w → Within limit_most limit → Edges m w limit
edges_within {m} f g h =
    let s = span_within f g in
    record {
      by_u = term_within m.b g.u1 f.b;
      by_v = term_within m.c g.v1 f.c;
      from = within_sub (within_neg h) s.greatest;
      to = within_sub h s.least;
    }

module _ {i j : ℕ} {K : Kernel} {w w0 : Cell} {d : ℕ} (s : Shifted i j w w0) (small : Small w0.parts K) (h : InParts w) (g : InParts w0) (most : d ≤ 65_536) (i-most : i ≤ 1_048_576) (j-most : j ≤ 1_048_576) where
  moves : {t : ℕ} → t ≤ w0.parts → Moves (edge_of (moment_of w0.parts K t) w0 (pos (d * unit_of w0))) i j
  moves {t} ht =
      let n = moment_of w0.parts K t in
      let m0 = moment_fine small ht in
      let m = subst (λ (q : ℕ). Fine q n) (sym s.parts) m0 in
      let e = edges_within m0 g (limit_within g most) in
      record {
        u_most = i-most;
        v_most = j-most;
        by_u = e.by_u;
        by_v = e.by_v;
        along_u = subst (Within term_most) (sym (product i w0.u1 w.u0 s.u0 n.b)) (term_within n.b h.u0 m.b);
        along_v = subst (Within term_most) (sym (product j w0.v1 w.v0 s.v0 n.c)) (term_within n.c h.v0 m.c);
        from = e.from;
        to = e.to;
      }
    where
      product : (i n lo : ℕ) → i * n ≡ lo → (b : ℤ) → pos i *ℤ (pos n *ℤ b) ≡ pos lo *ℤ b
      product i n lo e b = ring (pos i ∷ pos n ∷ b ∷ []) (var 0 :* (var 1 :* var 2)) (var 0 :* var 1 :* var 2) tt ∙ ap (λ (x : ℕ). pos x *ℤ b) e

  pub moves_strip : MovesStrip (strip_of K w0 d) i j
  moves_strip = record { start = moves g.t0; end = moves g.t1 }

-- ---- a box of a level, with what its t index shares

pub record Ready (p : Pair) (k i : Three) (s : Slab) : Type 0 where
  pub x : MovesStrip s.x i.u i.v
  pub y : MovesStrip s.y i.u i.v
  pub z : MovesStrip s.z i.u i.v
  pub by : (meets_strip s.z i.u i.v && (meets_strip s.x i.u i.v && meets_strip s.y i.u i.v)) ≡ survives (asked p) k i

pub first_of_row : {k i : Three} → InGrid k i → InGrid k (record { t = i.t; u = 0; v = 0 })
first_of_row g = record { t = g.t; u = omega (arith, g.u); v = omega (arith, g.v) }

module _ (p : Pair) (k i : Three) (r : Ranged p) (h : Shallow p.deepest k) (g : InGrid k i) where
  ready_in : Ready p k i (slab_of p k i.t)
  unfolding slab_of
  ready_in =
      let d = p.deepest in
      let w = in_parts_of r.deepest h g in
      let w0 = in_parts_of r.deepest h (first_of_row g) in
      let s = shifted d k i in
      let u = le_of_lt (index_most r.deepest h.u g.u) in
      let v = le_of_lt (index_most r.deepest h.v g.v) in
      record {
        x = moves_strip s r.x w w0 r.dx u v;
        y = moves_strip s r.y w w0 r.dy u v;
        z = moves_strip s r.z w w0 r.dz u v;
        by =
            ap₂ ◌&&◌ (strip_meets i.u i.v (cell_of d k i) (row_of d k i.t) s p.z p.dz)
            (ap₂ ◌&&◌ (strip_meets i.u i.v (cell_of d k i) (row_of d k i.t) s p.x p.dx) (strip_meets i.u i.v (cell_of d k i) (row_of d k i.t) s p.y p.dy))
            ∙ by_height r.deepest p k i h;
      }

  pub ready : (s : Slab) → s ≡ slab_of p k i.t → Ready p k i s
  ready s e = rw e ready_in
