-- A pair that asks of the written search what a record asks, and that is in range.
use Rattle.std.specs.Prelude.{◌≡◌, refl, Bool, true, false, cond, ◌&&◌, ℕ, ◌%◌, ◌^◌, ◌≤◌, eqb, pos}
use Rattle.std.proofs.Common.{sym, ap, ap₂, ◌∙◌, arith, lit≤}
use Rattle.whole.specs.Within.{within_more}
use Rattle.rules.specs.declared.Record.{Record}
use Rattle.rules.specs.Numbers.{limits_of, parts, half, last_moment}
use Rattle.rules.specs.declared.Axis.{Axis}
use Rattle.rules.specs.declared.Axis.TheVariants.{X, Y, Z}
use Rattle.rules.specs.Gap.{place, gap_on, is_vertex_face, sided, separation_on}
use Rattle.rules.specs.Refusals.{search_refusal}
use Rattle.rules.specs.Search.{Query, query, origin, survives}
use Rattle.kernel.specs.declared.Kernel.{Kernel}
use Rattle.kernel.specs.declared.Pair.{Pair}
use Rattle.kernel.specs.Kernel.{kern, kernel_of, asked, on_axis, apart_on}
use Rattle.kernel.specs.Same.{gap_kernel}
use Rattle.kernel.specs.Ranges.{Held, Ranged, editions_held, editions_deep}
use Rattle.refusals.specs.Accepted.{accepted_search}
use Rattle.gap.specs.Corners.{meets}
use Rattle.gap.specs.Cube.{whole_cube}
use Rattle.gap.specs.Asked.{by_height}
use Rattle.gap.specs.Points.{Coordinates, kernel_at, kernel_at_is, kernel_small, is_y}

pub record Prepared (r : Record) (words : ℕ) (p : Pair) : Type 0 where
  pub asks : asked p ≡ query r words
  pub ranged : Ranged p

-- "Flag bit 0 set"
abbrev pub flagged : Record → Bool
flagged r = eqb (r.flags % 2) 1

abbrev pub axis_of : Record → Axis → Kernel
axis_of r axis = kernel_at r.points (place axis) (is_y axis && flagged r) (is_vertex_face r)

abbrev pub pair_of : Record → ℕ → Pair
pair_of r words =
    record {
      x = axis_of r X;
      y = axis_of r Y;
      z = axis_of r Z;
      dx = r.dx;
      dy = r.dy;
      dz = r.dz;
      face = is_vertex_face r;
      tolerance = r.tolerance;
      budget = r.budget;
      room = half words;
      deepest = (limits_of r.edition).deepest;
      last = last_moment r.cap;
    }

last_most : (whole : Bool) {cap : ℕ} → cap ≤ 1_048_576 → cond whole parts cap ≤ 1_048_576
last_most true h = lit≤ tt
last_most false h = h

module _ (r : Record) (words : ℕ) where
  on_axis_lem : (axis : Axis) → on_axis (pair_of r words) axis ≡ kernel_of (is_vertex_face r) (sided r) axis
  unfolding sided
  on_axis_lem X = kernel_at_is (flagged r) (is_vertex_face r) r.points X
  on_axis_lem Y = kernel_at_is (flagged r) (is_vertex_face r) r.points Y
  on_axis_lem Z = kernel_at_is (flagged r) (is_vertex_face r) r.points Z

  gap_is : (axis : Axis) (q a b c : ℕ) → (asked (pair_of r words)).gap axis q a b c ≡ gap_on (is_vertex_face r) (sided r) axis q a b c
  gap_is axis q a b c = ap (λ (K : Kernel). kern K (pos q) (pos a) (pos b) (pos c)) (on_axis_lem axis) ∙ sym (gap_kernel (sided r) axis q a b c (is_vertex_face r))

  separation_is : (axis : Axis) → apart_on (pair_of r words) axis ≡ separation_on r axis
  separation_is X = refl
  separation_is Y = refl
  separation_is Z = refl

  pair_asks : asked (pair_of r words) ≡ query r words
  pair_asks =
      λ i. record {
        gap = λ axis q a b c. gap_is axis q a b c i;
        is_face = is_vertex_face r;
        separation = λ axis. separation_is axis i;
        tolerance = r.tolerance;
        budget = r.budget;
        room = half words;
        deepest = (limits_of r.edition).deepest;
        last = last_moment r.cap;
      }

  -- of every edition coordinate and depth limit go together
  pub held : Held (limits_of r.edition).coordinate (2 ^ (limits_of r.edition).deepest)
  held = editions_held (eqb r.edition 3)

  pub in_range : search_refusal r words ≡ 0 → Coordinates (limits_of r.edition).coordinate r.points
  in_range e = λ i. record { most = (accepted_search r words e).query.coordinate i }

  pub coordinates : search_refusal r words ≡ 0 → Coordinates 536_870_912 r.points
  coordinates e = λ i. within_more (omega (arith, held.coordinate_most)) (in_range e i)

  pub pair_prepared : search_refusal r words ≡ 0 → Prepared r words (pair_of r words)
  pair_prepared e =
      let h = accepted_search r words e in
      let a = h.query in
      let small = kernel_small r.points held (in_range e) in
      record {
        asks = pair_asks;
        ranged =
            record {
              deepest = editions_deep (eqb r.edition 3);
              x = small 0 (is_y X && flagged r) (is_vertex_face r);
              y = small 1 (is_y Y && flagged r) (is_vertex_face r);
              z = small 2 (is_y Z && flagged r) (is_vertex_face r);
              dx = a.dx;
              dy = a.dy;
              dz = a.dz;
              tolerance = a.tolerance_most;
              least_budget = a.budget_least;
              budget = a.budget_most;
              least_room = omega (arith, h.words_least);
              room = omega (arith, h.words_most);
              last = last_most (eqb r.cap 0) a.cap;
            };
      }

-- ---- the whole cube, axis by axis as they are reached

module _ (r : Record) (words : ℕ) where
  abbrev at : Axis → ℕ → Bool
  at axis d = meets (axis_of r axis) whole_cube d

  pub whole : (at Z r.dz && (at X r.dx && at Y r.dy)) ≡ survives (query r words) origin origin
  whole = by_height {d = 0} (lit≤ tt) (pair_of r words) origin origin (record { t = lit≤ tt; u = lit≤ tt; v = lit≤ tt }) ∙ ap (λ (q : Query). survives q origin origin) (pair_asks r words)

  module _ {z : Bool} (a : z ≡ at Z r.dz) where
    pub misses_z : z ≡ false → false ≡ survives (query r words) origin origin
    misses_z e = sym (ap₂ ◌&&◌ (sym a ∙ e) (refl {a = at X r.dx && at Y r.dy})) ∙ whole

    module _ {x : Bool} (e : z ≡ true) (b : x ≡ at X r.dx) where
      pub misses_x : x ≡ false → false ≡ survives (query r words) origin origin
      misses_x f = sym (ap₂ ◌&&◌ (sym a ∙ e) (ap₂ ◌&&◌ (sym b ∙ f) (refl {a = at Y r.dy}))) ∙ whole

      pub goes_by_y : {y : Bool} → x ≡ true → y ≡ at Y r.dy → y ≡ survives (query r words) origin origin
      goes_by_y f d = d ∙ sym (ap₂ ◌&&◌ (sym a ∙ e) (ap₂ ◌&&◌ (sym b ∙ f) (refl {a = at Y r.dy}))) ∙ whole

  -- an axis that misses, whichever it is
  pub misses_any : (axis : Axis) → at axis (separation_on r axis) ≡ false → survives (query r words) origin origin ≡ false
  misses_any Z e = sym whole ∙ ap (λ (b : Bool). b && (at X r.dx && at Y r.dy)) e
  misses_any X e = sym whole ∙ ap (λ (b : Bool). at Z r.dz && (b && at Y r.dy)) e ∙ none (at Z r.dz)
    where
      none : (b : Bool) → (b && false) ≡ false
      none true = refl
      none false = refl
  misses_any Y e = sym whole ∙ ap (λ (b : Bool). at Z r.dz && (at X r.dx && b)) e ∙ none (at Z r.dz) (at X r.dx)
    where
      none : (b c : Bool) → (b && (c && false)) ≡ false
      none true true = refl
      none true false = refl
      none false c = refl
