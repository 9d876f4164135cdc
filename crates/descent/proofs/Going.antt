-- One level further down: the half is a box of the grid; and the written descent, by what the box misses and the number of levels left.
use mathlib.Core.Path.{◌≡◌, refl, sym, ap, ◌∙◌}
use mathlib.Core.Bool.{Bool, true, false, cond, ◌&&◌}
use Prim.Native.Nat.{ℕ, zero, suc, ◌-◌, ◌<◌}
use native.Mathlib.Omega.{arith}
use lib.Dec.{eqb}
use borrow.Author.Tests.{eqb-true}
use Rattle.std.specs.Prelude.{Option, Some, None}
use Rattle.rules.specs.declared.Three.{Three}
use Rattle.rules.specs.declared.Parameter.{Parameter}
use Rattle.rules.specs.declared.Parameter.TheVariants.{InT, InU, InV}
use Rattle.rules.specs.declared.Stop.{Stop}
use Rattle.rules.specs.declared.Miss.{Miss}
use Rattle.rules.specs.declared.Ruling.TheVariants.{Discarded, Refused}
use Rattle.rules.specs.Search.{Query, full, split, deeper, low_half, high_half}
use Rattle.rules.specs.Why.{goes_up, holding, missed, half_of, reason_of, name_or, descend}
use Rattle.kernel.specs.declared.Pair.{Pair}
use Rattle.kernel.specs.Kernel.{asked}
use Rattle.kernel.specs.Ranges.{Shallow, shallower, InGrid}
use Rattle.queue.specs.Grid.{half_grid as grid-of-half}
use Rattle.search.specs.Levels.{depth_in}
use Rattle.search.proofs.Deepening.{split_deepest, deeper_total, deeper_shallow}
use Rattle.descent.specs.Way.{Halves, Good}

-- ---- a level that is split
module _ (p : Pair) (s : Stop) (h : Good p s 1) where
  abbrev way : Parameter
  way = split (asked p) s.depths

  not_full : full (asked p) s.depths ≡ false
  not_full = go (eqb s.depths.t p.deepest) (eqb s.depths.u p.deepest) (eqb s.depths.v p.deepest) refl refl refl
    where
      go : (x y z : Bool) → eqb s.depths.t p.deepest ≡ x → eqb s.depths.u p.deepest ≡ y → eqb s.depths.v p.deepest ≡ z → (x && y && z) ≡ false
      go true true true d e f = absurd (omega (arith, eqb-true s.depths.t p.deepest d, eqb-true s.depths.u p.deepest e, eqb-true s.depths.v p.deepest f, h.levels))
      go true true false d e f = refl
      go true false z d e f = refl
      go false y z d e f = refl

  not_deepest : depth_in way s.depths ≡ p.deepest → ⊥
  not_deepest = split_deepest (asked p) s.depths not_full

  pub halves : Halves way s.depths s.index
  halves = record { shallow = shallower h.ranged.deepest h.shallow; grid = h.grid; below = below way not_deepest }
    where
      below : (q : Parameter) → (depth_in q s.depths ≡ p.deepest → ⊥) → depth_in q s.depths < 20
      below InT f = omega (arith, f, h.shallow.t, h.ranged.deepest)
      below InU f = omega (arith, f, h.shallow.u, h.ranged.deepest)
      below InV f = omega (arith, f, h.shallow.v, h.ranged.deepest)

  half_shallow : (at : Three) → Shallow p.deepest (half_of (asked p) at s).depths
  half_shallow at = deeper_shallow way s.depths not_deepest h.shallow

  half_grid : (at : Three) → InGrid (half_of (asked p) at s).depths (half_of (asked p) at s).index
  unfolding holding
  half_grid at = go (goes_up way s.depths s.index at)
    where
      go : (b : Bool) → InGrid (deeper way s.depths) (cond b (high_half way s.index) (low_half way s.index))
      go true = grid-of-half way true s.depths s.index h.grid
      go false = grid-of-half way false s.depths s.index h.grid

module _ (p : Pair) (s : Stop) (left : ℕ) (some : left ≡ 0 → ⊥) (g : Good p s left) where
  pub good_once : Good p s 1
  good_once = record { ranged = g.ranged; shallow = g.shallow; grid = g.grid; levels = omega (arith, g.levels, some) }

  pub good_half : (at : Three) → Good p (half_of (asked p) at s) (left - 1)
  good_half at =
      record {
        ranged = g.ranged;
        shallow = half_shallow p s good_once at;
        grid = half_grid p s good_once at;
        levels = omega (arith, g.levels, some, deeper_total (split (asked p) s.depths) s.depths);
      }

-- ---- the written descent
module _ (q : Query) (at : Three) (s : Stop) where
  pub descend_out : (n : ℕ) (m : Miss) → missed q s.depths s.index ≡ Some m → descend n q at s ≡ Discarded (reason_of s m.axis m.side)
  unfolding descend
  descend_out zero m e = ap (λ (m : Option Miss). name_or m s (Refused 0)) e
  descend_out (suc n) m e = ap (λ (m : Option Miss). name_or m s (descend n q at (half_of q at s))) e

  pub descend_end : (n : ℕ) → n ≡ 0 → missed q s.depths s.index ≡ None → descend n q at s ≡ Refused 0
  unfolding descend
  descend_end zero z e = ap (λ (m : Option Miss). name_or m s (Refused 0)) e
  descend_end (suc n) z e = absurd (omega arith)

  pub descend_on : (n : ℕ) → (n ≡ 0 → ⊥) → missed q s.depths s.index ≡ None → descend n q at s ≡ descend (n - 1) q at (half_of q at s)
  unfolding descend
  descend_on zero z e = absurd (z refl)
  descend_on (suc n) z e =
      let one : suc n - 1 ≡ n = omega arith in
      ap (λ (m : Option Miss). name_or m s (descend n q at (half_of q at s))) e ∙ sym (ap (λ (j : ℕ). descend j q at (half_of q at s)) one)
