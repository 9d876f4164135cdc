-- A box of a level fits a word, and its halves are boxes of the next level.
use Rattle.std.specs.Prelude.{◌≡◌, Bool, true, false, ℕ, ◌+◌, ◌*◌, ◌^◌, ◌<◌}
use Rattle.std.proofs.Common.{lt_of_lt_of_le, pow-suc, add-one, arith, pow_mono}
use Rattle.rules.specs.declared.Parameter.{Parameter}
use Rattle.rules.specs.declared.Parameter.TheVariants.{InT, InU, InV}
use Rattle.rules.specs.Search.{Box, Depths, stored, deeper}
use Rattle.kernel.specs.Ranges.{Shallow, InGrid}
use Rattle.boxes.specs.Boxes.{box_of, half_of, Fits}
use Rattle.queue.specs.Level.{OfLevel, Splits}

pub fits_grid : (k : Depths) (b : Box) → Shallow 20 k → InGrid k b → Fits b
fits_grid k b s g = record {
  t = lt_of_lt_of_le g.t (pow_mono s.t);
  u = lt_of_lt_of_le g.u (pow_mono s.u);
  v = lt_of_lt_of_le g.v (pow_mono s.v);
}

double : (k : ℕ) → 2 ^ (k + 1) ≡ 2 * 2 ^ k
double k = rw (add-one, pow-suc) (omega arith)

pub stored_fits : (k : Depths) (b : Box) (w : ℕ) → Shallow 20 k → InGrid k b → w ≡ stored b → w < 2 ^ 60
stored_fits k b w s g e = let h = fits_grid k b s g in omega (arith, e, h.t, h.u, h.v)

-- a word of a box of the level
pub stored_of_level : (k : Depths) (b : Box) (w : ℕ) → Shallow 20 k → InGrid k b → w ≡ stored b → box_of w ≡ b → OfLevel k w
stored_of_level k b w s g e f = record { grid = rw f g; fits = stored_fits k b w s g e }

-- one bit more
more_low : (i k : ℕ) → i < 2 ^ k → 2 * i < 2 ^ (k + 1)
more_low i k h = omega (arith, double k)

more_high : (i k : ℕ) → i < 2 ^ k → 2 * i + 1 < 2 ^ (k + 1)
more_high i k h = omega (arith, double k)

pub half_grid : (p : Parameter) (high : Bool) (k : Depths) (b : Box) → InGrid k b → InGrid (deeper p k) (half_of p high b)
half_grid InT false k b g = record { t = more_low _ _ g.t; u = g.u; v = g.v }
half_grid InT true k b g = record { t = more_high _ _ g.t; u = g.u; v = g.v }
half_grid InU false k b g = record { t = g.t; u = more_low _ _ g.u; v = g.v }
half_grid InU true k b g = record { t = g.t; u = more_high _ _ g.u; v = g.v }
half_grid InV false k b g = record { t = g.t; u = g.u; v = more_low _ _ g.v }
half_grid InV true k b g = record { t = g.t; u = g.u; v = more_high _ _ g.v }

pub splits_grid : (p : Parameter) (k : Depths) (w : ℕ) → OfLevel k w → Splits (deeper p k) p w
splits_grid p k w g = record { fits = g.fits; halves = λ high. half_grid p high k (box_of w) g.grid }
