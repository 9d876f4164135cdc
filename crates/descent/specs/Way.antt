-- What is known of a box on the way down to a point.
use Rattle.std.specs.Prelude.{ℕ, ◌+◌, ◌*◌, ◌≤◌, ◌<◌}
use Rattle.rules.specs.declared.Three.{Three}
use Rattle.rules.specs.declared.Parameter.{Parameter}
use Rattle.rules.specs.declared.Stop.{Stop}
use Rattle.kernel.specs.declared.Pair.{Pair}
use Rattle.kernel.specs.Ranges.{Ranged, Shallow, InGrid}
use Rattle.search.specs.Levels.{depth_in, total}

-- a box that has halves in a parameter
pub record Halves (p : Parameter) (k b : Three) : Type 0 where
  pub shallow : Shallow 20 k
  pub grid : InGrid k b
  pub below : depth_in p k < 20

-- a box of the grid with so many levels left below it
pub record Good (p : Pair) (s : Stop) (left : ℕ) : Type 0 where
  pub ranged : Ranged p
  pub shallow : Shallow p.deepest s.depths
  pub grid : InGrid s.depths s.index
  pub levels : total s.depths + left ≤ 3 * p.deepest
