use mathlib.Core.Path.{◌≡◌, refl, ap, ◌∙◌}
use mathlib.Core.Bool.{Bool, true, false, cond}
use native.Mathlib.Omega.{arith}
use Rattle.rules.specs.declared.Three.{Three}
use Rattle.rules.specs.declared.Parameter.{Parameter}
use Rattle.rules.specs.Search.{Box, stored, low_half, high_half, deeper}
use Rattle.rules.specs.Why.{goes_up, holding}
use Rattle.boxes.specs.Boxes.{box_of, Fits, half_of}
use Rattle.boxes.specs.Words.{unpack_pack}
use Rattle.queue.specs.Grid.{fits_grid, half_grid}
use Rattle.search.proofs.Deepening.{deeper_shallow}
use Rattle.descent.specs.Way.{Halves}
use Rattle.descent.proofs.holding.Goals as goal

-- One half or the other, by the test, made on the word and read back.
module _ (p : Parameter) (k b : Three) (h : Halves p k b) where
  here : Fits b
  here = fits_grid k b h.shallow h.grid

  -- a half fits a word too
  there : (high : Bool) → Fits (half_of p high b)
  there high = fits_grid (deeper p k) (half_of p high b) (deeper_shallow p k (λ e. omega (arith, h.below)) h.shallow) (half_grid p high k b h.grid)

  read_back : (high : Bool) → box_of (stored (half_of p high (box_of (stored b)))) ≡ half_of p high b
  read_back high = ap (λ (x : Box). box_of (stored (half_of p high x))) (unpack_pack b here) ∙ unpack_pack (half_of p high b) (there high)

  chosen : (high : Bool) → half_of p high b ≡ cond high (high_half p b) (low_half p b)
  chosen true = refl
  chosen false = refl

pub pack-requires : goal.pack-requires
pack-requires c = here c.args.split c.args.k c.args.b c.requires

pub half-requires : goal.half-requires
half-requires c =
    let f = here c.args.split c.args.k c.args.b c.requires in
    omega (arith, c.pack.ensures, f.t, f.u, f.v)

pub returns : goal.returns
unfolding holding
returns c =
    rw (c.unpack.ensures, c.half.ensures, c.pack.ensures, c.goes_up-upper.ensures)
    (read_back c.args.split c.args.k c.args.b c.requires (goes_up c.args.split c.args.k c.args.b c.args.at) ∙ chosen c.args.split c.args.k c.args.b c.requires (goes_up c.args.split c.args.k c.args.b c.args.at))
