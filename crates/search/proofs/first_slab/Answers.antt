use native.Mathlib.Omega.{arith}
use Rattle.gap.specs.Slab.{slab_own}
use Rattle.queue.specs.All.{all_front}
use Rattle.queue.specs.Level.{OfLevel}
use Rattle.search.proofs.first_slab.Goals as goal

pub returns-then-n-eq0 : goal.returns-then-n-eq0
returns-then-n-eq0 c = slab_own c.args.p c.args.k _ _ c.slab_at.ensures

-- The first word of a level is a box of it.
pub slab_at-requires-2 : goal.slab_at-requires-2
slab_at-requires-2 c =
    let g = all_front (OfLevel c.args.k) c.args.queue.now c.args.n 0 c.requires.fits c.requires.grid (omega (arith, c.if-n-eq0.false)) in
    (c.requires.ranged, (c.requires.shallow, rw c.unpack-b.ensures g.grid.t))

pub returns : goal.returns
returns c = slab_own c.args.p c.args.k _ _ c.slab_at-2.ensures
