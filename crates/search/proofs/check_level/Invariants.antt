use mathlib.Core.Path.{◌≡◌}
use Rattle.gap.specs.Slab.{slab_of}
use Rattle.search.proofs.Checking.{Checking}
use Rattle.search.proofs.check_level.Given as goal

-- The loop is that of `Checking`.
abbrev pub invariant-loop-i : goal.invariant-loop-i
invariant-loop-i here =
    Checking here.p here.l here.initial.queue here.queue here.corner here.i here.m × (here.slab ≡ slab_of here.p here.l.depths here.slab.t)
