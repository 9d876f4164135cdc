-- What is written lies in its buffer.
use Rattle.std.proofs.Common.{ℕ, sym, ap, arith, length-take-le}
use Rattle.rules.specs.Refusals.{numbered}
use Rattle.keep.specs.Laws.{kept_fits}
use Rattle.keep.proofs.answer.Goals as goal

pub slice_bounds-out-end : goal.slice_bounds-out-end
slice_bounds-out-end c = omega (arith, kept_fits c.keep.ensures (ap (numbered {T = ℕ}) c.in-Ok-keep.is) c.keep.auto.out, c.keep.auto.out)

pub slice_bounds-print-end : goal.slice_bounds-print-end
slice_bounds-print-end c =
    sym (length-take-le c.in-Ok-keep.n c.keep.new.out (omega (arith, kept_fits c.keep.ensures (ap (numbered {T = ℕ}) c.in-Ok-keep.is) c.keep.auto.out, c.keep.auto.out)))
