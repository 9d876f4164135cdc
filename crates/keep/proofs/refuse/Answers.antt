-- There is room for what is printed, and it lies in its buffer.
use Rattle.std.proofs.Common.{refl, sym, arith, length-take-le}
use Rattle.page.specs.Laws.{text_some, text_fits}
use Rattle.text.specs.Writers.{room_for_refusal}
use Rattle.keep.proofs.refuse.Goals as goal

pub unwrap-printed-requires : goal.unwrap-printed-requires
unfolding room_for_refusal
unwrap-printed-requires c = text_some c.write_refused.ensures refl

pub slice_bounds-line-end : goal.slice_bounds-line-end
slice_bounds-line-end c = omega (arith, text_fits c.write_refused.ensures c.unwrap-printed.ensures c.write_refused.auto.out, c.write_refused.auto.out)

pub slice_bounds-say-end : goal.slice_bounds-say-end
slice_bounds-say-end c = sym (length-take-le c.unwrap-printed.result c.write_refused.new.out (omega (arith, text_fits c.write_refused.ensures c.unwrap-printed.ensures c.write_refused.auto.out, c.write_refused.auto.out)))
