-- There is room for what is printed, and it lies in its buffer.
use Rattle.std.proofs.Common.{refl, sym, arith, length-take-le}
use Rattle.page.specs.Laws.{text_some, text_fits}
use Rattle.sweep.proofs.answer.Goals as goal

pub unwrap-printed-requires : goal.unwrap-printed-requires
unwrap-printed-requires c = text_some c.write_page.ensures refl

pub slice_bounds-out-end : goal.slice_bounds-out-end
slice_bounds-out-end c = omega (arith, text_fits c.write_page.ensures c.unwrap-printed.ensures c.write_page.auto.out, c.write_page.auto.out)

pub slice_bounds-print-end : goal.slice_bounds-print-end
slice_bounds-print-end c = sym (length-take-le c.unwrap-printed.result c.write_page.new.out (omega (arith, text_fits c.write_page.ensures c.unwrap-printed.ensures c.write_page.auto.out, c.write_page.auto.out)))
