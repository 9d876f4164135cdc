-- The digits of a tenth, then the last one.
use mathlib.Core.Path.{◌≡◌, ap}
use lib.ListN.{length}
use native.Mathlib.Omega.{arith}
use Rattle.text.specs.Text.{decimal}
use Rattle.text.proofs.Digits.{decimal_short, wrote_short, wrote_long, tenth_fits}
use Rattle.text.proofs.pieces.+write_digits.Goals as goal

pub write_byte-requires : goal.write_byte-requires
write_byte-requires t c =
    let e : length (decimal c.args.n) ≡ 1 = ap length (decimal_short c.args.n c.if-n-lt10.true) in
    omega (arith, c.requires)

pub returns-then-n-lt10 : goal.returns-then-n-lt10
returns-then-n-lt10 t c = wrote_short c.if-n-lt10.true c.write_byte.ensures

pub write_digits-last-requires : goal.write_digits-last-requires
write_digits-last-requires t c = (omega arith, omega (arith, c.requires, tenth_fits c.args.n c.args.at _ c.if-n-lt10.false c.requires))

pub write_byte-requires-2 : goal.write_byte-requires-2
write_byte-requires-2 t c =
    omega (arith, c.write_digits-last.ensures.few, c.write_digits-last.auto.out, tenth_fits c.args.n c.args.at _ c.if-n-lt10.false c.requires)

pub returns : goal.returns
returns t c = wrote_long c.if-n-lt10.false c.requires c.write_digits-last.ensures c.write_byte-2.ensures
