use borrow.Author.Tests.{eq-eqb, ne_eqb}
use mathlib.Core.Path.{sym, ◌∙◌}
use native.Mathlib.Omega.{arith}
use Rattle.text.proofs.Writing.{roomier}
use Rattle.wording.specs.Line.{refused}
use Rattle.wording.proofs.write_refusal.Goals as goal

pub returns-then-n-eq23 : goal.returns-then-n-eq23
unfolding refused
returns-then-n-eq23 c =
    rw (eq-eqb _ 23 c.if-n-eq23.true) (roomier c.write_text.ensures (omega (arith, c.write_text.ensures.few)))

pub returns-then-n-eq24 : goal.returns-then-n-eq24
unfolding refused
returns-then-n-eq24 c =
    rw (ne_eqb _ 23 c.if-n-eq23.false, eq-eqb _ 24 c.if-n-eq24.true) (roomier c.write_text-then-n-eq24.ensures (omega (arith, c.write_text-then-n-eq24.ensures.few)))

pub returns-then-is_of_file : goal.returns-then-is_of_file
unfolding refused
returns-then-is_of_file c =
    rw (ne_eqb _ 23 c.if-n-eq23.false, ne_eqb _ 24 c.if-n-eq24.false, sym c.is_of_file.ensures ∙ c.if-is_of_file.true) c.write_word.ensures

pub returns : goal.returns
unfolding refused
returns c =
    rw (ne_eqb _ 23 c.if-n-eq23.false, ne_eqb _ 24 c.if-n-eq24.false, sym c.is_of_file.ensures ∙ c.if-is_of_file.false) c.write_word-2.ensures
