-- Each row that was passed is not due, and the one that is returned is.
use Rattle.std.proofs.Common.{sym, lt-ltb, le-ltb}
use Rattle.rules.specs.Refusals.{first}
use Rattle.rules.specs.QueryFile.{open_refusal, open_unless, opened}
use Rattle.queries.proofs.open_form.Goals as goal

pub returns-then-n-lt16 : goal.returns-then-n-lt16
unfolding opened open_refusal open_unless first
returns-then-n-lt16 c = simp (lt-ltb _ _ c.if-n-lt16.true)

pub returns-then-not-stands4 : goal.returns-then-not-stands4
unfolding opened open_refusal open_unless first
returns-then-not-stands4 c = simp (le-ltb _ _ c.if-n-lt16.false, sym c.stands4.ensures, c.if-not-stands4.true)

pub returns-then-not-stands4-2 : goal.returns-then-not-stands4-2
unfolding opened open_refusal open_unless first
returns-then-not-stands4-2 c =
    simp (le-ltb _ _ c.if-n-lt16.false, sym c.stands4.ensures, c.if-not-stands4.false, sym c.stands4-2.ensures, c.if-not-stands4-2.true)

pub returns-then-count-gt-MOST : goal.returns-then-count-gt-MOST
unfolding opened open_refusal open_unless first
returns-then-count-gt-MOST c =
    simp (
      le-ltb _ _ c.if-n-lt16.false,
      sym c.stands4.ensures,
      c.if-not-stands4.false,
      sym c.stands4-2.ensures,
      c.if-not-stands4-2.false,
      sym c.read_u32-count.ensures,
      lt-ltb _ _ c.if-count-gt-MOST.true,
    )

pub returns-then-back-times : goal.returns-then-back-times
unfolding opened open_refusal open_unless first
returns-then-back-times c =
    let due = simp (c.read_u32-back.ensures, c.times.ensures) at c.if-back-times.true in
    simp (
      le-ltb _ _ c.if-n-lt16.false,
      sym c.stands4.ensures,
      c.if-not-stands4.false,
      sym c.stands4-2.ensures,
      c.if-not-stands4-2.false,
      sym c.read_u32-count.ensures,
      le-ltb _ _ c.if-count-gt-MOST.false,
      due,
    )

pub returns : goal.returns
unfolding opened open_refusal open_unless first
returns c =
    let due = simp (c.read_u32-back.ensures, c.times.ensures) at c.if-back-times.false in
    simp (
      le-ltb _ _ c.if-n-lt16.false,
      sym c.stands4.ensures,
      c.if-not-stands4.false,
      sym c.stands4-2.ensures,
      c.if-not-stands4-2.false,
      sym c.read_u32-count.ensures,
      le-ltb _ _ c.if-count-gt-MOST.false,
      due,
      c.read_u32-back.ensures,
    )
