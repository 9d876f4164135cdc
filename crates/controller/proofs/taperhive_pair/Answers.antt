use mathlib.Core.Path.{sym, ap, ◌∙◌}
use Prim.Native.Nat.{ℕ}
use native.Mathlib.Omega.{arith}
use lib.ListN.{length}
use Rattle.rules.specs.declared.Record.{Record}
use Rattle.rules.specs.Answers.{queue_after}
use Rattle.rules.specs.QueryFile.{is_wide, put}
use Rattle.rules.specs.Search.{search as searched}
use Rattle.answers.specs.Doing.{refuses, answers}
use Rattle.answers.specs.Walk.{tells}
use Rattle.controller.specs.Given.{record_of}
use Rattle.controller.proofs.Giving.{pair_none, pair_few, pair_short, pair_good, wide_range}
use Rattle.controller.proofs.taperhive_pair.Goals as goal

pub returns-then-not-is_edition : goal.returns-then-not-is_edition
returns-then-not-is_edition c =
    rw c.number.ensures
    (refuses 10 _ _ c.args.queue.now c.args.told.now (pair_none c.args.edition c.args.points.now c.args.told.now (sym c.is_edition.ensures ∙ c.if-not-is_edition.true)) (λ z. omega arith))

pub returns-then-points-lt24 : goal.returns-then-points-lt24
returns-then-points-lt24 c =
    let is = sym c.is_edition.ensures ∙ c.if-not-is_edition.false in
    rw c.number-then-points-lt24.ensures
    (refuses 14 _ _ c.args.queue.now c.args.told.now (pair_few c.args.edition c.args.points.now c.args.told.now is (omega (arith, c.if-points-lt24.true))) (λ z. omega arith))

pub returns-then-told-lt8 : goal.returns-then-told-lt8
returns-then-told-lt8 c =
    let is = sym c.is_edition.ensures ∙ c.if-not-is_edition.false in
    rw c.number-then-told-lt8.ensures
    (refuses 14 _ _ c.args.queue.now c.args.told.now
    (pair_short c.args.edition c.args.points.now c.args.told.now is (omega (arith, c.if-points-lt24.false)) (omega (arith, c.if-told-lt8.true))) (λ z. omega arith))

pub answer_record-requires : goal.answer_record-requires
answer_record-requires c =
    (c.record_of-query.ensures.held, ap (λ (x : Record). is_wide x.edition) c.record_of-query.ensures.value ∙ ap is_wide c.range_of-range.ensures ∙ wide_range c.args.edition, omega (arith, c.if-told-lt8.false))

pub returns : goal.returns
returns c =
    let is = sym c.is_edition.ensures ∙ c.if-not-is_edition.false in
    let same = c.record_of-query.ensures.value
    ∙ ap (λ (n : ℕ). record_of n c.args.kind c.args.flags c.args.id c.args.dx c.args.dy c.args.dz c.args.tolerance c.args.budget c.args.cap c.args.points.now) c.range_of-range.ensures in
    answers (pair_good c.args.edition c.args.points.now c.args.told.now is (omega (arith, c.if-points-lt24.false)) (omega (arith, c.if-told-lt8.false)))
    (c.answer_record.ensures.out_after ∙ ap (λ (x : Record). put c.args.told.now 0 (tells x (length c.args.queue.now))) same)
    (c.answer_record.ensures.queue_after ∙ ap (λ (x : Record). queue_after (searched x (length c.args.queue.now)) c.args.queue.now) same)
