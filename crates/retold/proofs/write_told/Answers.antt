-- 15 first, then what the file opens to, then 16.
use Rattle.std.proofs.Common.{◌≡◌, sym, ◌∙◌, arith}
use Rattle.rules.specs.QueryFile.{record_count, place_in}
use Rattle.rules.specs.AnswerFile.{answer_form}
use Rattle.queries.specs.Opening.{Holds, opened_records, opened_refused}
use Rattle.shift_log.specs.Calls.{are_taken, entries_told}
use Rattle.text.specs.Text.{rows, file_text}
use Rattle.page.proofs.Paging.{printed_as, no_room, page_room, refusal_room}
use Rattle.retold.specs.Laws.{long, refused_text_lem, told_text}
use Rattle.retold.specs.Laws as page
use Rattle.retold.proofs.write_told.Goals as goal
use Rattle.retold.proofs.write_told.Goals.{In-Ok, After-are_taken}

holds : (c : In-Ok) → Holds answer_form c.args.log.now c.in-Ok.answers.edition c.in-Ok.answers.first c.in-Ok.answers.count
holds c = opened_records answer_form c.args.log.now c.in-Ok.answers (sym (rw c.answer_form.ensures at c.in-Ok.ensures))

decides : (c : After-are_taken) → Holds answer_form c.args.log.now c.in-Ok.answers.edition c.in-Ok.answers.first c.in-Ok.answers.count
    → are_taken c.args.log.now (place_in answer_form c.args.log.now 0) (record_count c.args.log.now) ≡ c.are_taken.result
decides c h =
    let start : place_in answer_form c.args.log.now 0 ≡ c.in-Ok.answers.first = omega (arith, h.starts) in
    (λ i. are_taken c.args.log.now (start i) (sym h.counts i)) ∙ sym c.are_taken.ensures

pub returns-then-out-lt327840 : goal.returns-then-out-lt327840
returns-then-out-lt327840 c = no_room 327840 c.args.out.now _ (omega arith)

pub returns-then-log-gt262144 : goal.returns-then-log-gt262144
returns-then-log-gt262144 c =
    printed_as (refusal_room 327840 c.args.out.now (omega arith) (omega arith)) (refused_text_lem c.args.log.now (long c.args.log.now (omega arith)) (λ z. omega arith))
    (rw c.number.ensures at c.write_refused.ensures)

pub are_taken-requires : goal.are_taken-requires
are_taken-requires c = omega (arith, (holds ((goal.at.are_taken-requires c).In-Ok)).ends)

pub write_entries-requires : goal.write_entries-requires
write_entries-requires c = let h = holds ((goal.at.write_entries-requires c).In-Ok) in (omega (arith, h.ends), (h.few, omega arith))

pub returns-in-Err : goal.returns-in-Err
returns-in-Err c =
    let h = opened_refused answer_form c.args.log.now _ (sym (rw c.answer_form.ensures at c.in-Err.ensures)) in
    printed_as (refusal_room 327840 c.args.out.now (omega arith) (omega arith)) (refused_text_lem c.args.log.now (page.refused c.args.log.now _ (omega arith) h.0 h.1) h.1)
    (rw c.number-in-Err.ensures at c.write_refused-in-Err.ensures)

pub returns-then-are_taken : goal.returns-then-are_taken
returns-then-are_taken c =
    let at = goal.at.returns-then-are_taken c in
    let h = holds at.In-Ok in
    let start : c.in-Ok.answers.first ≡ place_in answer_form c.args.log.now 0 = omega (arith, h.starts) in
    printed_as (page_room 327840 c.args.out.now (omega arith))
    ((λ i. file_text (rows (h.counts i) (entries_told c.args.log.now (start i) (h.counts i)))) ∙ told_text c.args.log.now (page.opened c.args.log.now _ (omega arith) h.none (decides at.After-are_taken h ∙ c.if-are_taken.true)))
    c.write_entries.ensures

pub returns-else-are_taken : goal.returns-else-are_taken
returns-else-are_taken c =
    let at = goal.at.returns-else-are_taken c in
    let h = holds at.In-Ok in
    printed_as (refusal_room 327840 c.args.out.now (omega arith) (omega arith))
    (refused_text_lem c.args.log.now (page.opened c.args.log.now _ (omega arith) h.none (decides at.After-are_taken h ∙ c.if-are_taken.false)) (λ z. omega arith))
    (rw c.number-else-are_taken.ensures at c.write_refused-else-are_taken.ensures)
