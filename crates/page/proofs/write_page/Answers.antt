use Rattle.std.proofs.Common.{sym, ap, ◌∙◌, arith}
use Rattle.rules.specs.QueryFile.{file_form}
use Rattle.queries.specs.Opening.{Holds, records_end, few_records, opened_records, opened_refused}
use Rattle.text.specs.Text.{rows, file_text, refused_text}
use Rattle.answers.specs.Eight.{eight}
use Rattle.answers.specs.Walking.{told_place}
use Rattle.page.proofs.Paging.{long_text, refused_text_lem, file_text_lem, printed_as, no_room, page_room, refusal_room}
use Rattle.page.proofs.write_page.Goals as goal
use Rattle.page.proofs.write_page.Goals.{In-Ok}

pub returns-then-out-lt45280 : goal.returns-then-out-lt45280
returns-then-out-lt45280 c = no_room 45280 c.args.out.now _ (omega arith)

pub returns-then-file-gt65536 : goal.returns-then-file-gt65536
returns-then-file-gt65536 c =
    printed_as (refusal_room 45280 c.args.out.now (omega arith) (omega arith)) (ap refused_text c.number.ensures ∙ long_text c.args.file.now (omega arith)) c.write_refused.ensures

holds : (c : In-Ok) → Holds (file_form c.args.file.now) c.args.file.now c.in-Ok.records.edition c.in-Ok.records.first c.in-Ok.records.count
holds c = opened_records (file_form c.args.file.now) c.args.file.now c.in-Ok.records (sym c.in-Ok.ensures)

pub write_records-requires : goal.write_records-requires
write_records-requires c =
    let h = holds ((goal.at.write_records-requires c).In-Ok) in
    (omega (arith, records_end h), (few_records h (omega arith), omega arith))

pub returns-in-Err : goal.returns-in-Err
returns-in-Err c =
    let h = opened_refused (file_form c.args.file.now) c.args.file.now _ (sym c.in-Err.ensures) in
    let text = ap refused_text c.number-in-Err.ensures ∙ refused_text_lem c.args.file.now _ (omega arith) h.0 h.1 in
    printed_as (refusal_room 45280 c.args.out.now (omega arith) (omega arith)) text c.write_refused-in-Err.ensures

pub returns-in-Ok : goal.returns-in-Ok
returns-in-Ok c =
    let h = holds ((goal.at.returns-in-Ok c).In-Ok) in
    printed_as (page_room 45280 c.args.out.now (omega arith))
    ((λ i. file_text (rows (h.counts i) (told_place c.args.file.now h.names h.starts h.counts eight 4096 i))) ∙ file_text_lem c.args.file.now (omega arith) h.none)
    c.write_records.ensures
