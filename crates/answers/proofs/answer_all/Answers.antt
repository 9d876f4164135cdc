use Rattle.std.proofs.Common.{List, ℕ, length, sym, ap, ◌∙◌, arith}
use Rattle.std.proofs.lemmas.Result.{err_from_is_err_and}
use Rattle.rules.specs.QueryFile.{file_form, put}
use Rattle.queries.specs.Opening.{Holds, records_end, opened_records, opened_refused}
use Rattle.answers.specs.Doing.{refuses, answers}
use Rattle.answers.proofs.Refusing.{all_refused, all_short, all_good}
use Rattle.answers.specs.Eight.{eight}
use Rattle.answers.specs.Walking.{told_place, queue_place}
use Rattle.answers.proofs.answer_all.Goals as goal
use Rattle.answers.proofs.answer_all.Goals.{In_ok-records}

holds : (c : In_ok-records) → Holds (file_form c.args.file.now) c.args.file.now c.in_ok-records.records.edition c.in_ok-records.records.first c.in_ok-records.records.count
holds c = opened_records (file_form c.args.file.now) c.args.file.now c.in_ok-records.records (sym c.in_ok-records.ensures)

pub returns-in_err-records : goal.returns-in_err-records
returns-in_err-records c =
    let p = err_from_is_err_and c.from_residual.result c.from_residual.ensures.1 in
    let h = opened_refused (file_form c.args.file.now) c.args.file.now _ (sym c.in_err-records.ensures) in
    rw (p.1, p.2) (refuses _ _ _ c.args.queue.now c.args.out.now (all_refused c.args.file.now c.args.out.now _ h.0 h.1) h.1)

pub overflow_mul-records : goal.overflow_mul-records
overflow_mul-records c = let h = holds ((goal.at.overflow_mul-records c).In_ok-records) in omega (arith, h.few)

pub returns-then-out-records : goal.returns-then-out-records
returns-then-out-records c =
    let h = holds ((goal.at.returns-then-out-records c).In_ok-records) in
    refuses 14 _ _ c.args.queue.now c.args.out.now (all_short c.args.file.now c.args.out.now h.none (omega (arith, h.counts, c.if-out-records.true))) (λ z. omega arith)

pub answer_records-requires : goal.answer_records-requires
answer_records-requires c =
    (omega (arith, records_end (holds ((goal.at.answer_records-requires c).In_ok-records))), omega (arith, c.if-out-records.false))

pub returns : goal.returns
returns c =
    let h = holds ((goal.at.returns c).In_ok-records) in
    answers (all_good c.args.file.now c.args.out.now h.none (omega (arith, h.counts, c.if-out-records.false)))
    (c.answer_records.ensures.out_after ∙ ap (λ (l : List ℕ). put c.args.out.now 0 l) (told_place c.args.file.now h.names h.starts h.counts eight (length c.args.queue.now)))
    (c.answer_records.ensures.queue_after ∙ queue_place c.args.file.now h.names h.starts h.counts c.args.queue.now)
