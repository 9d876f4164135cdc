use Rattle.std.proofs.Common.{sym, arith}
use Rattle.std.proofs.lemmas.Result.{err_from_is_err_and}
use Rattle.rules.specs.QueryFile.{file_form}
use Rattle.queries.specs.Opening.{Holds, records_end, opened_records, opened_refused}
use Rattle.answers.specs.Doing.{refuses}
use Rattle.shift_log.proofs.Logging.{log_refused, log_short, logs}
use Rattle.shift_log.proofs.log_file.Goals as goal
use Rattle.shift_log.proofs.log_file.Goals.{In_ok-records}

holds : (c : In_ok-records) → Holds (file_form c.args.file.now) c.args.file.now c.in_ok-records.records.edition c.in_ok-records.records.first c.in_ok-records.records.count
holds c = opened_records (file_form c.args.file.now) c.args.file.now c.in_ok-records.records (sym c.in_ok-records.ensures)

pub returns-in_err-records : goal.returns-in_err-records
returns-in_err-records c =
    let p = err_from_is_err_and c.from_residual.result c.from_residual.ensures.1 in
    let h = opened_refused (file_form c.args.file.now) c.args.file.now _ (sym c.in_err-records.ensures) in
    rw (p.1, p.2) (refuses _ _ _ c.args.queue.now c.args.out.now (log_refused c.args.file.now c.args.out.now _ h.0 h.1) h.1)

pub overflow_mul-size : goal.overflow_mul-size
overflow_mul-size c = omega (arith, (holds ((goal.at.overflow_mul-size c).In_ok-records)).few)

pub overflow_add-size : goal.overflow_add-size
overflow_add-size c = omega (arith, (holds ((goal.at.overflow_add-size c).In_ok-records)).few)

pub returns-then-out-size : goal.returns-then-out-size
returns-then-out-size c =
    let h = holds ((goal.at.returns-then-out-size c).In_ok-records) in
    refuses 14 _ _ c.args.queue.now c.args.out.now (log_short c.args.file.now c.args.out.now h.none (omega (arith, h.counts, c.if-out-size.true))) (λ z. omega arith)

pub log_records-requires : goal.log_records-requires
log_records-requires c = (omega (arith, records_end (holds ((goal.at.log_records-requires c).In_ok-records))), omega arith)

pub overflow_cast-records : goal.overflow_cast-records
overflow_cast-records c = record { fits = omega (arith, (holds ((goal.at.overflow_cast-records c).In_ok-records)).few) }

pub encode_trailer-requires : goal.encode_trailer-requires
encode_trailer-requires c = (omega arith, (holds ((goal.at.encode_trailer-requires c).In_ok-records)).few)

pub returns : goal.returns
returns c =
    logs c.args.file.now c.args.queue.now c.args.out.now (holds ((goal.at.returns c).In_ok-records)) (omega arith) c.answer_form.ensures c.log_records.ensures.out_after c.encode_trailer.ensures c.log_records.ensures.queue_after
