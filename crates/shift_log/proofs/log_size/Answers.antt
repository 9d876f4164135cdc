use Rattle.std.proofs.Common.{sym, arith}
use Rattle.rules.specs.QueryFile.{file_form}
use Rattle.queries.specs.Opening.{Holds, opened_records, opened_refused}
use Rattle.shift_log.proofs.Logging.{refused_size, opened_size}
use Rattle.shift_log.proofs.log_size.Goals as goal
use Rattle.shift_log.proofs.log_size.Goals.{In-Ok}

holds : (c : In-Ok) → Holds (file_form c.args.file.now) c.args.file.now c.in-Ok.records.edition c.in-Ok.records.first c.in-Ok.records.count
holds c = opened_records (file_form c.args.file.now) c.args.file.now c.in-Ok.records (sym c.in-Ok.ensures)

pub overflow_mul-result : goal.overflow_mul-result
overflow_mul-result c = record { fits = omega (arith, (holds ((goal.at.overflow_mul-result c).In-Ok)).few) }

pub overflow_add-result : goal.overflow_add-result
overflow_add-result c = record { fits = omega (arith, (holds ((goal.at.overflow_add-result c).In-Ok)).few) }

pub returns-in-Err : goal.returns-in-Err
returns-in-Err c =
    let h = opened_refused (file_form c.args.file.now) c.args.file.now _ (sym c.in-Err.ensures) in
    refused_size c.args.file.now _ h.0 h.1

pub returns-in-Ok : goal.returns-in-Ok
returns-in-Ok c = opened_size c.args.file.now (holds ((goal.at.returns-in-Ok c).In-Ok))
