use Rattle.std.proofs.Common.{◌∙◌, sym, arith}
use Rattle.std.proofs.lemmas.Result.{err_from_is_err_and}
use Rattle.rules.specs.QueryFile.{file_form}
use Rattle.queries.specs.Opening.{Holds, records_end, opened_records, opened_refused}
use Rattle.shift_log.proofs.Ids.{match_refused, match_opens}
use Rattle.shift_log.proofs.match_files.Goals as goal
use Rattle.shift_log.proofs.match_files.Goals.{In_ok-open_file}

holds : (c : In_ok-open_file) → Holds (file_form c.args.file.now) c.args.file.now c.in_ok-open_file.field-0.edition c.in_ok-open_file.field-0.first c.in_ok-open_file.field-0.count
holds c = opened_records (file_form c.args.file.now) c.args.file.now c.in_ok-open_file.field-0 (sym c.in_ok-open_file.ensures)

pub returns-in_err-open_file : goal.returns-in_err-open_file
returns-in_err-open_file c =
    let p = err_from_is_err_and c.from_residual.result c.from_residual.ensures.1 in
    let h = opened_refused (file_form c.args.file.now) c.args.file.now _ (sym c.in_err-open_file.ensures) in
    rw (p.1, p.2) (match_refused c.args.file.now c.args.log.now _ h.0 h.1)

pub match_log-requires : goal.match_log-requires
match_log-requires c = omega (arith, records_end (holds ((goal.at.match_log-requires c).In_ok-open_file)))

pub returns : goal.returns
returns c = c.match_log.ensures ∙ match_opens c.args.file.now c.args.log.now (holds ((goal.at.returns c).In_ok-open_file))
