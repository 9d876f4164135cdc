use Rattle.std.proofs.Common.{sym, arith}
use Rattle.std.proofs.lemmas.Result.{err_from_is_err_and}
use Rattle.queries.specs.Opening.{Holds, opened_records, opened_refused}
use Rattle.queries.specs.Writing.{refuses_put}
use Rattle.answers.proofs.Refusing.{count_refused, count_short, count_good, counts}
use Rattle.answers.proofs.count_form.Goals as goal
use Rattle.answers.proofs.count_form.Goals.{In_ok-records}

holds : (c : In_ok-records) → Holds c.args.form c.args.file.now c.in_ok-records.records.edition c.in_ok-records.records.first c.in_ok-records.records.count
holds c = opened_records c.args.form c.args.file.now c.in_ok-records.records (sym c.in_ok-records.ensures)

pub returns-in_err-records : goal.returns-in_err-records
returns-in_err-records c =
    let p = err_from_is_err_and c.from_residual.result c.from_residual.ensures.1 in
    let h = opened_refused c.args.form c.args.file.now _ (sym c.in_err-records.ensures) in
    rw (p.1, p.2) (refuses_put _ _ c.args.out.now 0 (count_refused c.args.form c.args.file.now c.args.out.now _ h.0 h.1) h.1)

pub returns-then-out-lt1 : goal.returns-then-out-lt1
returns-then-out-lt1 c =
    let h = holds ((goal.at.returns-then-out-lt1 c).In_ok-records) in
    refuses_put 14 _ c.args.out.now 0 (count_short c.args.form c.args.file.now c.args.out.now h.none (omega (arith, c.if-out-lt1.true))) (λ z. omega arith)

pub overflow_cast-out : goal.overflow_cast-out
overflow_cast-out c = let h = holds ((goal.at.overflow_cast-out c).In_ok-records) in record { fits = omega (arith, h.few) }

pub returns : goal.returns
returns c =
    let h = holds ((goal.at.returns c).In_ok-records) in
    counts c.args.form c.args.file.now c.args.out.now (count_good c.args.form c.args.file.now c.args.out.now h.none (omega (arith, c.if-out-lt1.false))) h.counts (omega (arith, c.if-out-lt1.false))
