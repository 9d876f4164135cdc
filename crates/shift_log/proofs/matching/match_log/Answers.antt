-- The answer file's own refusals, then the counts, then the ids.
use Rattle.std.proofs.Common.{Bool, cond, not, ◌∙◌, sym, ap, arith}
use Rattle.std.proofs.lemmas.Result.{err_from_is_err_and}
use Rattle.rules.specs.QueryFile.{is_wide}
use Rattle.rules.specs.AnswerFile.{answer_form}
use Rattle.queries.specs.Opening.{Holds, opened_records, opened_refused}
use Rattle.shift_log.proofs.Ids.{eight_least, fewer, rest_refused, rest_counts, rest_ids}
use Rattle.shift_log.proofs.matching.match_log.Goals as goal
use Rattle.shift_log.proofs.matching.match_log.Goals.{In_ok-answers, else-queries-answers-via-then-queries-answers+else-same_ids, else-queries-answers-via-else-queries-answers}

holds : (c : In_ok-answers) → Holds answer_form c.args.log.now c.in_ok-answers.answers.edition c.in_ok-answers.answers.first c.in_ok-answers.answers.count
holds c = opened_records answer_form c.args.log.now c.in_ok-answers.answers (sym (rw c.answer_form.ensures at c.in_ok-answers.ensures))

pub returns-in_err-answers : goal.returns-in_err-answers
returns-in_err-answers c =
    let p = err_from_is_err_and c.from_residual.result c.from_residual.ensures.1 in
    let h = opened_refused answer_form c.args.log.now _ (sym (rw c.answer_form.ensures at c.in_err-answers.ensures)) in
    rw (p.1, p.2) (rest_refused _ c.args.s.now c.args.queries.first c.args.queries.count c.args.log.now _ h.0 h.1)

pub same_ids-requires : goal.same_ids-requires
same_ids-requires c =
    let h = holds ((goal.at.same_ids-requires c).In_ok-answers) in (
      rw c.record_size-size.ensures (eight_least (is_wide c.args.queries.edition)),
      rw c.record_size-size.ensures (fewer c.args.queries.first _ (omega (arith, c.if-queries-answers.true)) c.requires),
      omega (arith, h.ends),
    )

pub returns-then-same_ids : goal.returns-then-same_ids
returns-then-same_ids c =
    let h = holds ((goal.at.returns-then-same_ids c).In_ok-answers) in
    ap (λ (x : Bool). cond (not x) 17 0) (sym c.if-same_ids.true)
    ∙ rest_ids _ c.args.s.now c.args.queries.first c.args.queries.count c.args.log.now h c.if-queries-answers.true c.record_size-size.ensures c.same_ids.ensures

pub returns-else-queries-answers : goal.returns-else-queries-answers
returns-else-queries-answers c =
    let h = holds ((goal.at.returns-else-queries-answers c).In_ok-answers) in
    elim c.else-queries-answers.branch [
      | else-queries-answers-via-then-queries-answers+else-same_ids w ↦
          ap (λ (x : Bool). cond (not x) 17 0) (sym w.if-same_ids.false)
          ∙ rest_ids _ c.args.s.now c.args.queries.first c.args.queries.count c.args.log.now h w.if-queries-answers.true c.record_size-size.ensures w.same_ids.ensures
      | else-queries-answers-via-else-queries-answers w ↦
          rest_counts _ c.args.s.now c.args.queries.first c.args.queries.count c.args.log.now h w.if-queries-answers.false
    ]
