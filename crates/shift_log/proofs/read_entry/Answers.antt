use Rattle.std.proofs.Common.{ℕ, ◌+◌, ◌*◌, sym, ap, arith}
use Rattle.std.proofs.lemmas.Result.{err_from_is_err_and}
use Rattle.rules.specs.AnswerFile.{answer_form}
use Rattle.queries.specs.Opening.{Holds, entry_fits, opened_records, opened_refused}
use Rattle.queries.specs.Writing.{refuses_put}
use Rattle.shift_log.proofs.Refusing.{reads_refused, reads_index, reads_there}
use Rattle.shift_log.proofs.read_entry.Goals as goal
use Rattle.shift_log.proofs.read_entry.Goals.{In_ok-answers}

holds : (c : In_ok-answers) → Holds answer_form c.args.log.now c.in_ok-answers.answers.edition c.in_ok-answers.answers.first c.in_ok-answers.answers.count
holds c = opened_records answer_form c.args.log.now c.in_ok-answers.answers (sym (rw c.answer_form.ensures at c.in_ok-answers.ensures))

pub returns-in_err-answers : goal.returns-in_err-answers
returns-in_err-answers c =
    let p = err_from_is_err_and c.from_residual.result c.from_residual.ensures.1 in
    let h = opened_refused answer_form c.args.log.now _ (sym (rw c.answer_form.ensures at c.in_err-answers.ensures)) in
    rw (p.1, p.2) (refuses_put _ _ c.args.out.now 0 (reads_refused c.args.log.now c.args.n c.args.out.now _ h.0 h.1) h.1)

pub returns-then-answers-n : goal.returns-then-answers-n
returns-then-answers-n c =
    let h = holds ((goal.at.returns-then-answers-n c).In_ok-answers) in
    refuses_put 13 _ c.args.out.now 0 (reads_index c.args.log.now c.args.n c.args.out.now h.none (omega (arith, h.counts, c.if-answers-n.true))) (λ z. omega arith)

pub overflow_mul-n : goal.overflow_mul-n
overflow_mul-n c = omega (arith, (holds ((goal.at.overflow_mul-n c).In_ok-answers)).few, c.if-answers-n.false)

pub overflow_add-answers : goal.overflow_add-answers
overflow_add-answers c = omega (arith, entry_fits (holds ((goal.at.overflow_add-answers c).In_ok-answers)) c.args.n (omega (arith, c.if-answers-n.false)))

pub read_at-requires : goal.read_at-requires
read_at-requires c = omega (arith, entry_fits (holds ((goal.at.read_at-requires c).In_ok-answers)) c.args.n (omega (arith, c.if-answers-n.false)))

pub returns : goal.returns
returns c =
    let h = holds ((goal.at.returns c).In_ok-answers) in
    reads_there c.args.log.now c.args.n c.args.out.now h.none (omega (arith, h.counts, c.if-answers-n.false)) (ap (λ (p : ℕ). p + 32 * c.args.n) h.starts) c.read_at.ensures
