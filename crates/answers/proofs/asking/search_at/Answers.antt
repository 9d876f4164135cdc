use Rattle.std.proofs.Common.{ℕ, length, sym, ap, ◌∙◌}
use Rattle.rules.specs.declared.Answer.TheVariants.{Clear}
use Rattle.rules.specs.QueryFile.{record_at}
use Rattle.rules.specs.Search.{query, origin, survives}
use Rattle.refusals.specs.Numbered.{not_zero}
use Rattle.search.specs.Whole.{search_clear}
use Rattle.search.proofs.Running.{search_refused, after_refusal, after_answer}
use Rattle.answers.proofs.asking.search_at.Goals as goal

pub returns-in-Err : goal.returns-in-Err
returns-in-Err c =
    let r = record_at c.args.edition c.args.s.now c.args.at in
    let words = length c.args.queue.now in
    let e = search_refused r words c.number.result (c.number.ensures ∙ c.in-Err.ensures) (λ z. not_zero c.in-Err.refusal (sym c.number.ensures ∙ z)) in
    record { value = e; queue_after = after_refusal r words c.number.result c.args.queue.now e }

pub returns-then-survives_at-clause-queue_after : goal.returns-then-survives_at-clause-queue_after
returns-then-survives_at-clause-queue_after c =
    let f = simp (c.decode-r.ensures, c.clear_unless.auto.queue) at c.search_levels.ensures.value in
    c.search_levels.ensures.queue_unchanged ∙ c.clear_unless.ensures ∙ sym (rw f at (after_answer c.search_levels.result c.search_levels.ensures.answers c.args.queue.now))

pub returns : goal.returns
returns c =
    let r = record_at c.args.edition c.args.s.now c.args.at in
    let lost = ap (λ (n : ℕ). survives (query r n) origin origin) (sym c.clear_unless.auto.queue) ∙ sym c.survives_at.ensures ∙ c.if-survives_at.false in
    let f = sym (search_clear r (length c.args.queue.now) (sym c.in_default.ensures) lost) in
    record { value = f; queue_after = c.clear_unless.ensures ∙ sym (rw (← f) (after_answer (Clear 1) tt c.args.queue.now)) }
