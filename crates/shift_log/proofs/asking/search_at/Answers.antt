use mathlib.Core.Path.{sym, ap, ◌∙◌}
use Prim.Native.Nat.{ℕ}
use lib.ListN.{length, replicate}
use Rattle.rules.specs.declared.Record.{Record}
use Rattle.rules.specs.QueryFile.{record_at}
use Rattle.rules.specs.Refusals.{search_refusal}
use Rattle.refusals.specs.Numbered.{not_zero}
use Rattle.search.proofs.Running.{search_refused, after_refusal, after_answer}
use Rattle.shift_log.proofs.asking.search_at.Goals as goal

pub returns-in-Err : goal.returns-in-Err
returns-in-Err c =
    let r = record_at c.args.edition c.args.s.now c.args.at in
    let words = length c.args.queue.now in
    let due = c.number.ensures ∙ c.in-Err.ensures ∙ ap (λ (x : Record). search_refusal x words) c.decode-r.ensures in
    let e = search_refused r words c.number.result due (λ z. not_zero c.in-Err.refusal (sym c.number.ensures ∙ z)) in
    record { value = e; queue_after = after_refusal r words c.number.result c.args.queue.now e }

pub search_levels-requires : goal.search_levels-requires
search_levels-requires c =
    record {
      none = ap (λ (words : ℕ). search_refusal c.decode-r.result words) c.clear_unless.auto.queue ∙ sym c.in_default.ensures;
      zero = c.clear_unless.ensures ∙ ap (λ (n : ℕ). replicate n 0) (sym c.clear_unless.auto.queue);
    }

pub returns : goal.returns
returns c =
    let f = simp (c.decode-r.ensures, c.clear_unless.auto.queue) at c.search_levels.ensures.value in
    record {
      value = f;
      queue_after = c.search_levels.ensures.queue_unchanged ∙ c.clear_unless.ensures ∙ sym (rw f at (after_answer c.search_levels.result c.search_levels.ensures.answers c.args.queue.now));
    }
