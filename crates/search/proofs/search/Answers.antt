use Rattle.std.proofs.Common.{ℕ, sym, ap, ◌∙◌, length}
use Rattle.std.specs.Prelude.{replicate}
use Rattle.refusals.specs.Numbered.{not_zero}
use Rattle.rules.specs.Refusals.{search_refusal}
use Rattle.rules.specs.Search.{search as searched}
use Rattle.search.proofs.Running.{search_refused, after_refusal, after_answer}
use Rattle.search.proofs.search.Goals as goal

pub returns-in-Err : goal.returns-in-Err
returns-in-Err c =
    let e = search_refused c.args.r (length c.args.queue.now) c.number.result (c.number.ensures ∙ c.in-Err.ensures) (λ z. not_zero c.in-Err.refusal (sym c.number.ensures ∙ z)) in
    record { value = e; queue_after = after_refusal c.args.r (length c.args.queue.now) c.number.result c.args.queue.now e }

pub search_accepted-requires : goal.search_accepted-requires
search_accepted-requires c =
    record {
      none = ap (λ (words : ℕ). search_refusal c.args.r words) c.clear.auto.words ∙ sym (c.in_default.ensures);
      zero = c.clear.ensures ∙ ap (λ (n : ℕ). replicate n 0) (sym c.clear.auto.words);
    }

pub returns : goal.returns
returns c =
    let f = c.search_accepted.ensures.value ∙ ap (searched c.args.r) c.clear.auto.words in
    record {
      value = f;
      queue_after = c.search_accepted.ensures.queue_unchanged ∙ c.clear.ensures ∙ sym (rw f at (after_answer c.search_accepted.result c.search_accepted.ensures.answers c.args.queue.now));
    }
