use mathlib.Core.Path.{sym, ap, ◌∙◌}
use Prim.Native.Nat.{ℕ}
use lib.ListN.{length, replicate}
use Rattle.rules.specs.declared.Answer.{Answer}
use Rattle.rules.specs.Refusals.{search_refusal}
use Rattle.rules.specs.Search.{search as searched}
use Rattle.rules.specs.Why.{is_before, from_whole}
use Rattle.descent.proofs.Refusing.{own_none, refused_24, its_box}
use Rattle.descent.proofs.why_accepted.Goals as goal

pub search_levels-a-requires : goal.search_levels-a-requires
search_levels-a-requires c =
    record {
      none = ap (λ (words : ℕ). search_refusal c.args.r words) c.clear.auto.words ∙ own_none c.args.r (length c.args.queue.now) c.args.at c.requires;
      zero = c.clear.ensures ∙ ap (λ (n : ℕ). replicate n 0) (sym c.clear.auto.words);
    }

pub returns-then-not-is_before : goal.returns-then-not-is_before
returns-then-not-is_before c =
    let found = c.search_levels-a.ensures.value ∙ ap (searched c.args.r) c.clear.auto.words in
    let late = ap (λ (a : Answer). is_before a c.args.at.t) (sym found) ∙ sym c.is_before.ensures ∙ c.if-not-is_before.true in
    record {
      value = rw c.number.ensures (refused_24 c.args.r (length c.args.queue.now) c.args.at c.requires late);
      queue_after = c.search_levels-a.ensures.queue_unchanged ∙ c.clear.ensures;
    }

pub from_whole-requires : goal.from_whole-requires
from_whole-requires c =
    ap (λ (words : ℕ). search_refusal c.args.r words) (c.search_levels-a.auto.queue ∙ c.clear.auto.words) ∙ own_none c.args.r (length c.args.queue.now) c.args.at c.requires

pub returns : goal.returns
returns c =
    let found = c.search_levels-a.ensures.value ∙ ap (searched c.args.r) c.clear.auto.words in
    let soon = ap (λ (a : Answer). is_before a c.args.at.t) (sym found) ∙ sym c.is_before.ensures ∙ c.if-not-is_before.false in
    let words = c.search_levels-a.auto.queue ∙ c.clear.auto.words in
    record {
      value = c.from_whole.ensures ∙ ap (λ (n : ℕ). from_whole c.args.r n c.args.at) words ∙ its_box c.args.r (length c.args.queue.now) c.args.at c.requires soon;
      queue_after = c.search_levels-a.ensures.queue_unchanged ∙ c.clear.ensures;
    }
