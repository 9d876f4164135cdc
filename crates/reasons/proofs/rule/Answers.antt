-- What fetching refuses, what refuses the question before the search, 14, and the answer of the search.
use Rattle.std.proofs.Common.{◌≡◌, length, sym, ap, ◌∙◌, arith}
use Rattle.refusals.specs.Numbered.{not_zero}
use Rattle.rules.specs.declared.Fetched.{Fetched}
use Rattle.rules.specs.QueryFile.{fetched}
use Rattle.rules.specs.Why.{ask_refusal, why_search}
use Rattle.reasons.specs.Telling.{asked}
use Rattle.reasons.proofs.Ruling.{not_fetched, not_asked, no_room, ruled}
use Rattle.reasons.proofs.rule.Goals as goal
use Rattle.reasons.proofs.rule.Goals.{Else-refusal-ne0, In_default}

there : (c : Else-refusal-ne0) → (fetched c.args.file.now c.args.n).refusal ≡ 0
there c = ap (λ (f : Fetched). f.refusal) (sym c.fetch-f.ensures) ∙ omega (arith, c.if-refusal-ne0.false)

none : (c : In_default) → ask_refusal (asked c.args.file.now c.args.n) (length c.args.queue.now) c.args.at ≡ 0
none c = ap (λ (f : Fetched). ask_refusal f.query (length c.args.queue.now) c.args.at) (sym c.fetch-f.ensures) ∙ sym (c.in_default.ensures)

pub returns-then-refusal-ne0 : goal.returns-then-refusal-ne0
returns-then-refusal-ne0 c =
    not_fetched c.args.file.now c.args.n c.args.at c.args.room c.args.queue.now c.fetch-f.result.refusal (ap (λ (f : Fetched). f.refusal) c.fetch-f.ensures) c.if-refusal-ne0.true

pub returns-in-Err : goal.returns-in-Err
returns-in-Err c =
    rw c.number.ensures
    (not_asked c.args.file.now c.args.n c.args.at c.args.room c.args.queue.now (there ((goal.at.returns-in-Err c).Else-refusal-ne0)) _
    (c.in-Err.ensures ∙ ap (λ (f : Fetched). ask_refusal f.query (length c.args.queue.now) c.args.at) c.fetch-f.ensures)
    (not_zero c.in-Err.refusal))

pub returns-then-not-room : goal.returns-then-not-room
returns-then-not-room c =
    let at = goal.at.returns-then-not-room c in
    rw c.number-then-not-room.ensures
    (no_room c.args.file.now c.args.n c.args.at c.args.room c.args.queue.now (there at.Else-refusal-ne0) (none at.In_default) c.if-not-room.true)

pub returns : goal.returns
returns c =
    let at = goal.at.returns c in
    ruled c.args.file.now c.args.n c.args.at c.args.room c.args.queue.now (there at.Else-refusal-ne0) (none at.In_default) c.if-not-room.false
    (c.why_accepted.ensures.value ∙ ap (λ (f : Fetched). why_search f.query (length c.args.queue.now) c.args.at) c.fetch-f.ensures)
    c.why_accepted.ensures.queue_after
