use mathlib.Core.Path.{◌≡◌, ap, ◌∙◌}
use Prim.Native.Nat.{◌+◌}
use lib.ListN.{length}
use Rattle.rules.specs.declared.Record.{Record}
use Rattle.rules.specs.Answers.{told}
use Rattle.rules.specs.Refusals.{search_refusal}
use Rattle.rules.specs.Search.{search as searched}
use Rattle.rules.specs.Bodies.{ask_of, cap_of, capped}
use Rattle.triangles.specs.Members.{asked, ask_at}
use Rattle.triangles.specs.InOrder.{capped_none}
use Rattle.bodies.specs.Walk.{positions_of}
use Rattle.bodies.proofs.Walking.{heard_one, not_refused}
use Rattle.bodies.proofs.hear_query.Goals as goal

pub search_accepted-answer-requires : goal.search_accepted-answer-requires
unfolding capped
search_accepted-answer-requires c =
    let asks : capped c.cap_of.result c.query_at-asks.result ≡ capped (cap_of c.args.sofar) (ask_of c.args.w (positions_of c.args.a) (positions_of c.args.b) c.args.i c.args.j (ask_at c.args.k)) =
    λ i. capped (c.cap_of.ensures i) (c.query_at-asks.ensures 0 0 i) in
    let words = length c.args.queue.now in
    record {
      none = ap (λ (r : Record). search_refusal r words) (asks) ∙ capped_none (cap_of c.args.sofar) words _ c.requires.to_hear.step (not_refused _ _ c.requires.to_hear.none);
      zero = c.requires.to_hear.zero;
    }

pub returns : goal.returns
unfolding capped
returns c =
    let asks : capped c.cap_of.result c.query_at-asks.result ≡ capped (cap_of c.args.sofar) (ask_of c.args.w (positions_of c.args.a) (positions_of c.args.b) c.args.i c.args.j (ask_at c.args.k)) =
    λ i. capped (c.cap_of.ensures i) (c.query_at-asks.ensures 0 0 i) in
    let words = length c.args.queue.now in
    record {
      says = heard_one words c.args.sofar (asked c.args.w (positions_of c.args.a) (positions_of c.args.b) c.args.i c.args.j (1 + c.args.k) (ask_at c.args.k)) _ _ c.requires.to_hear.goes
          (c.numbers.ensures ∙ ap told (c.search_accepted-answer.ensures.value ∙ ap (λ (r : Record). searched r words) (asks))) (c.heard.ensures.says _);
      kept = c.search_accepted-answer.ensures.queue_unchanged;
      grows = c.heard.ensures.grows;
    }
