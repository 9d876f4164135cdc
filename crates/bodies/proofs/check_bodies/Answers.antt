use Rattle.std.proofs.Common.{◌≡◌, true, ◌&&◌, sym, ap, ◌∙◌, arith}
use Rattle.std.proofs.lemmas.Result.{err_from_is_err_and}
use Rattle.rules.specs.declared.Record.{Record}
use Rattle.rules.specs.Refusals.{search_refusal}
use Rattle.rules.specs.Bodies.{is_body}
use Rattle.bounds.specs.Reach.{body_of}
use Rattle.bodies.proofs.Refusing.{both, no_bodies, first_comes, by_positions, starts_there, ends_there}
use Rattle.bodies.proofs.check_bodies.Goals as goal
use Rattle.bodies.proofs.check_bodies.Goals.{Else-not-bodies}

pub returns-then-not-bodies : goal.returns-then-not-bodies
returns-then-not-bodies c =
    no_bodies c.args.w (body_of c.args.a) (body_of c.args.b) c.args.words
    (both (sym c.is_body.ensures) (sym c.is_body-2.ensures) ∙ c.if-not-bodies.true)

are_bodies : (c : Else-not-bodies) → (is_body (body_of c.args.a) && is_body (body_of c.args.b)) ≡ true
are_bodies c = both (sym c.is_body.ensures) (sym c.is_body-2.ensures) ∙ c.if-not-bodies.false

pub query_at-requires : goal.query_at-requires
query_at-requires c =
    let e = are_bodies ((goal.at.query_at-requires c).Else-not-bodies) in (
      starts_there c.args.w (body_of c.args.a) (body_of c.args.b) c.args.words e,
      ends_there c.args.w (body_of c.args.a) (body_of c.args.b) c.args.words e,
      omega arith,
    )

pub returns-in_err-check_search : goal.returns-in_err-check_search
returns-in_err-check_search c =
    let p = err_from_is_err_and c.from_residual.result c.from_residual.ensures.1 in
    rw (p.1, p.2)
    (first_comes c.args.w (body_of c.args.a) (body_of c.args.b) c.args.words (are_bodies ((goal.at.returns-in_err-check_search c).Else-not-bodies)) _
    (c.in_err-check_search.ensures ∙ ap (λ (r : Record). search_refusal r c.args.words) (c.query_at.ensures c.args.a.count c.args.b.count)))

pub returns-then-right : goal.returns-then-right
returns-then-right c =
    by_positions c.args.w (body_of c.args.a) (body_of c.args.b) c.args.words (are_bodies ((goal.at.returns-then-right c).Else-not-bodies))
    (c.in_ok-check_search.ensures ∙ ap (λ (r : Record). search_refusal r c.args.words) (c.query_at.ensures c.args.a.count c.args.b.count)) _
    (both (both (sym c.are_coordinates.ensures) (sym c.are_coordinates-2.ensures)) (both (sym c.are_coordinates-3.ensures) (sym c.are_coordinates-4.ensures)) ∙ c.if-right.true)

pub returns-else-right : goal.returns-else-right
returns-else-right c =
    by_positions c.args.w (body_of c.args.a) (body_of c.args.b) c.args.words (are_bodies ((goal.at.returns-else-right c).Else-not-bodies))
    (c.in_ok-check_search.ensures ∙ ap (λ (r : Record). search_refusal r c.args.words) (c.query_at.ensures c.args.a.count c.args.b.count)) _
    (both (both (sym c.are_coordinates.ensures) (sym c.are_coordinates-2.ensures)) (both (sym c.are_coordinates-3.ensures) (sym c.are_coordinates-4.ensures)) ∙ c.if-right.false)
