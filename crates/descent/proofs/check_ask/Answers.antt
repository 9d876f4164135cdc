-- The search's own, and then 23.
use Rattle.std.proofs.Common.{refl}
use Rattle.std.proofs.lemmas.Result.{err_from_is_err_and}
use Rattle.refusals.specs.Numbered.{not_zero}
use Rattle.rules.specs.Refusals.{first}
use Rattle.rules.specs.Why.{ask_refusal}
use Rattle.descent.proofs.Refusing.{own_first}
use Rattle.descent.proofs.check_ask.Goals as goal

pub returns-in_err-check_search : goal.returns-in_err-check_search
returns-in_err-check_search c =
    let p = err_from_is_err_and c.from_residual.result c.from_residual.ensures.1 in
    rw (p.1, p.2) (own_first c.args.r c.args.words c.args.at _ (c.in_err-check_search.ensures) (not_zero c.in_err-check_search.field-0.0))

pub returns-then-in_domain : goal.returns-then-in_domain
unfolding ask_refusal first
returns-then-in_domain c = rw (← c.in_ok-check_search.ensures, ← c.if-in_domain.ensures) refl

pub returns-else-in_domain : goal.returns-else-in_domain
unfolding ask_refusal first
returns-else-in_domain c = rw (← c.in_ok-check_search.ensures, ← c.if-in_domain.ensures) refl
