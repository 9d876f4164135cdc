use mathlib.Core.Path.{sym, ap, ◌∙◌, subst}
use native.Mathlib.Omega.{arith}
use Prim.Native.Nat.{◌-◌}
use Rattle.rules.specs.declared.Ruling.TheVariants.{Discarded}
use Rattle.rules.specs.declared.Stop.{Stop}
use Rattle.rules.specs.Why.{descend}
use Rattle.kernel.specs.Kernel.{asked}
use Rattle.kernel.specs.Ranges.{shallower}
use Rattle.descent.specs.Way.{Good}
use Rattle.descent.proofs.Going.{good_once, good_half, descend_out, descend_end, descend_on}
use Rattle.descent.proofs.+go_down.Goals as goal

pub missed-requires : goal.missed-requires
missed-requires t c = (c.requires.ranged, (c.requires.shallow, c.requires.grid))

pub reason-requires : goal.reason-requires
reason-requires t c = shallower c.requires.ranged.deepest c.requires.shallow

pub half-requires : goal.half-requires
half-requires t c = good_once c.args.p c.args.s c.args.left c.if-left-eq0.false c.requires

pub go_down-requires : goal.go_down-requires
go_down-requires t c = (
  omega (arith, c.if-left-eq0.false),
  subst (λ (b : Stop). Good c.args.p b (c.args.left - 1)) (sym c.half.ensures) (good_half c.args.p c.args.s c.args.left c.if-left-eq0.false c.requires c.args.at),
)

pub returns-in-Some : goal.returns-in-Some
returns-in-Some t c =
    ap Discarded c.reason.ensures ∙ sym (descend_out (asked c.args.p) c.args.at c.args.s c.args.left _ (sym c.missed.ensures ∙ c.in-Some.is))

pub returns-then-left-eq0 : goal.returns-then-left-eq0
returns-then-left-eq0 t c =
    sym (descend_end (asked c.args.p) c.args.at c.args.s c.args.left c.if-left-eq0.true (sym c.missed.ensures ∙ c.in-None.is))

pub returns-else-left-eq0 : goal.returns-else-left-eq0
returns-else-left-eq0 t c =
    c.go_down.ensures
    ∙ ap (descend (c.args.left - 1) (asked c.args.p) c.args.at) c.half.ensures
    ∙ sym (descend_on (asked c.args.p) c.args.at c.args.s c.args.left c.if-left-eq0.false (sym c.missed.ensures ∙ c.in-None.is))
