use native.Mathlib.Omega.{arith}
use mathlib.Core.Path.{sym, ◌∙◌}
use Rattle.text.proofs.Writing.{then, roomier}
use Rattle.text.proofs.Words.{values_refused, values_answered}
use Rattle.text.proofs.write_values.Goals as goal

pub returns-then-kind-eq0 : goal.returns-then-kind-eq0
returns-then-kind-eq0 c =
    rw (← values_refused c.args.answer (sym c.kind.ensures ∙ c.if-kind-eq0.true)) (roomier c.write_field.ensures (omega (arith, c.write_field.ensures.few)))

pub returns : goal.returns
returns c =
    rw (← values_answered c.args.answer (λ e. c.if-kind-eq0.false (c.kind.ensures ∙ e)))
    (then (then (then (then c.write_field-u_at.ensures c.write_field-v_at.ensures (omega arith))
    c.write_field-excess_at.ensures (omega arith))
    c.write_field-count_at.ensures (omega arith))
    c.write_field-2.ensures (omega arith))
