use mathlib.Core.Path.{sym, ◌∙◌}
use mathlib.Core.Bool.{and-eq-true_iff}
use lib.Dec.{eqb}
use borrow.Author.Tests.{eqb-true, eqb-false}
use Rattle.gap.specs.Slab.{slab_own}
use Rattle.search.proofs.Checking.{box_of_turn, checks_first, checks_spent, checking_lost, checking_again, checking_first, checks_all}
use native.Mathlib.Omega.{arith}
use Rattle.std.proofs.Common.{true≢false}
use Rattle.search.proofs.check_level.Goals as goal
use Rattle.search.proofs.check_level.Goals.{then-alive-m+in_ok-corner, else-alive-m, then-alive, else-alive}

-- The loop is that of `Checking`.
pub renewed-slab-requires : goal.renewed-slab-requires
renewed-slab-requires c =
    let b = box_of_turn c.requires c.loop-i.invariant.0 c.within_budget-last.ensures c.loop-i-test.true in
    (b.ranged, (b.shallow, (rw c.unpack-b.ensures b.grid.t, c.loop-i.invariant.1)))

pub survives_in-alive-requires : goal.survives_in-alive-requires
survives_in-alive-requires c =
    let b = box_of_turn c.requires c.loop-i.invariant.0 c.within_budget-last.ensures c.loop-i-test.true in
    (b.ranged, (b.shallow, (rw c.unpack-b.ensures b.grid, c.renewed-slab.ensures)))

pub first_survivor-requires : goal.first_survivor-requires
first_survivor-requires c =
    rw c.unpack-b.ensures (box_of_turn c.requires c.loop-i.invariant.0 c.within_budget-last.ensures c.loop-i-test.true)

pub returns-in_err-corner : goal.returns-in_err-corner
returns-in_err-corner c =
    let t = (and-eq-true_iff _ (eqb c.loop-i.m 0)).0 c.if-alive-m.true in
    rw c.from_residual.ensures
    (checks_first c.requires c.loop-i.invariant.0 c.within_budget-last.ensures c.loop-i-test.true (eqb-true c.loop-i.m 0 t.1) (rw c.unpack-b.ensures at (sym c.survives_in-alive.ensures ∙ t.0)) (rw (c.in_err-corner.was, c.unpack-b.ensures) at c.first_survivor.ensures))

pub loop-i-preserved : goal.loop-i-preserved
loop-i-preserved c =
    let next = slab_own c.args.p c.args.l.depths _ _ c.renewed-slab.ensures in
    elim c.if-alive.branch [
      | then-alive v ↦ let alive = rw c.unpack-b.ensures at (sym c.survives_in-alive.ensures ∙ v.if-alive.true) in
          elim c.if-alive-m.branch [
            | then-alive-m+in_ok-corner w ↦ let t = (and-eq-true_iff _ (eqb c.loop-i.m 0)).0 w.if-alive-m.true in
                (rw (v.m-is, w.corner-is) (checking_first c.requires c.loop-i.invariant.0 c.within_budget-last.ensures c.loop-i-test.true (eqb-true c.loop-i.m 0 t.1) alive (rw (w.in_ok-corner.was, c.unpack-b.ensures) at w.first_survivor.ensures)), next)
            | else-alive-m w ↦ (rw (v.m-is, w.corner-is) (checking_again c.requires c.loop-i.invariant.0 c.within_budget-last.ensures c.loop-i-test.true alive (omega (arith, eqb-false c.loop-i.m 0 (rw v.if-alive.true at w.if-alive-m.false)))), next)
          ]
      | else-alive v ↦ elim c.if-alive-m.branch [
        | then-alive-m+in_ok-corner w ↦ absurd (true≢false (sym ((and-eq-true_iff _ (eqb c.loop-i.m 0)).0 w.if-alive-m.true).0 ∙ v.if-alive.false))
        | else-alive-m w ↦ (rw (v.m-is, w.corner-is) (checking_lost c.requires c.loop-i.invariant.0 c.within_budget-last.ensures c.loop-i-test.true (rw c.unpack-b.ensures at (sym c.survives_in-alive.ensures ∙ v.if-alive.false))), next)
      ]
    ]

pub returns-then-last-l : goal.returns-then-last-l
returns-then-last-l c =
    checks_spent c.requires c.loop-i.invariant.0 c.within_budget-last.ensures (omega (arith, c.loop-i-test.false, c.loop-i.auto.i-end)) c.if-last-l.true

pub returns : goal.returns
returns c =
    checks_all c.requires c.loop-i.invariant.0 c.within_budget-last.ensures (omega (arith, c.loop-i-test.false, c.loop-i.auto.i-end)) c.if-last-l.false
