use mathlib.Core.Path.{subst}
use mathlib.Core.List.{List, ◌++◌}
use Prim.Native.Nat.{ℕ}
use native.Mathlib.Omega.{arith}
use Rattle.text.proofs.Writing.{then, roomier}
use Rattle.text.specs.Text.{ascii}
use Rattle.text.specs.Writers.{Wrote}
use Rattle.gap.specs.declared.cell.Cell.{Cell}
use Rattle.wording.specs.Line.{span, spans}
use Rattle.wording.proofs.write_spans.Goals as goal

-- The three parameters, whose ends are those of the cell.
-- the text by the ends of the cell
abbrev by_cell : Cell → List ℕ
by_cell x = span 116 x.t0 x.t1 ++ ascii ", " ++ span 117 x.u0 x.u1 ++ ascii ", " ++ span 118 x.v0 x.v1

pub returns : goal.returns
unfolding spans
returns c =
    let e = then (then (then (then c.write_span-t_end.ensures c.write_text-u_at.ensures (omega (arith, c.requires.0))) c.write_span-u_end.ensures (omega (arith, c.requires.0))) c.write_text-v_at.ensures (omega (arith, c.requires.0))) c.write_span.ensures (omega (arith, c.requires.0)) in
    subst (λ (x : Cell). Wrote 82 c.args.out.now c.args.at (by_cell x) c.write_span.new.out c.write_span.result) c.cell_of-w.ensures.is (roomier e (omega (arith, e.few)))
