use mathlib.Core.Path.{subst}
use mathlib.Core.List.{List, ◌++◌}
use Prim.Native.Nat.{ℕ}
use native.Mathlib.Omega.{arith}
use Rattle.text.proofs.Writing.{then, roomier}
use Rattle.text.specs.Text.{ascii}
use Rattle.text.specs.Writers.{Wrote}
use Rattle.gap.specs.declared.cell.Cell.{Cell}
use Rattle.wording.specs.Line.{share, shares}
use Rattle.wording.proofs.write_shares.Goals as goal

-- The three parameters, whose ends are those of the cell.
-- the text by the ends of the cell
abbrev by_cell : Cell → List ℕ
by_cell x = share x.t0 x.t1 ++ ascii ", " ++ share x.u0 x.u1 ++ ascii ", " ++ share x.v0 x.v1

pub returns : goal.returns
unfolding shares
returns c =
    let e = then (then (then (then c.write_share-t_end.ensures c.write_text-u_at.ensures (omega (arith, c.requires.0))) c.write_share-u_end.ensures (omega (arith, c.requires.0))) c.write_text-v_at.ensures (omega (arith, c.requires.0))) c.write_share.ensures (omega (arith, c.requires.0)) in
    subst (λ (x : Cell). Wrote 106 c.args.out.now c.args.at (by_cell x) c.write_share.new.out c.write_share.result) c.cell_of-w.ensures.is (roomier e (omega (arith, e.few)))
