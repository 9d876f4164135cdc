use Prim.Native.Nat.{◌+◌}
use mathlib.Core.Path.{refl}
use mathlib.Core.List.{[], ◌∷◌}
use native.Mathlib.Omega.{arith}
use Rattle.little.specs.Put.{one_more}
use Rattle.answers.proofs.write_eight.Goals as goal

pub returns : goal.returns
returns c =
    one_more c.args.out.now c.write_four.new.out c.write_four-2.new.out c.args.at (c.args.at + 4)
    (c.args.id ∷ c.args.n.word ∷ c.args.n.t ∷ c.args.n.u ∷ [])
    (c.args.n.v ∷ c.args.n.excess ∷ c.args.n.count ∷ c.args.n.number ∷ [])
    c.write_four.ensures
    c.write_four-2.ensures
    refl
    (omega arith)
