use Prim.Native.Nat.{ℕ, ◌+◌}
use mathlib.Core.List.{List, ◌++◌, append_assoc}
use mathlib.Core.Path.{◌≡◌, ap, sym, ◌∙◌}
use native.Mathlib.Omega.{arith}
use lib.IntN.{ℤ}
use lib.ListN.{length, take, drop}
use lib.Seq.{drop-drop}
use Rattle.rules.specs.QueryFile.{put}
use Rattle.bounds.proofs.replace.copy_in.Goals as goal

-- a run put in the place of as many
run_put : (l run ys : List ℤ) (at k : ℕ) → ys ≡ run → k ≡ length run → take at l ++ (ys ++ drop k (drop at l)) ≡ put l at run
unfolding put
run_put l run ys at k e h = rw (e, h) (ap (λ (r : List ℤ). take at l ++ (run ++ r)) (drop-drop (length run) at l) ∙ sym (append_assoc (take at l) run (drop (at + length run) l)))

pub returns : goal.returns
returns c = run_put c.args.out.now c.args.run.now c.copy_from_slice.new.self c.args.at _ c.copy_from_slice.ensures.after (omega arith)
