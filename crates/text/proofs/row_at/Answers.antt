use native.Mathlib.Nat.{add-zero}
use lib.Seq.{get_or-drop}
use Rattle.text.specs.Text.{row_of}
use Rattle.text.proofs.row_at.Goals as goal

pub returns : goal.returns
unfolding row_of
returns c = simp (get_or-drop, add-zero)
