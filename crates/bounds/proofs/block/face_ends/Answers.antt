use Prim.Native.Nat.{◌+◌}
use mathlib.Core.Path.{◌≡◌, ap₂, ◌∙◌}
use lib.IntN.{ℤ, pos, ◌+ℤ◌, ◌-ℤ◌}
use lib.ListN.{get_or}
use mir.Facts.{to_z-of_z}
use mir.Syntax.{w32}
use mir.Val.{SFits}
use Rattle.std.specs.Int.{int_min, int_max}
use Rattle.whole.specs.Defs.{min_z, max_z}
use Rattle.whole.specs.Read.{back, back₂}
use Rattle.whole.specs.Within.{fits}
use Rattle.whole.specs.Order.{int_min_is, int_max_is}
use Rattle.bounds.proofs.block.face_ends.Goals as goal

-- of two picks that are the same
picked : (pick pick' : ℤ → ℤ → ℤ) → ((x y : ℤ) → pick x y ≡ pick' x y) → {v1 v2 v3 v4 a b r : ℤ} → a ≡ pick v1 v2 → b ≡ pick v3 v4 → r ≡ pick a b → r ≡ pick' (pick' v1 v2) (pick' v3 v4)
picked pick pick' same e f g = g ∙ same _ _ ∙ ap₂ pick' (e ∙ same _ _) (f ∙ same _ _)

pub returns-clause-least : goal.returns-clause-least
returns-clause-least c =
    let x : SFits w32 (get_or c.args.s.now c.args.at (pos 0)) = fits tt c.requires.first in
    let y : SFits w32 (get_or c.args.s.now (c.args.at + 3) (pos 0)) = fits tt c.requires.second in
    let z : SFits w32 (get_or c.args.s.now (c.args.at + 6) (pos 0)) = fits tt c.requires.third in
    let last = back w32 c.fourth-v4.type_inv (c.fourth-v4.ensures ∙ (λ i. to_z-of_z y i +ℤ to_z-of_z z i -ℤ to_z-of_z x i)) in
    picked int_min min_z int_min_is (back₂ w32 w32 int_min x y c.min.type_inv c.min.ensures.value)
    (back w32 c.min-2.type_inv (c.min-2.ensures.value ∙ ap₂ int_min (to_z-of_z z) last)) (back w32 c.min-3.type_inv c.min-3.ensures.value)

pub returns-clause-greatest : goal.returns-clause-greatest
returns-clause-greatest c =
    let x : SFits w32 (get_or c.args.s.now c.args.at (pos 0)) = fits tt c.requires.first in
    let y : SFits w32 (get_or c.args.s.now (c.args.at + 3) (pos 0)) = fits tt c.requires.second in
    let z : SFits w32 (get_or c.args.s.now (c.args.at + 6) (pos 0)) = fits tt c.requires.third in
    let last = back w32 c.fourth-v4.type_inv (c.fourth-v4.ensures ∙ (λ i. to_z-of_z y i +ℤ to_z-of_z z i -ℤ to_z-of_z x i)) in
    picked int_max max_z int_max_is (back₂ w32 w32 int_max x y c.max.type_inv c.max.ensures.value)
    (back w32 c.max-2.type_inv (c.max-2.ensures.value ∙ ap₂ int_max (to_z-of_z z) last)) (back w32 c.max-3.type_inv c.max-3.ensures.value)
