use borrow.Author.Rules.{sfits_of}
use mir.Val.{SFits}
use mathlib.Core.Path.{◌≡◌}
use lib.Dec.{lit≤}
use Rattle.whole.specs.Within.{Within, fits, within_pos, within_sub, within_more, within_sfits}
use Rattle.kernel.specs.declared.Kernel.{Kernel}
use Rattle.bounds.specs.Reach.{triangle_at}
use Prim.Native.Nat.{◌+◌}
use lib.IntN.{ℤ, pos, ◌-ℤ◌}
use lib.ListN.{get_or}
use mir.Syntax.{w32, w64}
use Rattle.whole.specs.Read.{back₂}
use Rattle.bounds.proofs.reach.triangle_at.Goals as goal

-- `bounds::reach::triangle_at` meets its contract.
-- what two numbers of 32 bits are apart
side : {x y : ℤ} → SFits w32 x → SFits w32 y → Within 4_294_967_296 (x -ℤ y)
side x y = within_sub (within_sfits x) (within_sfits y)

first : {x : ℤ} → SFits w32 x → Within 4_294_967_296 (x -ℤ pos 0)
first x = within_more (lit≤ tt) (within_sub (within_sfits x) (within_pos 0))

pub returns : goal.returns
returns c =
    let x : SFits w32 (get_or c.args.s.now c.args.at (pos 0)) = sfits_of c.minus-arg-1.given in
    let y : SFits w32 (get_or c.args.s.now (c.args.at + 3) (pos 0)) = sfits_of c.minus-arg-2-1.given in
    let z : SFits w32 (get_or c.args.s.now (c.args.at + 6) (pos 0)) = sfits_of c.minus-arg-4-1.given in
    let x' : SFits w32 (get_or c.args.e.now c.args.at (pos 0)) = sfits_of c.minus-arg-6-1.given in
    let y' : SFits w32 (get_or c.args.e.now (c.args.at + 3) (pos 0)) = sfits_of c.minus-arg-7-1.given in
    let z' : SFits w32 (get_or c.args.e.now (c.args.at + 6) (pos 0)) = sfits_of c.minus-arg-9-1.given in
    let o : SFits w32 (pos 0) = fits tt (within_pos 0) in
    let a0 = back₂ w64 w32 ◌-ℤ◌ x o c.minus-a0.type_inv c.minus-a0.ensures in
    let b0 = back₂ w64 w32 ◌-ℤ◌ y x c.minus-b0.type_inv c.minus-b0.ensures in
    let c0 = back₂ w64 w32 ◌-ℤ◌ z x c.minus-c0.type_inv c.minus-c0.ensures in
    let a1 = back₂ w64 w32 ◌-ℤ◌ x' o c.minus-a1.type_inv c.minus-a1.ensures in
    let b1 = back₂ w64 w32 ◌-ℤ◌ y' x' c.minus-b1.type_inv c.minus-b1.ensures in
    let c1 = back₂ w64 w32 ◌-ℤ◌ z' x' c.minus-c1.type_inv c.minus-c1.ensures in
    let e : ◌≡◌ {A = Kernel} _ (triangle_at c.args.s.now c.args.e.now c.args.at) = λ i. record { a0 = a0 i; b0 = b0 i; c0 = c0 i; a1 = a1 i; b1 = b1 i; c1 = c1 i } in
    record {
      value = e;
      wide = rw e (record { a0 = first x; b0 = side y x; c0 = side z x; a1 = first x'; b1 = side y' x'; c1 = side z' x' });
    }
