use Prim.Native.Nat.{ℕ}
use mathlib.Core.Path.{◌≡◌, refl, sym, ap, ◌∙◌}
use mathlib.Core.Bool.{Bool, true, ◌&&◌, and-eq-true_iff}
use native.Mathlib.Omega.{arith}
use borrow.Author.Tests.{eqb-true, lt-ltb, le-ltb, eq-eqb, ne_eqb}
use lib.Dec.{eqb}
use Rattle.bounds.specs.Reach.{body_of}
use Rattle.bounds.specs.Parts.{right_block}
use Rattle.bounds.proofs.Refusing.{exchanges_by}
use Rattle.bounds.proofs.replace.check_replace.Goals as goal

-- the second test, by its two
given : (n : ℕ) {b x g : Bool} → x ≡ b → (x && eqb n 18) ≡ g → (b && eqb n 18) ≡ g
given n e h = sym (ap (λ (t : Bool). t && eqb n 18) e) ∙ h

eighteen : (b : Bool) (n : ℕ) → (b && eqb n 18) ≡ true → n ≡ 18
eighteen b n h = eqb-true n 18 ((and-eq-true_iff b (eqb n 18)).0 h).1

pub returns-then-not-is_edition : goal.returns-then-not-is_edition
returns-then-not-is_edition c = exchanges_by _ (body_of c.args.m) c.args.bounds.now c.args.n c.args.corners.now (sym c.is_edition.ensures ∙ c.if-not-is_edition.true) refl refl refl refl

pub returns-then-not-given : goal.returns-then-not-given
returns-then-not-given c = exchanges_by _ (body_of c.args.m) c.args.bounds.now c.args.n c.args.corners.now (sym c.is_edition.ensures ∙ c.if-not-is_edition.false) (given _ c.is_body.ensures c.if-not-given.true) refl refl refl

pub returns-then-m-n : goal.returns-then-m-n
returns-then-m-n c = exchanges_by _ (body_of c.args.m) c.args.bounds.now c.args.n c.args.corners.now (sym c.is_edition.ensures ∙ c.if-not-is_edition.false) (given _ c.is_body.ensures c.if-not-given.false) (le-ltb _ _ c.if-m-n.true) refl refl

pub returns-then-not-right : goal.returns-then-not-right
returns-then-not-right c =
    let g = given _ c.is_body.ensures c.if-not-given.false in
    exchanges_by _ (body_of c.args.m) c.args.bounds.now c.args.n c.args.corners.now (sym c.is_edition.ensures ∙ c.if-not-is_edition.false) g (lt-ltb _ _ c.if-m-n.false)
    (sym (right_block c.args.edition c.args.m.count c.args.m.start.now c.args.m.end.now c.args.n c.args.corners.now (eighteen _ _ g) _ c.block_end-high.ensures c.are_right_with.ensures c.are_right_with-2.ensures) ∙ c.if-not-right.true) refl

pub returns-then-bounds-blocks : goal.returns-then-bounds-blocks
returns-then-bounds-blocks c =
    let g = given _ c.is_body.ensures c.if-not-given.false in
    exchanges_by _ (body_of c.args.m) c.args.bounds.now c.args.n c.args.corners.now (sym c.is_edition.ensures ∙ c.if-not-is_edition.false) g (lt-ltb _ _ c.if-m-n.false)
    (sym (right_block c.args.edition c.args.m.count c.args.m.start.now c.args.m.end.now c.args.n c.args.corners.now (eighteen _ _ g) _ c.block_end-high.ensures c.are_right_with.ensures c.are_right_with-2.ensures) ∙ c.if-not-right.false)
    (ne_eqb _ _ (λ e. c.if-bounds-blocks.true (omega (arith, e))))

pub returns : goal.returns
returns c =
    let g = given _ c.is_body.ensures c.if-not-given.false in
    exchanges_by _ (body_of c.args.m) c.args.bounds.now c.args.n c.args.corners.now (sym c.is_edition.ensures ∙ c.if-not-is_edition.false) g (lt-ltb _ _ c.if-m-n.false)
    (sym (right_block c.args.edition c.args.m.count c.args.m.start.now c.args.m.end.now c.args.n c.args.corners.now (eighteen _ _ g) _ c.block_end-high.ensures c.are_right_with.ensures c.are_right_with-2.ensures) ∙ c.if-not-right.false)
    (eq-eqb _ _ (omega arith))
