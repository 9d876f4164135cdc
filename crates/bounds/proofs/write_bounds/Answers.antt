use mathlib.Core.Path.{refl, sym, ap₂, ◌∙◌}
use mathlib.Core.Bool.{◌&&◌}
use native.Mathlib.Omega.{arith}
use borrow.Author.Tests.{lt-ltb, le-ltb}
use Rattle.rules.specs.QueryFile.{put_unless}
use Rattle.bounds.specs.Reach.{body_of}
use Rattle.bounds.specs.Keeping.{known}
use Rattle.bounds.specs.Ranges.{in_range}
use Rattle.bounds.proofs.Refusing.{keeps_by}
use Rattle.bounds.proofs.write_bounds.Goals as goal

pub returns-then-not-is_edition : goal.returns-then-not-is_edition
unfolding put_unless
returns-then-not-is_edition c = record { says = keeps_by _ (body_of c.args.m) c.args.bounds.now (sym c.is_edition.ensures ∙ c.if-not-is_edition.true) refl refl refl; leaves = refl }

pub returns-then-not-is_body : goal.returns-then-not-is_body
unfolding put_unless
returns-then-not-is_body c =
    record { says = keeps_by _ (body_of c.args.m) c.args.bounds.now (sym c.is_edition.ensures ∙ c.if-not-is_edition.false) (sym c.is_body.ensures ∙ c.if-not-is_body.true) refl refl; leaves = refl }

pub returns-then-not-right : goal.returns-then-not-right
unfolding put_unless
returns-then-not-right c =
    record {
      says = keeps_by _ (body_of c.args.m) c.args.bounds.now (sym c.is_edition.ensures ∙ c.if-not-is_edition.false) (sym c.is_body.ensures ∙ c.if-not-is_body.false)
          (sym (ap₂ ◌&&◌ c.are_coordinates.ensures c.are_coordinates-2.ensures) ∙ c.if-not-right.true) refl;
      leaves = refl;
    }

pub returns-then-bounds-blocks : goal.returns-then-bounds-blocks
unfolding put_unless
returns-then-bounds-blocks c =
    record {
      says = keeps_by _ (body_of c.args.m) c.args.bounds.now (sym c.is_edition.ensures ∙ c.if-not-is_edition.false) (sym c.is_body.ensures ∙ c.if-not-is_body.false)
          (sym (ap₂ ◌&&◌ c.are_coordinates.ensures c.are_coordinates-2.ensures) ∙ c.if-not-right.false) (lt-ltb _ _ (omega arith));
      leaves = refl;
    }

pub write_all-requires : goal.write_all-requires
write_all-requires c =
    let m = body_of c.args.m in
    record {
      body = in_range c.args.edition m (known m (sym c.is_body.ensures ∙ c.if-not-is_body.false)) (sym (ap₂ ◌&&◌ c.are_coordinates.ensures c.are_coordinates-2.ensures) ∙ c.if-not-right.false);
      room = omega arith;
    }

pub returns : goal.returns
unfolding put_unless
returns c =
    record {
      says = keeps_by _ (body_of c.args.m) c.args.bounds.now (sym c.is_edition.ensures ∙ c.if-not-is_edition.false) (sym c.is_body.ensures ∙ c.if-not-is_body.false)
          (sym (ap₂ ◌&&◌ c.are_coordinates.ensures c.are_coordinates-2.ensures) ∙ c.if-not-right.false) (le-ltb _ _ (omega arith));
      leaves = c.write_all.ensures;
    }
