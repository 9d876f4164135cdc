use mathlib.Core.Path.{sym, ap, ◌∙◌}
use native.Mathlib.Omega.{arith}
use mir.Syntax.{w32}
use mir.Facts.{to_z-of_z}
use borrow.Author.Rules.{sfits_of}
use Rattle.rules.specs.QueryFile.{signed}
use Rattle.little.specs.Signed.{signed_is}
use Rattle.little.proofs.read_i32.Goals as goal

pub returns : goal.returns
returns c =
    to_z-of_z {w = w32} (sfits_of c.cast_signed.type_inv)
    ∙ c.cast_signed.ensures
    ∙ sym (signed_is c.read_u32.result (omega arith))
    ∙ ap signed c.read_u32.ensures
