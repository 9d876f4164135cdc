use Prim.Native.Nat.{ℕ}
use mathlib.Core.Path.{sym, ap, ◌∙◌}
use mir.Facts.{to_z-of_z}
use mir.Syntax.{w32}
use mir.Val.{of_z}
use Rattle.rules.specs.QueryFile.{put, word_bytes}
use Rattle.little.specs.Signed.{bits_is}
use Rattle.little.proofs.write_i32.Goals as goal

pub returns : goal.returns
returns c =
    let same = c.cast_unsigned.ensures ∙ ap (of_z w32) (to_z-of_z c.ranges.v) ∙ sym (bits_is c.args.v) in
    c.write_u32.ensures ∙ ap (λ (n : ℕ). put c.args.s.now c.args.at (word_bytes n)) same
