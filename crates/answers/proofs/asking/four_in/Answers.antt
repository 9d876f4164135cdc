use mir.Facts.{to_z-of_z}
use borrow.Author.Rules.{sfits_of}
use Rattle.answers.proofs.asking.four_in.Goals as goal

pub returns : goal.returns
returns c =
    rw (
      to_z-of_z (sfits_of c.read_i32.type_inv),
      c.read_i32.ensures,
      to_z-of_z (sfits_of c.read_i32-2.type_inv),
      c.read_i32-2.ensures,
      to_z-of_z (sfits_of c.read_i32-3.type_inv),
      c.read_i32-3.ensures,
      to_z-of_z (sfits_of c.read_i32-4.type_inv),
      c.read_i32-4.ensures,
    )
