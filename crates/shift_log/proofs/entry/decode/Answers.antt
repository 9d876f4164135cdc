use Rattle.rules.specs.AnswerFile.{told_at}
use Rattle.shift_log.proofs.entry.decode.Goals as goal

pub returns : goal.returns
unfolding told_at
returns c =
    simp (
      c.read_u32.ensures,
      c.read_u32-2.ensures,
      c.read_u32-3.ensures,
      c.read_u32-4.ensures,
      c.read_u32-5.ensures,
      c.read_u32-6.ensures,
      c.read_u32-7.ensures,
    )
