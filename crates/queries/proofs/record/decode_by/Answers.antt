use Rattle.rules.specs.QueryFile.{record_by}
use Rattle.queries.proofs.record.decode_by.Goals as goal

pub returns : goal.returns
unfolding record_by
returns g c =
    simp (
      c.read_u32.ensures,
      c.read_u32-2.ensures,
      c.read_u32-3.ensures,
      c.read_u32-4.ensures,
      c.read_u32-5.ensures,
      c.read_u32-6.ensures,
      c.place.ensures,
      c.place-2.ensures,
      c.place-3.ensures,
      c.place-4.ensures,
      c.cap_by.ensures,
      c.requires.1,
    )
