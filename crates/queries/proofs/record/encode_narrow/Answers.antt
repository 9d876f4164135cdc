use Prim.Native.Nat.{◌+◌, ◌≤◌}
use mathlib.Core.Path.{refl}
use mathlib.Core.List.{[], ◌∷◌, ◌++◌}
use native.Mathlib.Omega.{arith}
use lib.ListN.{length}
use Rattle.little.specs.Put.{one_more}
use Rattle.rules.specs.QueryFile.{word_bytes}
use Rattle.rules.specs.QueryFile.{bytes_by, coordinate_bytes}
use Rattle.queries.proofs.record.encode_narrow.Goals as goal

pub returns : goal.returns
unfolding bytes_by word_bytes
returns c =
    let room : c.args.at + 116 ≤ length c.args.s.now = c.requires in
    let b0 = c.args.r.kind ∷ c.args.r.flags ∷ c.args.r.byte2 ∷ c.args.r.byte3 ∷ [] in
    let b1 = word_bytes c.args.r.id in
    let b2 = word_bytes c.args.r.dx in
    let b3 = word_bytes c.args.r.tolerance in
    let b4 = word_bytes c.args.r.budget in
    let e1 = one_more c.args.s.now c.write4.new.s c.write_u32.new.s c.args.at (c.args.at + 4) b0 b1 c.write4.ensures c.write_u32.ensures refl (omega arith) in
    let e2 = one_more c.args.s.now c.write_u32.new.s c.write_u32-2.new.s c.args.at (c.args.at + 8) (b0 ++ b1) b2 e1 c.write_u32-2.ensures refl (omega arith) in
    let e3 = one_more c.args.s.now c.write_u32-2.new.s c.write_u32-3.new.s c.args.at (c.args.at + 12) (b0 ++ b1 ++ b2) b3 e2 c.write_u32-3.ensures refl (omega arith) in
    let e4 = one_more c.args.s.now c.write_u32-3.new.s c.write_u32-4.new.s c.args.at (c.args.at + 16) (b0 ++ b1 ++ b2 ++ b3) b4 e3 c.write_u32-4.ensures refl (omega arith) in
    one_more c.args.s.now c.write_u32-4.new.s c.write_points.new.s c.args.at (c.args.at + 20) (b0 ++ b1 ++ b2 ++ b3 ++ b4) (coordinate_bytes c.args.r.points) e4 c.write_points.ensures refl (omega arith)
