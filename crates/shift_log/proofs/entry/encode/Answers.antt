use Prim.Native.Nat.{◌+◌, ◌≤◌}
use mathlib.Core.Path.{refl}
use mathlib.Core.List.{◌++◌}
use native.Mathlib.Omega.{arith}
use lib.ListN.{length}
use Rattle.little.specs.Put.{one_more}
use Rattle.rules.specs.QueryFile.{word_bytes}
use Rattle.rules.specs.AnswerFile.{entry_bytes}
use Rattle.shift_log.proofs.entry.encode.Goals as goal

pub returns : goal.returns
unfolding entry_bytes word_bytes
returns c =
    let room : c.args.at + 32 ≤ length c.args.s.now = c.requires in
    let b0 = word_bytes c.args.id in
    let b1 = word_bytes c.args.a.word in
    let b2 = word_bytes c.args.a.t in
    let b3 = word_bytes c.args.a.u in
    let b4 = word_bytes c.args.a.v in
    let b5 = word_bytes c.args.a.excess in
    let b6 = word_bytes c.args.a.count in
    let b7 = word_bytes c.args.a.number in
    let e1 = one_more c.args.s.now c.write_u32.new.s c.write_u32-2.new.s c.args.at (c.args.at + 4) (b0) b1 c.write_u32.ensures c.write_u32-2.ensures refl (omega arith) in
    let e2 = one_more c.args.s.now c.write_u32-2.new.s c.write_u32-3.new.s c.args.at (c.args.at + 8) (b0 ++ b1) b2 e1 c.write_u32-3.ensures refl (omega arith) in
    let e3 = one_more c.args.s.now c.write_u32-3.new.s c.write_u32-4.new.s c.args.at (c.args.at + 12) (b0 ++ b1 ++ b2) b3 e2 c.write_u32-4.ensures refl (omega arith) in
    let e4 = one_more c.args.s.now c.write_u32-4.new.s c.write_u32-5.new.s c.args.at (c.args.at + 16) (b0 ++ b1 ++ b2 ++ b3) b4 e3 c.write_u32-5.ensures refl (omega arith) in
    let e5 = one_more c.args.s.now c.write_u32-5.new.s c.write_u32-6.new.s c.args.at (c.args.at + 20) (b0 ++ b1 ++ b2 ++ b3 ++ b4) b5 e4 c.write_u32-6.ensures refl (omega arith) in
    let e6 = one_more c.args.s.now c.write_u32-6.new.s c.write_u32-7.new.s c.args.at (c.args.at + 24) (b0 ++ b1 ++ b2 ++ b3 ++ b4 ++ b5) b6 e5 c.write_u32-7.ensures refl (omega arith) in
    one_more c.args.s.now c.write_u32-7.new.s c.write_u32-8.new.s c.args.at (c.args.at + 28) (b0 ++ b1 ++ b2 ++ b3 ++ b4 ++ b5 ++ b6) b7 e6 c.write_u32-8.ensures refl (omega arith)
