use Prim.Native.Nat.{ℕ, ◌+◌, ◌*◌}
use mathlib.Core.Path.{◌≡◌, ap, ◌∙◌}
use mathlib.Core.List.{◌++◌}
use native.Mathlib.Omega.{arith}
use lib.ListN.{length, length-append}
use borrow.Author.Rules.{rules}
use Rattle.rules.specs.QueryFile.{word_bytes, edition_bytes, trailer_bytes, put}
use Rattle.little.specs.Put.{one_more}
use Rattle.queries.proofs.writing.encode_trailer.Goals as goal

pub returns : goal.returns
unfolding trailer_bytes word_bytes
returns c =
    let four_long : length c.args.form.mark ≡ 4 = search rules in
    let b1 = edition_bytes c.args.form in
    let b2 = word_bytes (c.args.form.size * c.args.count) in
    let b3 = word_bytes c.args.count in
    let second = c.write_u32.ensures ∙ ap (λ (n : ℕ). put c.write4-2.new.s (c.args.at + 8) (word_bytes n)) c.times.ensures in
    let e1 = one_more c.args.s.now c.write4.new.s c.write4-2.new.s c.args.at (c.args.at + 4) c.args.form.mark b1 c.write4.ensures c.write4-2.ensures (omega arith) (omega arith) in
    let e2 = one_more c.args.s.now c.write4-2.new.s c.write_u32.new.s c.args.at (c.args.at + 8) (c.args.form.mark ++ b1) b2 e1 second (simp length-append (omega arith)) (simp length-append (omega arith)) in
    one_more c.args.s.now c.write_u32.new.s c.write_u32-2.new.s c.args.at (c.args.at + 12) (c.args.form.mark ++ b1 ++ b2) b3 e2 c.write_u32-2.ensures (simp length-append (omega arith)) (simp length-append (omega arith))
