use borrow.Author.Tests.{leb-true}
use mathlib.Core.Path.{sym, ◌∙◌}
use lib.Dec.{leb}
use lib.ListN.{length}
use Rattle.rules.specs.declared.Three.{Three}
use Rattle.reasons.specs.Laws.{named_why, has_room, on_grid}
use Rattle.reasons.proofs.Ruling.{tells_refused, tells_named}
use Rattle.reasons.proofs.tell.Goals as goal

pub write_nine-requires : goal.write_nine-requires
write_nine-requires c =
    let at : Three = record { t = c.args.t; u = c.args.u; v = c.args.v } in
    let room = leb 9 (length c.args.out.now) in
    let is = sym c.rule.ensures.says ∙ c.in-Discarded.is in
    let due = (named_why c.args.file.now c.args.n at room (length c.args.queue.now) _ is).0 in
    (leb-true 9 (length c.args.out.now) (has_room c.args.file.now c.args.n at room (length c.args.queue.now) due), on_grid c.args.file.now c.args.n at room (length c.args.queue.now) _ is)

pub returns-in-Refused : goal.returns-in-Refused
returns-in-Refused c =
    tells_refused c.args.file.now c.args.n (record { t = c.args.t; u = c.args.u; v = c.args.v }) c.args.queue.now _ c.args.out.now c.rule.ensures _ c.in-Refused.is

pub returns-in-Discarded : goal.returns-in-Discarded
returns-in-Discarded c =
    tells_named c.args.file.now c.args.n (record { t = c.args.t; u = c.args.u; v = c.args.v }) c.args.queue.now _ c.args.out.now c.rule.ensures _ c.in-Discarded.is c.write_nine.ensures
