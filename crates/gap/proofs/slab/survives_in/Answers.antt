use Rattle.std.proofs.Common.{sym, ◌∙◌}
use Rattle.gap.specs.Slab.{ready}
use Rattle.gap.proofs.slab.survives_in.Goals as goal
use Rattle.gap.proofs.slab.survives_in.Goals.{then-meets_strip, else-meets_strip}

-- `gap::slab::survives_in` meets its contract.
pub meets_strip-requires : goal.meets_strip-requires
meets_strip-requires c =
    let y = ready c.args.p c.args.k c.args.i c.requires.0 c.requires.1.0 c.requires.1.1.0 c.args.s c.requires.1.1.1 in
    y.z

pub meets_strip-requires-then-meets_strip : goal.meets_strip-requires-then-meets_strip
meets_strip-requires-then-meets_strip c =
    let y = ready c.args.p c.args.k c.args.i c.requires.0 c.requires.1.0 c.requires.1.1.0 c.args.s c.requires.1.1.1 in
    y.x

pub meets_strip-requires-then-meets_strip-2 : goal.meets_strip-requires-then-meets_strip-2
meets_strip-requires-then-meets_strip-2 c =
    let y = ready c.args.p c.args.k c.args.i c.requires.0 c.requires.1.0 c.requires.1.1.0 c.args.s c.requires.1.1.1 in
    y.y

pub returns-then-meets_strip-2 : goal.returns-then-meets_strip-2
returns-then-meets_strip-2 c =
    let y = ready c.args.p c.args.k c.args.i c.requires.0 c.requires.1.0 c.requires.1.1.0 c.args.s c.requires.1.1.1 in
    elim c.if-meets_strip.branch [
      | then-meets_strip w ↦
          rw (← y.by, ← c.meets_strip.ensures, w.if-meets_strip.true, ← w.meets_strip-then-meets_strip.ensures, sym w.value-is ∙ c.if-meets_strip-2.true)
          c.meets_strip-then-meets_strip-2.ensures
      | else-meets_strip w ↦ cc
    ]

pub returns-else-meets_strip-2 : goal.returns-else-meets_strip-2
returns-else-meets_strip-2 c =
    let y = ready c.args.p c.args.k c.args.i c.requires.0 c.requires.1.0 c.requires.1.1.0 c.args.s c.requires.1.1.1 in
    elim c.if-meets_strip.branch [
      | then-meets_strip w ↦
          rw (← y.by, ← c.meets_strip.ensures, w.if-meets_strip.true, ← w.meets_strip-then-meets_strip.ensures, sym w.value-is ∙ c.if-meets_strip-2.false)
          c.if-meets_strip-2.false
      | else-meets_strip w ↦ rw (← y.by, ← c.meets_strip.ensures, w.if-meets_strip.false) c.if-meets_strip-2.false
    ]
