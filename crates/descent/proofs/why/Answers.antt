use Rattle.std.proofs.Common.{length, sym, ◌∙◌}
use Rattle.refusals.specs.Numbered.{not_zero}
use Rattle.descent.proofs.Refusing.{refused_before, untouched, cleared}
use Rattle.descent.proofs.why.Goals as goal

pub returns-in-Err : goal.returns-in-Err
returns-in-Err c =
    let words = length c.args.queue.now in
    let some = not_zero c.in-Err.refusal in
    record {
      value = rw c.number.ensures (refused_before c.args.r words c.args.at _ (c.in-Err.ensures) some);
      queue_after = untouched c.args.r words c.args.at _ (c.in-Err.ensures) some c.args.queue.now;
    }

pub why_accepted-requires : goal.why_accepted-requires
why_accepted-requires c = sym (c.in_default.ensures)

pub returns : goal.returns
returns c =
    record {
      value = c.why_accepted.ensures.value;
      queue_after = c.why_accepted.ensures.queue_after ∙ cleared c.args.r (length c.args.queue.now) c.args.at (sym (c.in_default.ensures)) c.args.queue.now;
    }
