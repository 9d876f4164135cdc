use native.Mathlib.Omega.{arith}
use Rattle.controller.proofs.Writing.{not_fetched, copied}
use Rattle.controller.proofs.taperhive_copy.Goals as goal

pub returns-then-refusal-ne0 : goal.returns-then-refusal-ne0
returns-then-refusal-ne0 c =
    not_fetched c.args.file.now c.args.n c.args.edition c.args.out.now c.args.at c.fetch-f.ensures c.if-refusal-ne0.true

pub returns : goal.returns
returns c =
    copied c.args.file.now c.args.n c.args.edition c.args.out.now c.args.at c.fetch-f.ensures (omega (arith, c.if-refusal-ne0.false)) c.write_record.ensures c.number_in.ensures
