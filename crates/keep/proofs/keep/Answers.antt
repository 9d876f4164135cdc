-- 15 first, then what the log's writer says. Assumes nothing.
use Rattle.std.proofs.Common.{refl, arith, rules}
use Rattle.std.proofs.lemmas.Result.{err_from_is_err_and}
use Rattle.refusals.specs.Numbered.{not_zero}
use Rattle.keep.specs.Laws.{refuses_long, stays, keeps}
use Rattle.keep.proofs.keep.Goals as goal

pub returns-then-file-gt-MOST : goal.returns-then-file-gt-MOST
returns-then-file-gt-MOST c = refuses_long c.args.file.now c.args.out.now (omega arith)

pub returns-in_err-logged : goal.returns-in_err-logged
returns-in_err-logged c =
    let p = err_from_is_err_and c.from_residual.result c.from_residual.ensures.1 in
    rw (p.1, p.2) (stays c.args.file.now (omega arith) c.requires c.in_err-logged.ensures (not_zero c.in_err-logged.field-0.0))

pub returns : goal.returns
returns c = keeps c.args.file.now (omega arith) c.requires c.in_ok-logged.ensures (search rules) refl c.log_size.ensures
