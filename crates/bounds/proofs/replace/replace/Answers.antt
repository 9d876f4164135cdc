use native.Mathlib.Omega.{arith}
use Rattle.std.proofs.Common.{sym}
use Rattle.std.proofs.lemmas.Result.{err_from_is_err_and}
use Rattle.rules.specs.Bounds.{block_of, replaced}
use Rattle.bounds.specs.Reach.{body}
use Rattle.bounds.specs.Ranges.{has_block}
use Rattle.bounds.specs.Staying.{exchange_taken, replaceable, replaced_known}
use Rattle.bounds.proofs.Refusing.{refuses_replacing, replaces}
use Rattle.bounds.proofs.replace.replace.Goals as goal

pub returns-in_err-check_replace : goal.returns-in_err-check_replace
returns-in_err-check_replace c =
    let p = err_from_is_err_and c.from_residual.result c.from_residual.ensures.1 in
    rw (p.1, p.2) (refuses_replacing _ c.args.edition (body c.args.count c.args.start.now c.args.end.now) c.args.bounds.now c.args.n c.args.corners.now c.in_err-check_replace.ensures)

pub exchange-requires : goal.exchange-requires
exchange-requires c =
    let m = body c.args.count c.args.start.now c.args.end.now in
    let h = replaceable c.args.edition m c.args.bounds.now c.args.n c.args.corners.now (exchange_taken c.args.edition m c.args.bounds.now c.args.n c.args.corners.now (sym c.in_ok-check_replace.ensures)) in
    record {
      is_body = h.is_body;
      there = h.there;
      given = h.given;
      block = has_block c.args.edition (replaced m c.args.n c.args.corners.now) (block_of c.args.n) (replaced_known m c.args.n c.args.corners.now h.is_body h.given h.there) (omega (arith, h.there)) h.right;
      room = h.room;
    }

pub returns : goal.returns
returns c = replaces c.in_ok-check_replace.ensures c.exchange.ensures
