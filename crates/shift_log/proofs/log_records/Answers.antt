use native.Mathlib.Omega.{arith}
use lib.ListN.{length}
use Rattle.rules.specs.QueryFile.{record_size}
use Rattle.queries.specs.Sizes.{record_within}
use Rattle.answers.specs.Walking.{walked_none, walked_more, walked_all}
use Rattle.shift_log.specs.Calls.{bytes_of}
use Rattle.shift_log.proofs.Logging.{long}
use Rattle.shift_log.proofs.log_records.Goals as goal

pub loop-i-init : goal.loop-i-init
loop-i-init c = walked_none bytes_of _ _ _ _ _ _

pub place_of-at-requires : goal.place_of-at-requires
place_of-at-requires c =
    omega (arith, record_within (record_size c.args.records.edition) c.args.records.first c.args.records.count c.loop-i.i (length c.args.file.now) (omega arith) c.requires.0)

pub overflow_mul-i : goal.overflow_mul-i
overflow_mul-i c = omega arith

pub log_at-clean-requires : goal.log_at-clean-requires
log_at-clean-requires c =
    record {
      there = omega (arith, c.place_of-at.ensures, record_within (record_size c.args.records.edition) c.args.records.first c.args.records.count c.loop-i.i (length c.args.file.now) (omega arith) c.requires.0);
      room = omega (arith, c.loop-i.invariant.numbers);
      zero = c.loop-i.invariant.zero;
    }

pub loop-i-preserved : goal.loop-i-preserved
loop-i-preserved c =
    walked_more bytes_of 32 long c.loop-i.invariant (omega arith) c.requires.1 c.place_of-at.ensures c.log_at-clean.ensures

pub shape_of-queue : goal.shape_of-queue
shape_of-queue c = c.loop-i.invariant.words

pub shape_of-out : goal.shape_of-out
shape_of-out c = c.loop-i.invariant.numbers

pub returns : goal.returns
returns c = let walked = walked_all bytes_of c.loop-i.invariant (omega arith) in record { out_after = walked.0; queue_after = walked.1 }
