use Rattle.std.proofs.Common.{lt-ltb, le-ltb, arith}
use Rattle.rules.specs.declared.Refusal.TheVariants.{Count, Back, Space}
use Rattle.rules.specs.Refusals.{first}
use Rattle.rules.specs.QueryFile.{trailer_bytes, trailer_refusal}
use Rattle.queries.specs.Writing.{refused_write, done_write}
use Rattle.queries.proofs.writing.write_trailer_form.Goals as goal

pub returns-then-count-gt-MOST : goal.returns-then-count-gt-MOST
unfolding trailer_refusal first
returns-then-count-gt-MOST c =
    refused_write _ c.args.s.now c.args.at (trailer_bytes c.args.form c.args.count) Count (simp (lt-ltb _ _ c.if-count-gt-MOST.true))

pub returns-then-at-times : goal.returns-then-at-times
unfolding trailer_refusal first
returns-then-at-times c =
    refused_write _ c.args.s.now c.args.at (trailer_bytes c.args.form c.args.count) Back
    (simp (le-ltb _ _ c.if-count-gt-MOST.false, lt-ltb _ _ (rw c.times.ensures at c.if-at-times.true)))

pub returns-then-left_from-lt-TRAILER : goal.returns-then-left_from-lt-TRAILER
unfolding trailer_refusal first
returns-then-left_from-lt-TRAILER c =
    refused_write _ c.args.s.now c.args.at (trailer_bytes c.args.form c.args.count) Space
    (simp (
      le-ltb _ _ c.if-count-gt-MOST.false,
      le-ltb _ _ (rw c.times.ensures at c.if-at-times.false),
      lt-ltb _ _ (rw c.left_from.ensures at c.if-left_from-lt-TRAILER.true),
    ))

pub encode_trailer-requires : goal.encode_trailer-requires
encode_trailer-requires c = let room = rw c.left_from.ensures at c.if-left_from-lt-TRAILER.false in (omega (arith, room), omega arith)

pub returns : goal.returns
unfolding trailer_refusal first
returns c =
    done_write _ c.args.s.now c.args.at (trailer_bytes c.args.form c.args.count) c.encode_trailer.new.s
    (simp (
      le-ltb _ _ c.if-count-gt-MOST.false,
      le-ltb _ _ (rw c.times.ensures at c.if-at-times.false),
      le-ltb _ _ (rw c.left_from.ensures at c.if-left_from-lt-TRAILER.false),
    ))
    c.encode_trailer.ensures
