use native.Mathlib.Omega.{arith}
use mathlib.Core.Path.{◌∙◌}
use lib.ListN.{length}
use Rattle.std.proofs.lemmas.Slice.{put_mid-paste}
use Rattle.text.proofs.Writing.{put_paste}
use Rattle.text.proofs.pieces.write_text.Goals as goal

pub returns : goal.returns
returns c =
    record {
      bytes = put_mid-paste c.args.at _ c.args.out.now _ c.args.text.now (length c.args.text.now) c.copy_from_slice.ensures.after (omega arith) (omega arith) ∙ put_paste c.args.out.now c.args.at c.args.text.now;
      behind = omega arith;
      few = omega arith;
    }
