use Rattle.descent.proofs.Going.{halves}
use Rattle.descent.proofs.half.Goals as goal

pub holding-index-requires : goal.holding-index-requires
holding-index-requires c =
    rw c.rare_split-split.ensures (halves c.args.p c.args.s c.requires)
