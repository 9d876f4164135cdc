use Rattle.answers.proofs.asking.meets_in.Goals as goal

pub meets_axis-requires : goal.meets_axis-requires
meets_axis-requires c =
    (rw c.four_in.ensures c.requires.start, (rw c.four_in-2.ensures c.requires.end, c.requires.most))

pub returns : goal.returns
returns c = rw (c.four_in.ensures, c.four_in-2.ensures) at c.meets_axis.ensures
