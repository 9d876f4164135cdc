use mathlib.Core.Path.{◌≡◌, subst}
use native.Mathlib.Omega.{arith}
use Rattle.bodies.specs.Apart.{DistantFrom}
use Rattle.bodies.specs.Passed.{Passed, passed_one}
use Rattle.bodies.proofs.apart.next_in.Goals as goal

pub loop-j-preserved : goal.loop-j-preserved
loop-j-preserved c = passed_one c.loop-j.invariant (omega arith) (c.are_distant.ensures c.if-not-are_distant.false)

pub returns : goal.returns
returns c =
    let last : c.loop-j.j ≡ c.args.n = omega arith in
    subst (Passed (DistantFrom c.args.w c.args.r c.args.s.now c.args.e.now) c.args.from c.args.n) last c.loop-j.invariant
