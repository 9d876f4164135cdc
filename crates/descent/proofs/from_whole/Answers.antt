use mathlib.Core.Path.{ap, ◌∙◌}
use Prim.Native.Nat.{◌*◌}
use Rattle.rules.specs.Search.{Query}
use Rattle.rules.specs.Why.{whole_domain, descend}
use Rattle.descent.proofs.from_whole.Goals as goal

pub returns : goal.returns
returns c =
    c.go_down.ensures ∙ ap (λ (q : Query). descend (3 * q.deepest) q c.args.at whole_domain) c.prepare-p.ensures.asks
