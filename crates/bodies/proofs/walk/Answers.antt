use Prim.Native.Nat.{ℕ}
use native.Mathlib.Omega.{arith}
use mathlib.Core.Path.{◌≡◌, sym, ap, ◌∙◌}
use lib.ListN.{replicate}
use Rattle.rules.specs.Bodies.{body_refusal}
use Rattle.bounds.specs.Reach.{body_of}
use Rattle.bodies.proofs.Settling.{answered}
use Rattle.bodies.proofs.walk.Goals as goal

-- `bodies::walk` meets its contract: the cleared queue is lent on. Assumes nothing.
pub clear_unless-requires : goal.clear_unless-requires
clear_unless-requires c = λ e. let z : ◌≡◌ {A = ℕ} 0 1 = cc in absurd (omega arith)

pub hear_bodies-requires : goal.hear_bodies-requires
hear_bodies-requires c =
    record {
      to_walk = record {
        none = ap (λ (n : ℕ). body_refusal c.args.w (body_of c.args.a) (body_of c.args.b) n) c.clear_unless.auto.queue ∙ c.requires.none;
        of_a_lem = c.requires.of_a_lem;
        of_b_lem = c.requires.of_b_lem;
      };
      zero = c.clear_unless.ensures ∙ ap (λ (n : ℕ). replicate n 0) (sym c.clear_unless.auto.queue);
    }

pub returns : goal.returns
returns c =
    answered _ _ _ c.args.queue.now _ _ _ c.requires.none c.clear_unless.ensures c.clear_unless.auto.queue c.hear_bodies.ensures
