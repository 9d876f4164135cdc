use Prim.Native.Nat.{ℕ, ◌+◌, ◌<◌}
use mathlib.Core.List.{List}
use mathlib.Core.Path.{refl, sym, ap, ◌∙◌}
use native.Mathlib.Omega.{arith}
use lib.ListN.{length}
use Rattle.rules.specs.declared.Terms.{Terms}
use Rattle.rules.specs.declared.BodyAnswer.{BodyAnswer}
use Rattle.rules.specs.Bodies.{Body, pair_queries}
use Rattle.bodies.specs.Walk.{Heard, positions_of, query_alone}
use Rattle.bodies.proofs.Walking.{Going, going_none, going_asks, going_more, going_all, going_over, pair_left, pair_next, pair_end}
use Rattle.bodies.proofs.hear_pair.Goals as goal

-- one query more
more : (w : Terms) (a b : Body) (i j k : ℕ) {before queue queue' : List ℕ} {first sofar r : BodyAnswer} → k < 15 → Going k (pair_queries w a b i j) (pair_left w a b i j k) before queue first sofar
    → Heard 1 (query_alone w a b i j k) queue queue' sofar r → Going (k + 1) (pair_queries w a b i j) (pair_left w a b i j (k + 1)) before queue' first r
more w a b i j k l g h = going_more _ 1 _ _ _ _ _ _ _ _ g (pair_next w a b i j k l) _ (omega arith) _ _ h

pub loop-k-init : goal.loop-k-init
loop-k-init c = record { going = going_none 15 _ _ _ _ refl c.requires.to_hear; goes = c.requires.to_hear.goes }

pub hear_query-sofar-requires : goal.hear_query-sofar-requires
hear_query-sofar-requires c =
    record {
      start = c.requires.start;
      end = c.requires.end;
      first = c.requires.first;
      second = c.requires.second;
      query = omega arith;
      to_hear = going_asks _ 1 _ _ _ _ _ _ _ _ c.loop-k.invariant.going (pair_next _ _ _ _ _ c.loop-k.k (omega arith)) c.loop-k.invariant.goes 15 (omega arith) c.requires.to_hear.zero c.requires.to_hear.room;
    }

pub shape_of-queue-then-is_over : goal.shape_of-queue-then-is_over
shape_of-queue-then-is_over c = ap length (c.hear_query-sofar.ensures.kept ∙ c.loop-k.invariant.going.kept)

-- a time of 0 ends it
pub returns-then-is_over : goal.returns-then-is_over
returns-then-is_over c =
    going_over _ 15 _ _ _ _ _ _ (more c.args.w (positions_of c.args.a) (positions_of c.args.b) c.args.i c.args.j c.loop-k.k (omega arith) c.loop-k.invariant.going c.hear_query-sofar.ensures) (sym c.is_over.ensures ∙ c.if-is_over.true) (omega arith)

pub loop-k-preserved : goal.loop-k-preserved
loop-k-preserved c =
    record {
      going = more c.args.w (positions_of c.args.a) (positions_of c.args.b) c.args.i c.args.j c.loop-k.k (omega arith) c.loop-k.invariant.going c.hear_query-sofar.ensures;
      goes = sym c.is_over.ensures ∙ c.if-is_over.false;
    }

pub shape_of-queue : goal.shape_of-queue
shape_of-queue c = ap length c.loop-k.invariant.going.kept

pub returns : goal.returns
returns c = going_all _ 15 _ _ _ _ _ _ c.loop-k.invariant.going (pair_end _ _ _ _ _ c.loop-k.k (omega arith)) (omega arith)
