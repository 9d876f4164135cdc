use Prim.Native.Nat.{ℕ, ◌+◌, ◌*◌, ◌-◌, ◌<◌}
use mathlib.Core.Path.{◌≡◌, refl, sym, ap, ◌∙◌}
use native.Mathlib.Omega.{arith}
use lib.ListN.{length}
use Rattle.rules.specs.declared.Terms.{Terms}
use Rattle.rules.specs.Bodies.{pair_queries}
use Rattle.bounds.specs.declared.Body.{Body as LentBody}
use Rattle.bounds.specs.declared.reach.Reach.{Reach}
use Rattle.bounds.specs.Reach.{ReachIs}
use Rattle.bodies.specs.Walk.{positions_of}
use Rattle.bodies.specs.Apart.{DistantFrom, by_reach}
use Rattle.bodies.specs.Counted.{None, Counts, pair_counts}
use Rattle.bodies.proofs.Walking.{going_none, going_asks, going_more, going_all, going_over, each_start, each_next, each_end}
use Rattle.bodies.proofs.Passing.{passed_over, still_goes}
use Rattle.bodies.proofs.hear_row.Goals as goal

-- those that are apart from triangle i count fifteen each
row_of : (w : Terms) (a b : LentBody) (i words : ℕ) {reach : Reach} → ReachIs a.start.now a.end.now i reach → (x : ℕ) → x < b.count → DistantFrom w reach b.start.now b.end.now x
    → None words (pair_queries w (positions_of a) (positions_of b) i x) → Counts words 15 (pair_queries w (positions_of a) (positions_of b) i x)
row_of w a b i words is x l d none = pair_counts w a.start.now a.end.now b.start.now b.end.now i x words (by_reach is d) none

pub next_near-j-requires : goal.next_near-j-requires
next_near-j-requires c =
    (c.reach_of-reach.ensures.wide, record { before = omega arith; start = c.requires.start_of_b; end = c.requires.end_of_b; few = c.requires.count; lent = c.requires.lent })

pub loop-j-init : goal.loop-j-init
loop-j-init c =
    let e : 15 * c.next_near-j.result ≡ 15 * (c.next_near-j.result - 0) = omega arith in
    record {
      most = c.next_near-j.ensures.most;
      going = passed_over c.args.b.count 15 _ _ _ _ _ (row_of c.args.w c.args.a c.args.b c.args.i _ c.reach_of-reach.ensures) c.requires.to_hear.goes c.next_near-j.ensures e c.counted-sofar.ensures _ (omega arith)
          (going_none 3840 _ _ _ _ (each_start _ _) c.requires.to_hear);
      goes = still_goes (15 * c.next_near-j.result) c.args.first c.counted-sofar.result c.requires.to_hear.goes c.counted-sofar.ensures;
    }

pub hear_pair-more-requires : goal.hear_pair-more-requires
hear_pair-more-requires c =
    record {
      start = record { of_a_lem = c.requires.start_of_a; of_b_lem = omega (arith, c.requires.start_of_b) };
      end = record { of_a_lem = c.requires.end_of_a; of_b_lem = omega (arith, c.requires.end_of_b) };
      first = c.requires.first;
      second = omega (arith, c.requires.count);
      to_hear = going_asks _ 15 _ _ _ _ _ _ _ _ c.loop-j.invariant.going (each_next _ _ c.loop-j.j (omega arith)) c.loop-j.invariant.goes 3840 (omega (arith, c.requires.count)) c.requires.to_hear.zero c.requires.to_hear.room;
    }

pub shape_of-queue-then-is_over : goal.shape_of-queue-then-is_over
shape_of-queue-then-is_over c = ap length (c.hear_pair-more.ensures.kept ∙ c.loop-j.invariant.going.kept)

-- a time of 0 ends it
pub returns-then-is_over : goal.returns-then-is_over
returns-then-is_over c =
    going_over _ 3840 _ _ _ _ _ _ (going_more (15 * c.loop-j.j) 15 _ _ _ _ _ _ _ _ c.loop-j.invariant.going (each_next _ _ c.loop-j.j (omega arith)) (15 * c.loop-j.j + 15) (omega arith) _ _ c.hear_pair-more.ensures)
    (sym c.is_over.ensures ∙ c.if-is_over.true) (omega (arith, c.requires.count))

pub next_near-near-requires : goal.next_near-near-requires
next_near-near-requires c =
    (c.reach_of-reach.ensures.wide, record { before = omega arith; start = c.requires.start_of_b; end = c.requires.end_of_b; few = c.requires.count; lent = c.requires.lent })

pub counted-sofar-requires-in-loop-j : goal.counted-sofar-requires-in-loop-j
counted-sofar-requires-in-loop-j c =
    omega (arith, c.next_near-near.ensures.most, c.next_near-near.ensures.later, c.requires.count, c.requires.to_hear.room, c.loop-j.invariant.going.grows, c.hear_pair-more.ensures.grows)

pub loop-j-preserved : goal.loop-j-preserved
loop-j-preserved c =
    let o = sym c.is_over.ensures ∙ c.if-is_over.false in
    record {
      most = c.next_near-near.ensures.most;
      going = passed_over c.args.b.count 15 _ _ _ _ _ (row_of c.args.w c.args.a c.args.b c.args.i _ c.reach_of-reach.ensures) o c.next_near-near.ensures refl c.counted-sofar-in-loop-j.ensures _ (omega (arith, c.next_near-near.ensures.later))
          (going_more (15 * c.loop-j.j) 15 _ _ _ _ _ _ _ _ c.loop-j.invariant.going (each_next _ _ c.loop-j.j (omega arith)) (15 * c.loop-j.j + 15) (omega arith) _ _ c.hear_pair-more.ensures);
      goes = still_goes (15 * (c.next_near-near.result - (c.loop-j.j + 1))) c.hear_pair-more.result c.counted-sofar-in-loop-j.result o c.counted-sofar-in-loop-j.ensures;
    }

pub shape_of-queue : goal.shape_of-queue
shape_of-queue c = ap length c.loop-j.invariant.going.kept

pub returns : goal.returns
returns c = going_all _ 3840 _ _ _ _ _ _ c.loop-j.invariant.going (each_end _ _ c.loop-j.j (omega arith)) (omega (arith, c.requires.count))
