use Prim.Native.Nat.{ℕ, ◌+◌, ◌*◌, ◌-◌, ◌≤◌, ◌<◌}
use mathlib.Core.Path.{◌≡◌, refl, sym, ap, ◌∙◌}
use mathlib.Core.List.{List}
use native.Mathlib.Omega.{arith}
use native.Mathlib.Nat.{mul-le-mul_right}
use lib.IntN.{ℤ}
use lib.ListN.{length}
use Rattle.rules.specs.declared.Terms.{Terms}
use Rattle.rules.specs.declared.BodyAnswer.TheVariants.{Clear}
use Rattle.rules.specs.Bodies.{is_over, sum_of}
use Rattle.bounds.specs.declared.Body.{Body as LentBody}
use Rattle.bodies.specs.Walk.{ToWalk, positions_of, row_queries}
use Rattle.bodies.specs.Passed.{HasBounds, Alone, has_bounds, rows_distant}
use Rattle.bodies.specs.Counted.{None, Counts, row_counts}
use Rattle.bodies.proofs.Refusing.{known_bodies, all_to_hear}
use Rattle.bodies.proofs.Walking.{going_none, going_asks, going_more, going_all, going_over, each_start, each_next, each_end, queries_same}
use Rattle.bodies.proofs.Passing.{passed_over, still_goes}
use Rattle.bodies.proofs.hear_bodies.Goals as goal

rows_most : (n k : ℕ) → n ≤ 256 → 15 * n * k ≤ 3840 * k
rows_most n k l = let h : 15 * n ≤ 3840 = omega arith in mul-le-mul_right k h

module _ {w : Terms} {a b : LentBody} {of_a of_b : List ℤ} {words : ℕ} (h : ToWalk w a of_a b of_b words) where
  few : (a.count ≤ 256) × (b.count ≤ 256)
  few = let k = known_bodies _ _ _ _ h.none in (k.0.few, k.1.few)

  lists : HasBounds of_a a.count × HasBounds of_b b.count
  lists =
      let k = known_bodies _ _ _ _ h.none in
      (has_bounds a.count a.start.now a.end.now of_a k.0.some k.0.few h.of_a_lem, has_bounds b.count b.start.now b.end.now of_b k.1.some k.1.few h.of_b_lem)

  -- triangles of A that are apart from all of B count fifteen for each of B
  bodies_of : (x : ℕ) → x < a.count → Alone w of_a of_b b.count x
      → None words (row_queries w (positions_of a) (positions_of b) x b.count) → Counts words (15 * b.count) (row_queries w (positions_of a) (positions_of b) x b.count)
  bodies_of x l alone none = row_counts w a.start.now a.end.now b.start.now b.end.now x b.count words (λ j lj. rows_distant h.of_a_lem h.of_b_lem l lj alone) none

pub overflow_mul-a_row : goal.overflow_mul-a_row
overflow_mul-a_row c = let k = few c.requires.to_walk in omega (arith, k.1)

pub next_row-i-requires : goal.next_row-i-requires
next_row-i-requires c = (omega arith, lists c.requires.to_walk)

pub overflow_mul-a_row-2 : goal.overflow_mul-a_row-2
overflow_mul-a_row-2 c = let k = few c.requires.to_walk in omega (arith, k.0, c.next_row-i.ensures.most, rows_most c.args.b.count c.next_row-i.result k.1)

pub counted-sofar-requires : goal.counted-sofar-requires
unfolding sum_of
counted-sofar-requires c = let k = few c.requires.to_walk in omega (arith, k.0, c.next_row-i.ensures.most, rows_most c.args.b.count c.next_row-i.result k.1)

pub loop-i-init : goal.loop-i-init
unfolding is_over
loop-i-init c =
    let k = few c.requires.to_walk in
    let t = all_to_hear _ _ _ _ c.requires.to_walk.none c.requires.zero in
    let z : c.next_row-i.result ≡ c.next_row-i.result - 0 = omega arith in
    record {
      most = c.next_row-i.ensures.most;
      going = passed_over c.args.a.count (15 * c.args.b.count) _ _ _ _ _ (bodies_of c.requires.to_walk) t.goes c.next_row-i.ensures (ap (λ (x : ℕ). 15 * c.args.b.count * x) z) c.counted-sofar.ensures _ (omega (arith, rows_most c.args.b.count c.next_row-i.result k.1))
          (going_none 983040 _ _ _ _ (each_start _ _ ∙ sym (queries_same c.args.w c.args.a.count c.args.a.start.now c.args.a.end.now c.args.b.count c.args.b.start.now c.args.b.end.now)) t);
      goes = still_goes (15 * c.args.b.count * c.next_row-i.result) (Clear 0) c.counted-sofar.result refl c.counted-sofar.ensures;
    }

pub hear_row-row-requires : goal.hear_row-row-requires
hear_row-row-requires c =
    let k = known_bodies _ _ _ _ c.requires.to_walk.none in
    let t = all_to_hear _ _ _ _ c.requires.to_walk.none c.requires.zero in
    record {
      start_of_a = omega (arith, k.0.start);
      end_of_a = omega (arith, k.0.end);
      start_of_b = omega (arith, k.1.start);
      end_of_b = omega (arith, k.1.end);
      lent = c.requires.to_walk.of_b_lem;
      first = omega (arith, k.0.few);
      count = k.1.few;
      to_hear = going_asks _ 3840 _ _ _ _ _ _ _ _ c.loop-i.invariant.going (each_next _ _ c.loop-i.i (omega arith)) c.loop-i.invariant.goes 983040 (omega (arith, k.0.few)) c.requires.zero t.room;
    }

pub shape_of-queue-then-is_over : goal.shape_of-queue-then-is_over
shape_of-queue-then-is_over c = ap length (c.hear_row-row.ensures.kept ∙ c.loop-i.invariant.going.kept)

pub returns-then-is_over : goal.returns-then-is_over
returns-then-is_over c =
    let k = few c.requires.to_walk in
    going_over _ 983040 _ _ _ _ _ _ (going_more (3840 * c.loop-i.i) 3840 _ _ _ _ _ _ _ _ c.loop-i.invariant.going (each_next _ _ c.loop-i.i (omega arith)) (3840 * c.loop-i.i + 3840) (omega arith) _ _ c.hear_row-row.ensures)
    (sym c.is_over.ensures ∙ c.if-is_over.true) (omega (arith, k.0))

pub next_row-near-requires : goal.next_row-near-requires
next_row-near-requires c = (omega arith, lists c.requires.to_walk)

pub overflow_mul-a_row-in-loop-i : goal.overflow_mul-a_row-in-loop-i
overflow_mul-a_row-in-loop-i c =
    let k = few c.requires.to_walk in
    omega (arith, k.0, c.next_row-near.ensures.most, c.next_row-near.ensures.later, rows_most c.args.b.count (c.next_row-near.result - (c.loop-i.i + 1)) k.1)

pub counted-sofar-requires-in-loop-i : goal.counted-sofar-requires-in-loop-i
counted-sofar-requires-in-loop-i c =
    let k = few c.requires.to_walk in
    let t = all_to_hear _ _ _ _ c.requires.to_walk.none c.requires.zero in
    omega (arith, k.0, c.next_row-near.ensures.most, c.next_row-near.ensures.later, t.room, c.loop-i.invariant.going.grows, c.hear_row-row.ensures.grows, rows_most c.args.b.count (c.next_row-near.result - (c.loop-i.i + 1)) k.1)

pub loop-i-preserved : goal.loop-i-preserved
loop-i-preserved c =
    let k = few c.requires.to_walk in
    let o = sym c.is_over.ensures ∙ c.if-is_over.false in
    record {
      most = c.next_row-near.ensures.most;
      going = passed_over c.args.a.count (15 * c.args.b.count) _ _ _ _ _ (bodies_of c.requires.to_walk) o c.next_row-near.ensures refl c.counted-sofar-in-loop-i.ensures _
          (omega (arith, rows_most c.args.b.count (c.next_row-near.result - (c.loop-i.i + 1)) k.1, c.next_row-near.ensures.later))
          (going_more (3840 * c.loop-i.i) 3840 _ _ _ _ _ _ _ _ c.loop-i.invariant.going (each_next _ _ c.loop-i.i (omega arith)) (3840 * c.loop-i.i + 3840) (omega arith) _ _ c.hear_row-row.ensures);
      goes = still_goes (15 * c.args.b.count * (c.next_row-near.result - (c.loop-i.i + 1))) c.hear_row-row.result c.counted-sofar-in-loop-i.result o c.counted-sofar-in-loop-i.ensures;
    }

pub shape_of-queue : goal.shape_of-queue
shape_of-queue c = ap length c.loop-i.invariant.going.kept

pub returns : goal.returns
returns c =
    let k = few c.requires.to_walk in
    going_all _ 983040 _ _ _ _ _ _ c.loop-i.invariant.going (each_end _ _ c.loop-i.i (omega arith)) (omega (arith, k.0))
