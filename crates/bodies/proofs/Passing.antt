-- Parts that are apart, passed over one after the other: each counts the same. Assumes nothing.
use Prim.Native.Nat.{ℕ, ◌+◌, ◌-◌, ◌*◌, ◌≤◌, ◌<◌}
use mathlib.Core.Path.{◌≡◌, refl, sym, ap, ◌∙◌}
use mathlib.Core.Bool.{false}
use mathlib.Core.List.{List}
use native.Mathlib.Omega.{arith}
use lib.ListN.{length}
use Rattle.rules.specs.declared.BodyAnswer.{BodyAnswer}
use Rattle.rules.specs.Bodies.{Asked, each_from, sum_of, counted, is_over, hear_all}
use Rattle.bodies.specs.Passed.{Passed}
use Rattle.bodies.specs.Counted.{None, Counts, each_counts, counted_sum, counted_over}
use Rattle.bodies.proofs.Walking.{Going, going_first, going_more, each_left, each_stretch}

module _ {P : ℕ → Type 0} (n size : ℕ) (f : ℕ → List Asked) (all : List Asked) (before queue : List ℕ) (first : BodyAnswer) (counts : (x : ℕ) → x < n → P x → None (length before) (f x) → Counts (length before) size (f x)) where
  -- up to the next that is near
  pub passed_over : {k from near m : ℕ} {sofar r : BodyAnswer} → is_over sofar ≡ false → Passed P from n near → m ≡ size * (near - from) → r ≡ counted m sofar → (next : ℕ) → k + m ≤ next
      → Going k all (each_left n f from) before queue first sofar → Going next all (each_left n f near) before queue first r
  passed_over {k} {from} {near} {m} {sofar} {r} o p e c next t g =
      let s = each_stretch n f from near p.later p.most in
      let none = going_first k m all _ (each_from from (near - from) f) _ before queue first sofar g s in
      let heard = each_counts (length before) size f from (near - from) (λ x a b h. counts x (omega (arith, p.most, p.later)) (p.each x a (omega (arith, p.later))) h) none sofar o g.step in
      let same : r ≡ hear_all (length before) sofar (each_from from (near - from) f) = c ∙ ap (λ (x : ℕ). counted x sofar) e ∙ heard in
      going_more k m all _ (each_from from (near - from) f) _ before queue first sofar g s next t queue r
      (record { says = same ∙ ap (λ (q : List ℕ). hear_all (length q) sofar (each_from from (near - from) f)) (sym g.kept); kept = refl; grows = grows m sofar r c })
    where
      grows : (m : ℕ) (sofar r : BodyAnswer) → r ≡ counted m sofar → sum_of r ≤ sum_of sofar + m * 4294967296
      grows m sofar r c = omega (arith, ap sum_of c, counted_sum m sofar)

-- and the walk still goes on
pub still_goes : (n : ℕ) (sofar r : BodyAnswer) → is_over sofar ≡ false → r ≡ counted n sofar → is_over r ≡ false
still_goes n sofar r o e = ap is_over e ∙ counted_over n sofar ∙ o
