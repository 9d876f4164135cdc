-- One answer heard: the least time's holder, and the sum. Assumes nothing.
use Prim.Native.Nat.{ℕ, ◌+◌, ◌≤◌}
use mathlib.Core.Path.{◌≡◌, refl, sym, ap, ◌∙◌}
use mathlib.Core.Bool.{Bool, true, false, cond, ◌&&◌}
use native.Mathlib.Omega.{arith}
use Rattle.rules.specs.declared.Told.{Told}
use Rattle.rules.specs.declared.BodyAnswer.{BodyAnswer}
use Rattle.rules.specs.declared.BodyAnswer.TheVariants.{Clear, Least, Refused}
use Rattle.rules.specs.Answers.{has_moment}
use Rattle.rules.specs.Bodies.{counted, is_less, sum_of, heard}
use Rattle.bodies.specs.Walk.{HeardIs}

sum_counted : (n : ℕ) (x : BodyAnswer) → sum_of (counted n x) ≤ sum_of x + n
unfolding sum_of counted
sum_counted n (Clear sum) = omega arith
sum_counted n (Least t a b query word excess sum) = omega arith
sum_counted n (Refused number) = omega arith

module _ (sofar : BodyAnswer) (a b query : ℕ) (n : Told) (r : BodyAnswer) (few : n.count ≤ 4294967295) where
  abbrev pub least : ℕ → BodyAnswer
  least s = Least n.t a b query n.word n.excess s

  pub sum_least : (s : ℕ) → sum_of (least s) ≡ s
  unfolding sum_of
  sum_least s = refl

  -- its time is the least so far
  pub takes_over : (s : ℕ) → s ≡ sum_of sofar → (has_moment n && is_less n.t sofar) ≡ true → r ≡ counted n.count (least s) → HeardIs sofar a b query n r
  unfolding heard
  takes_over s e t h =
      record {
        says = λ ask. h ∙ ap (λ (x : ℕ). counted n.count (least x)) e ∙ sym (ap (λ (x : Bool). counted n.count (cond x (least (sum_of sofar)) sofar)) t);
        grows = omega (arith, ap sum_of h, sum_counted n.count (least s), sum_least s, e, few);
      }

  -- what was heard before stands
  pub stays : (has_moment n && is_less n.t sofar) ≡ false → r ≡ counted n.count sofar → HeardIs sofar a b query n r
  unfolding heard
  stays t h =
      record {
        says = λ ask. h ∙ sym (ap (λ (x : Bool). counted n.count (cond x (least (sum_of sofar)) sofar)) t);
        grows = omega (arith, ap sum_of h, sum_counted n.count sofar, few);
      }
