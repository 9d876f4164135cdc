-- The cap asked on words: a half is beyond it where its word is not below the bound.
use mathlib.Core.Path.{◌≡◌, refl, sym, ap, ◌∙◌}
use mathlib.Core.Bool.{Bool, true, false, ◌&&◌}
use Prim.Native.Nat.{ℕ, ◌-◌, ◌*◌, ◌/◌, ◌^◌, ◌≤◌, ◌<◌}
use native.Mathlib.Nat.{le-div_iff_mul-le, div-lt_iff_lt-mul, div-le_self}
use native.Mathlib.Omega.{arith}
use lib.Dec.{leb, ltb}
use lib.Pow.{pow_pos}
use borrow.Author.Tests.{leb-true, leb-false, le-leb, lt-leb, lt-ltb, le-ltb}
use Rattle.rules.specs.Search.{Query, Box, Depths, stored, low, inside}
use Rattle.boxes.specs.Boxes.{Fits}
use Rattle.boxes.specs.Words.{below_index}
use Rattle.gap.specs.Asked.{in_face, inside_is}
use Rattle.queue.specs.Level.{bound_of, past}

leb_div : (i side last : ℕ) → 0 < side → leb i (last / side) ≡ leb (i * side) last
leb_div i side last h = go (leb i (last / side)) refl
  where
    go : (x : Bool) → leb i (last / side) ≡ x → x ≡ leb (i * side) last
    go true e = sym (le-leb (i * side) last ((le-div_iff_mul-le h).0 (leb-true i (last / side) e)))
    go false e = sym (lt-leb (i * side) last ((div-lt_iff_lt-mul h).0 (leb-false i (last / side) e)))

-- every bound is less than the word past the last
pub bound_past : (last : ℕ) (k : Depths) → last ≤ 1_048_576 → bound_of last k < past
bound_past last k h = omega (arith, div-le_self last (2 ^ (20 - k.t)))

module _ (q : Query) (k : Depths) (b : Box) (f : Fits b) where
  in_time : ltb (stored b) (bound_of q.last k) ≡ leb (low k.t b.t) q.last
  in_time = below_index b (q.last / 2 ^ (20 - k.t)) f ∙ leb_div b.t (2 ^ (20 - k.t)) q.last (pow_pos (20 - k.t))

  asked_by_word : (below : Bool) → ltb (stored b) (bound_of q.last k) ≡ below → inside q k b ≡ (below && in_face q k b)
  asked_by_word below e = inside_is q k b ∙ ap (λ (x : Bool). x && in_face q k b) (sym in_time ∙ e)

  pub inside_below : stored b < bound_of q.last k → inside q k b ≡ in_face q k b
  inside_below h = asked_by_word true (lt-ltb (stored b) (bound_of q.last k) h)

  pub outside_beyond : bound_of q.last k ≤ stored b → inside q k b ≡ false
  outside_beyond h = asked_by_word false (le-ltb (stored b) (bound_of q.last k) h)
