-- The half that is taken is the first of the merge, where it is inside.
use mathlib.Core.Path.{◌≡◌, sym, subst, ◌∙◌}
use mathlib.Core.Bool.{Bool, true, false, cond}
use mathlib.Core.Logic.{⊎_elim}
use mathlib.Core.List.{List, [], ◌∷◌}
use Prim.Native.Nat.{ℕ, ◌+◌, ◌^◌, ◌≤◌, ◌<◌, min}
use native.Mathlib.Omega.{arith}
use Rattle.std.proofs.Math.Nat.{eq-or-lt_of_le}
use lib.ListN.{length, get_or, take, drop, length-drop, drop_of_length-le}
use lib.Seq.{get_or-take, get_or-drop}
use borrow.Author.Tests.{le-leb, lt-leb}
use Rattle.rules.specs.declared.Parameter.{Parameter}
use Rattle.rules.specs.Search.{Query, Box, Depths, stored, inside, not_after}
use Rattle.kernel.specs.Ranges.{Shallow}
use Rattle.boxes.specs.Boxes.{Fits, box_of, half_of, half_by}
use Rattle.boxes.specs.Words.{same_order, half_order, unpack_pack, pack_unpack, fits_word, half_by_lem}
use Rattle.queue.specs.declared.Halving.{Halving}
use Rattle.queue.specs.declared.Half.{Half}
use Rattle.queue.specs.declared.Taken.{Taken}
use Rattle.queue.specs.All.{All, all_at, all_front, all_imp}
use Rattle.queue.specs.Ascending.{Ascending, ascending_from}
use Rattle.queue.specs.Grid.{fits_grid, stored_of_level}
use Rattle.queue.specs.Level.{OfLevel, Splits, Halvable, HalfIs, Took, TakenIs, halves_from, half_at, bound_of}
use Rattle.queue.proofs.Capping.{outside_beyond}
use Rattle.queue.proofs.Merging.{step_low, step_high, none_left}

-- ---- a half at its place

module _ {c : Halving} (high : Bool) {queue : List ℕ} {n i : ℕ} (x : Halvable c queue n) (i_le : i ≤ n) where
  abbrev half : ℕ → Box
  half = half_at c.split high (take n queue)

  pub word_fits : i < n → get_or queue i 0 < 2 ^ 60
  word_fits l = all_front (λ w. w < 2 ^ 60) queue n i x.fits x.words l

  pub half_there : i < n → (word : ℕ) → word ≡ half_by c.bits c.one high (get_or queue i 0) → HalfIs half n (record { at = i; word = word })
  half_there l word is =
      let as_stored : word ≡ stored (half_of c.split high (box_of (get_or queue i 0))) = is ∙ rw (x.bits, x.one) (half_by_lem c.split high (get_or queue i 0) (word_fits l)) in
      record { at_le = i_le; word = λ h. rw (get_or-take n queue i 0 h) as_stored; none = λ z. absurd (omega arith) }

-- ---- a step of the merge

module _ (q : Query) (k : Depths) (p : Parameter) (ws : List ℕ) (n : ℕ) (long : length ws ≡ n) (shallow : Shallow 20 k) (splits : All (Splits k p) ws) (ascends : Ascending ws) where
  abbrev from : ℕ → ℕ → List Box
  from i j = halves_from q k p ws i j

  fits : (high : Bool) (w : ℕ) → Splits k p w → Fits (half_of p high (box_of w))
  fits high w x = fits_grid k (half_of p high (box_of w)) shallow (x.halves high)

  -- the word of a box's half is not less
  abbrev NotLess : Bool → ℕ → ℕ → Type 0
  NotLess high word w = (word ≤ stored (half_of p high (box_of w))) × Splits k p w

  in_order : (high : Bool) (w v : ℕ) → Splits k p w → Splits k p v → w ≤ v → NotLess high (stored (half_of p high (box_of w))) v
  in_order high w v x y o = (half_order p high (box_of w) (box_of v) (fits_word w) (fits_word v) (fits high w x) (fits high v y) (rw (pack_unpack w x.fits, pack_unpack v y.fits) o), y)

  ended : (i : ℕ) → i ≡ n → drop i ws ≡ []
  ended i e = drop_of_length-le ws {i = i} (omega arith)

  module _ (high : Bool) (one : Half) (x : HalfIs (half_at p high ws) n one) where
    -- from its place on none has a lesser word
    later : All (NotLess high one.word) (drop one.at ws)
    later =
        ⊎_elim
        (λ z. rw (ended one.at z) tt)
        (λ l. subst (λ (w : ℕ). All (NotLess high w) (drop one.at ws)) (sym (x.word l))
        (ascending_from (Splits k p) (λ w. NotLess high (stored (half_of p high (box_of w)))) (in_order high) ws one.at ascends splits (omega arith)))
        (eq-or-lt_of_le x.at_le)

    pub all_outside : bound_of q.last k ≤ one.word → All (λ v. inside q k (half_of p high (box_of v)) ≡ false) (drop one.at ws)
    all_outside h =
        all_imp (NotLess high one.word) (λ v. inside q k (half_of p high (box_of v)) ≡ false)
        (λ v y. outside_beyond q k (half_of p high (box_of v)) (fits high v y.1) (omega (arith, y.0))) (drop one.at ws) later

    module _ (here : one.at < n) where
      abbrev box : Box
      box = half_at p high ws one.at

      splits_here : Splits k p (get_or ws one.at 0)
      splits_here = all_at (Splits k p) ws one.at splits (omega arith)

      box_fits : Fits box
      box_fits = fits high (get_or ws one.at 0) splits_here

      box_is : box_of one.word ≡ box
      box_is = rw (x.word here) (unpack_pack box box_fits)

      of_level : OfLevel k one.word
      of_level = stored_of_level k box one.word shallow (splits_here.halves high) (x.word here) box_is

      next_not_less : (next : Half) → next.at ≡ one.at + 1 → HalfIs (half_at p high ws) n next → one.word ≤ next.word
      next_not_less next e y =
          ⊎_elim
          (λ z. omega (arith, y.none z, of_level.fits))
          (λ (l : next.at < n). let later-one = all_at (NotLess high one.word) (drop one.at ws) 1 later (rw (length-drop one.at ws) (omega (arith, l))) in
          rw (y.word l, e) (rw (get_or-drop one.at ws 1 0) at later-one.0))
          (eq-or-lt_of_le y.at_le)

  -- what a half that is taken is to the merge and to the two that are next
  pub record Steps (low high : Half) (word : ℕ) (r : Taken) : Type 0 where
    pub halves : from low.at high.at ≡ cond (inside q k (box_of word)) (box_of word ∷ from r.low.at r.high.at) (from r.low.at r.high.at)
    pub of_level : OfLevel k word
    pub one_more : r.low.at + r.high.at ≡ low.at + high.at + 1
    pub low_is : HalfIs (half_at p false ws) n r.low
    pub high_is : HalfIs (half_at p true ws) n r.high
    pub goes_up_lem : (word ≤ r.low.word) × (word ≤ r.high.word)

  module _ (low high : Half) (l : HalfIs (half_at p false ws) n low) (g : HalfIs (half_at p true ws) n high) where
    pub all_taken : bound_of q.last k ≤ low.word → bound_of q.last k ≤ high.word → from low.at high.at ≡ []
    all_taken d e = none_left q k p ws low.at high.at (all_outside false low l d) (all_outside true high g e)

    steps_low : (word : ℕ) (r : Taken) → word ≡ min low.word high.word → low.word ≤ high.word → Took (half_at p false ws) n low high r.low r.high → Steps low high word r
    steps_low word r e o t =
        let is : word ≡ low.word = omega arith in
        let b = box false low l t.here in
        record {
          halves = rw (is, box_is false low l t.here, t.one_more, t.waits) (step_low q k p ws low.at high.at (omega (arith, t.here))
              (all_imp (NotLess true high.word) (λ v. not_after b (half_of p true (box_of v)) ≡ true)
              (λ v y. same_order b (half_of p true (box_of v)) (box_fits false low l t.here) (fits true v y.1) ∙ le-leb (stored b) (stored (half_of p true (box_of v))) (omega (arith, y.0, l.word t.here))) (drop high.at ws) (later true high g)));
          of_level = rw is (of_level false low l t.here);
          one_more = rw (t.waits, t.one_more) (omega arith);
          low_is = t.next_is;
          high_is = rw t.waits g;
          goes_up_lem = (rw is (next_not_less false low l t.here r.low t.one_more t.next_is), rw (is, t.waits) o);
        }

    steps_high : (word : ℕ) (r : Taken) → word ≡ min low.word high.word → high.word < low.word → Took (half_at p true ws) n high low r.high r.low → Steps low high word r
    steps_high word r e o t =
        let is : word ≡ high.word = omega arith in
        let b = box true high g t.here in
        record {
          halves = rw (is, box_is true high g t.here, t.one_more, t.waits) (step_high q k p ws low.at high.at (omega (arith, t.here))
              (all_imp (NotLess false low.word) (λ v. not_after (half_of p false (box_of v)) b ≡ false)
              (λ v y. same_order (half_of p false (box_of v)) b (fits false v y.1) (box_fits true high g t.here) ∙ lt-leb (stored (half_of p false (box_of v))) (stored b) (omega (arith, y.0, g.word t.here))) (drop low.at ws) (later false low l)));
          of_level = rw is (of_level true high g t.here);
          one_more = rw (t.waits, t.one_more) (omega arith);
          low_is = rw t.waits l;
          high_is = t.next_is;
          goes_up_lem = (rw (is, t.waits) (omega arith), rw is (next_not_less true high g t.here r.high t.one_more t.next_is));
        }

    pub steps : (word : ℕ) (r : Taken) → word ≡ min low.word high.word → TakenIs p ws n low high r → Steps low high word r
    steps word r e = ⊎_elim (λ t. steps_low word r e t.0 t.1) (λ t. steps_high word r e t.0 t.1)
