-- The loop that writes the next level behind the present one.
use mathlib.Core.Path.{◌≡◌, sym, ap, ◌∙◌}
use mathlib.Core.Bool.{Bool, true, false, cond}
use mathlib.Core.List.{List, [], ◌∷◌, ◌++◌, map, append-nil}
use Prim.Native.Nat.{ℕ, ◌+◌, ◌^◌, ◌≤◌, ◌<◌, min}
use native.Mathlib.Nat.{add_assoc}
use native.Mathlib.Numerals.{add-one}
use native.Mathlib.Omega.{arith}
use lib.ListN.{length, set, take, drop, length-set, length-drop, length-append, length-map}
use lib.Seq.{take-take, take-set-le, drop-set-add, drop-set-lt, length-take-le, take_at, take-suc-set}
use Rattle.rules.specs.declared.Parameter.{Parameter}
use Rattle.rules.specs.Search.{Query, Box, Depths, inside, halves}
use Rattle.kernel.specs.declared.Pair.{Pair}
use Rattle.kernel.specs.Kernel.{asked}
use Rattle.kernel.specs.Ranges.{InGrid}
use Rattle.boxes.specs.Boxes.{box_of, index_bits, index_one}
use Rattle.boxes.specs.Words.{fits_word, pack_unpack}
use Rattle.gap.specs.Asked.{in_face}
use Rattle.queue.specs.declared.Halving.{Halving}
use Rattle.queue.specs.declared.Half.{Half}
use Rattle.queue.specs.declared.Taken.{Taken}
use Rattle.std.specs.Prelude.{Some, None}
use Rattle.queue.specs.All.{All, all_snoc, all_imp}
use Rattle.queue.specs.Ascending.{Ascending, ascending_snoc}
use Rattle.queue.specs.Walk.{put, same_after}
use Rattle.queue.specs.Level.{OfLevel, Splits, Halvable, halving_of, bound_of, HalfIs, half_at, halves_from, Takes, TakenIs, Grows, Placed, NextIs, Grown}
use Rattle.queue.proofs.Capping.{bound_past, inside_below}
use Rattle.queue.proofs.Picking.{Steps, steps, all_taken}

-- what is written, and then the halves that are left, is the next level; no word that is written is greater than the two that are next; the words below h and
-- beyond the written ones are as they were
pub record Written (q : Query) (k : Depths) (p : Parameter) (n h : ℕ) (old new : List ℕ) (low high : Half) (m : ℕ) : Type 0 where
  pub room : m ≤ h
  pub len : length new ≡ length old
  pub source : take h new ≡ take h old
  pub beyond : drop (h + m) new ≡ drop (h + m) old
  pub grid : All (OfLevel k) (take m (drop h new))
  pub ascends : Ascending (take m (drop h new))
  pub before : All (λ v. (v ≤ low.word) × (v ≤ high.word)) (take m (drop h new))
  pub low_is : HalfIs (half_at p false (take n old)) n low
  pub high_is : HalfIs (half_at p true (take n old)) n high
  pub done : map box_of (take m (drop h new)) ++ halves_from q k p (take n old) low.at high.at ≡ halves_from q k p (take n old) 0 0

-- a level's halving knows the parameter that it is of
module _ {pair : Pair} {k : Depths} {split : Parameter} {n : ℕ} {old : List ℕ} (grows : Grows pair k split old n) {c : Halving} (is : c ≡ halving_of pair.last k split) where
  same_split : c.split ≡ split
  same_split = ap (λ (d : Halving). d.split) is

  abbrev q : Query
  q = asked pair

  abbrev h : ℕ
  h = pair.room

  abbrev p : Parameter
  p = c.split

  bound_is : c.bound ≡ bound_of pair.last k
  bound_is = ap (λ (d : Halving). d.bound) is

  splits : All (Splits k p) (take n old)
  splits = rw same_split grows.splits

  abbrev whole : List Box
  whole = halves_from q k p (take n old) 0 0

  pub halvable : (new : List ℕ) → n ≤ length new → take n new ≡ take n old → Halvable c new n
  halvable new l e = record {
    bits = ap (λ (d : Halving). d.bits) is ∙ ap index_bits (sym same_split);
    one = ap (λ (d : Halving). d.one) is ∙ ap index_one (sym same_split);
    fits = l;
    words = rw e (all_imp (Splits k p) (λ w. w < 2 ^ 60) (λ w x. x.fits) (take n old) splits);
  }

  short : length (take n old) ≡ n
  short = length-take-le n old (omega (arith, grows.fits, grows.twice))

  module _ {new : List ℕ} {low high : Half} {m : ℕ} (w : Written q k p n h old new low high m) where
    abbrev written : List ℕ
    written = take m (drop h new)

    same_part : take n new ≡ take n old
    same_part = sym (take-take n h new grows.fits) ∙ ap (λ (l : List ℕ). take n l) w.source ∙ take-take n h old grows.fits

    length_written : length written ≡ m
    length_written = length-take-le m (drop h new) (rw (length-drop h new) (omega (arith, w.len, w.room, grows.twice)))

    length_part : (b : Box) (rest : List Box) → m < length (map box_of written ++ b ∷ rest)
    length_part b rest = rw (length-append, length-map, length_written) (omega arith)

    -- what is written are the first of the boxes
    first_placed : (rest : List Box) → map box_of written ++ rest ≡ whole → Placed h m k (take m whole) old new
    first_placed rest e = record {
      fits = w.room;
      placed = rw (← e) (sym (take_at (map box_of written) rest m (length-map written box_of ∙ length_written)));
      grid = w.grid;
      ascends = w.ascends;
      beyond = w.beyond;
    }

    -- the lesser of the two words that are next
    module _ {word : ℕ} (lesser : word ≡ min low.word high.word) where
      pub takes : word < c.bound → Takes c new n low high
      takes below = record {
        halvable = halvable new (omega (arith, w.len, grows.fits, grows.twice)) same_part;
        low_is = rw same_part w.low_is;
        high_is = rw same_part w.high_is;
        some = omega (arith, bound_is, bound_past pair.last k grows.last);
      }

      module _ (below : word < c.bound) (r : Taken) (taken : TakenIs p (take n new) n low high r) where
        step : Steps q k p (take n old) n short grows.shallow splits grows.ascends low high word r
        step = steps q k p (take n old) n short grows.shallow splits grows.ascends low high w.low_is w.high_is word r lesser (rw same_part at taken)

        pub in_grid : InGrid k (box_of word)
        in_grid = step.of_level.grid

        abbrev rest : List Box
        rest = halves_from q k p (take n old) r.low.at r.high.at

        -- no word that is written is greater
        not_greater : All (λ v. v ≤ word) written
        not_greater = all_imp (λ v. (v ≤ low.word) × (v ≤ high.word)) (λ v. v ≤ word) (λ v x. omega (arith, lesser, x.0, x.1)) written w.before

        before_next : (ws : List ℕ) → All (λ v. v ≤ word) ws → All (λ v. (v ≤ r.low.word) × (v ≤ r.high.word)) ws
        before_next = all_imp (λ v. v ≤ word) (λ v. (v ≤ r.low.word) × (v ≤ r.high.word)) (λ v o. (omega (arith, step.goes_up_lem.0), omega (arith, step.goes_up_lem.1)))

        stays : inside q k (box_of word) ≡ in_face q k (box_of word)
        stays = inside_below q k (box_of word) (fits_word word) (rw (pack_unpack word step.of_level.fits, ← bound_is) below)

        next : (b : Bool) → in_face q k (box_of word) ≡ b → map box_of written ++ cond b (box_of word ∷ rest) rest ≡ whole
        next b e = rw (← e, ← stays) (rw step.halves at w.done)

        pub written_pass : in_face q k (box_of word) ≡ false → Written q k p n h old new r.low r.high m
        written_pass e = record {
          room = w.room;
          len = w.len;
          source = w.source;
          beyond = w.beyond;
          grid = w.grid;
          ascends = w.ascends;
          before = before_next written not_greater;
          low_is = step.low_is;
          high_is = step.high_is;
          done = next false e;
        }

        pub written_put : in_face q k (box_of word) ≡ true → m < h → Written q k p n h old (set new (h + m) word) r.low r.high (m + 1)
        written_put e l =
            let long : m < length (drop h new) = rw (length-drop h new) (omega (arith, w.len, grows.twice)) in
            let one_more : take (m + 1) (drop h (set new (h + m) word)) ≡ written ++ (word ∷ []) = rw (drop-set-add h new m word, add-one m) (take-suc-set (drop h new) m word long) in
            record {
              room = omega arith;
              len = length-set new (h + m) word ∙ w.len;
              source = take-set-le h new (h + m) word (omega arith) ∙ w.source;
              beyond = rw (← add_assoc h m 1) (drop-set-lt (h + m + 1) new (h + m) word (omega arith) ∙ same_after (h + m) new old w.beyond);
              grid = rw one_more (all_snoc (OfLevel k) written word w.grid step.of_level);
              ascends = rw one_more (ascending_snoc written word w.ascends not_greater);
              before = rw one_more (before_next (written ++ (word ∷ [])) (all_snoc (λ v. v ≤ word) written word not_greater (omega arith)));
              low_is = step.low_is;
              high_is = step.high_is;
              done = rw (drop-set-add h new m word) (put m (drop h new) word _ long ∙ next true e);
            }

        -- a half that has no room is one too many
        no_room : in_face q k (box_of word) ≡ true → m ≡ h → NextIs h k whole old new None
        no_room e l = (rw (← next true e) (omega (arith, length_part (box_of word) rest)), rw l at (first_placed (box_of word ∷ rest) (next true e)))

        pub grown_room : in_face q k (box_of word) ≡ true → m ≡ h → Grown pair k split n old new None
        unfolding halves
        grown_room e l = record { next = rw same_split at (no_room e l); kept = w.source }

      all_placed : c.bound ≤ word → NextIs h k whole old new (Some m)
      all_placed far = record {
        fits = w.room;
        placed = sym (append-nil (map box_of written)) ∙ rw (all_taken q k p (take n old) n short grows.shallow splits grows.ascends low high w.low_is w.high_is (omega (arith, bound_is)) (omega (arith, bound_is))) at w.done;
        grid = w.grid;
        ascends = w.ascends;
        beyond = w.beyond;
      }

      pub grown_level : c.bound ≤ word → Grown pair k split n old new (Some m)
      unfolding halves
      grown_level far = record { next = rw same_split at (all_placed far); kept = w.source }
