-- One level of the code is one step of the written search.
use mathlib.Core.Path.{◌≡◌, refl, sym, ap, ◌∙◌}
use mathlib.Core.List.{List, [], ◌∷◌, ◌++◌}
use Prim.Native.Nat.{ℕ, ◌+◌, ◌<◌, max}
use native.Mathlib.Omega.{arith}
use lib.Dec.{leb}
use lib.ListN.{length, take, drop, length-map, length-drop}
use lib.Seq.{length-take-le, take_at, drop_at}
use borrow.Author.Tests.{le-leb, lt-leb}
use Rattle.rules.specs.declared.Corner.{Corner}
use Rattle.rules.specs.declared.Answer.{Answer}
use Rattle.rules.specs.declared.Answer.TheVariants.{Clear, Room as RoomAt}
use Rattle.rules.specs.declared.Parameter.{Parameter}
use Rattle.rules.specs.Search.{Query, Box, Depths, through, with_count, split, deeper, halves, if_room, after_level}
use Rattle.kernel.specs.declared.Pair.{Pair}
use Rattle.kernel.specs.Kernel.{asked}
use Rattle.kernel.specs.Ranges.{Shallow, shallower}
use Rattle.boxes.specs.Boxes.{box_of}
use Rattle.std.specs.Prelude.{Some, None}
use Rattle.queue.specs.All.{all_imp}
use Rattle.queue.specs.Cleared.{cleared}
use Rattle.queue.specs.Grid.{splits_grid}
use Rattle.queue.specs.Level.{OfLevel, Splits, Grows, Grown}
use Rattle.search.specs.declared.Level.{Level}
use Rattle.std.specs.declared.ops.ControlFlow.TheVariants.{Break, Continue}
use Rattle.search.specs.Levels.{Step, boxes, CheckIs, Below, After, Splitting, SplitIs, StepIs}
use Rattle.search.proofs.Deepening.{split_deepest, deeper_total, deeper_shallow}
use Rattle.search.proofs.Tidying.{tidy_front, tidy_grown, tidy_back}

-- ---- the survivors are split

-- what the written search makes of some survivors
after_some : (q : Query) (k : Depths) (go : Below) (n : ℕ) (c : Corner) (some : List Box) → 0 < length some
    → after_level q k go (through n c some)
    ≡ if_room (leb (length (halves q (deeper (split q k) k) (split q k) some)) q.room) c n (go (deeper (split q k) k) (halves q (deeper (split q k) k) (split q k) some))
unfolding after_level
after_some q k go n c [] h = absurd (omega arith)
after_some q k go n c (box ∷ rest) h = refl

module _ {p : Pair} {l : Level} {old : List ℕ} (x : Splitting p old l) where
  abbrev parameter : Parameter
  parameter = split (asked p) l.depths

  abbrev depths : Depths
  depths = deeper parameter l.depths

  abbrev new : List Box
  new = halves (asked p) depths parameter (boxes old l)

  shallow : Shallow p.deepest depths
  shallow = deeper_shallow parameter l.depths (split_deepest (asked p) l.depths x.not_full) x.fine.shallow

  pub grows : Grows p depths parameter old l.size
  grows = record {
    shallow = shallower x.fine.ranged.deepest shallow;
    fits = omega (arith, x.fine.size, x.fine.used);
    twice = x.fine.twice;
    last = x.fine.ranged.last;
    splits = all_imp (OfLevel l.depths) (Splits depths parameter) (splits_grid parameter l.depths) (take l.size old) x.fine.grid;
    ascends = x.fine.ascends;
  }

  some : 0 < length (boxes old l)
  some = rw (length-map, length-take-le l.size old (omega (arith, x.fine.size, x.fine.used, x.fine.twice))) x.some

  after : (go : Below) → after_level (asked p) l.depths go (through l.count l.corner (boxes old l)) ≡ if_room (leb (length new) p.room) l.corner l.count (go depths new)
  after go = after_some (asked p) l.depths go l.count l.corner (boxes old l) some

  module _ {q₂ q₃ : List ℕ} (len : length q₂ ≡ length old) where
    pub splits_room : Grown p depths parameter l.size old q₂ None → q₃ ≡ cleared p.room (p.room + p.room) q₂
        → SplitIs p l old q₃ (Break (with_count RoomAt l.corner l.count))
    unfolding if_room
    splits_room g e = record {
      says = λ go. after go ∙ rw (lt-leb (length new) p.room g.next.0);
      after = (tt, rw e (tidy_back p.room l.used q₂ old (omega (arith, len, x.fine.twice)) g.kept g.next.1.beyond x.fine.tidy));
    }

    module _ {m used : ℕ} (g : Grown p depths parameter l.size old q₂ (Some m)) (copied : q₃ ≡ take m (drop p.room q₂) ++ drop m q₂)
        (len₃ : length q₃ ≡ length old) (most : used ≡ max l.used m) where
      long : length (take m (drop p.room q₂)) ≡ m
      long = length-take-le m (drop p.room q₂) (rw (length-drop p.room q₂) (omega (arith, len, g.next.fits, x.fine.twice)))

      brought : take m q₃ ≡ take m (drop p.room q₂)
      brought = rw copied (take_at (take m (drop p.room q₂)) (drop m q₂) m long)

      count : length new ≡ m
      count = sym (ap length g.next.placed) ∙ length-map (take m (drop p.room q₂)) box_of ∙ long

      pub splits_level : SplitIs p l old q₃ (Continue (record { depths = depths; size = m; used = used; corner = l.corner; count = l.count }))
      unfolding if_room
      splits_level = record {
        says = λ go. after go ∙ rw (le-leb (length new) p.room (omega (arith, count, g.next.fits)), brought, g.next.placed);
        after = record {
          fine = record {
            ranged = x.fine.ranged;
            shallow = shallow;
            size = omega (arith, most);
            used = omega (arith, most, g.next.fits, x.fine.used);
            twice = omega (arith, len₃, x.fine.twice);
            within = x.fine.within;
            grid = rw brought g.next.grid;
            ascends = rw brought g.next.ascends;
            tidy = tidy_front p.room used m q₃ q₂ (omega (arith, most)) (rw copied (drop_at (take m (drop p.room q₂)) (drop m q₂) m long))
                (tidy_grown p.room l.used used m q₂ old (omega (arith, most)) (omega (arith, most)) g.kept g.next.beyond x.fine.tidy);
          };
          total = deeper_total parameter l.depths;
        };
      }

-- ---- the level

module _ {p : Pair} {l : Level} {old q₂ : List ℕ} where
  pub steps_ends : {a : Answer} → CheckIs p l old q₂ (Break a) → StepIs p l old q₂ (Break a)
  unfolding after_level
  steps_ends x = record { says = λ go. rw x.says; after = x.left }

  module _ {s : Level} (x : CheckIs p l old q₂ (Continue s)) where
    pub steps_clear : s.size ≡ 0 → StepIs p l old q₂ (Break (Clear s.count))
    unfolding after_level
    steps_clear e = record { says = λ go. rw (x.says, e); after = (tt, rw x.left.used at x.left.fine.tidy) }

    same_after : (q₃ : List ℕ) (r : Step Level) → After p s q₃ r → After p l q₃ r
    same_after q₃ (Break a) t = (t.0, rw x.left.used at t.1)
    same_after q₃ (Continue next) t = record { fine = t.fine; total = rw x.left.depths at t.total }

    pub steps_splits : {q₃ : List ℕ} {r : Step Level} → SplitIs p s q₂ q₃ r → StepIs p l old q₃ r
    steps_splits {q₃} {r} y = record { says = λ go. rw (x.says, ← x.left.depths) (y.says go); after = same_after q₃ r y.after }
