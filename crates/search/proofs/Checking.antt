-- One box, and the loop that checks a level.
use mathlib.Core.Path.{◌≡◌, refl, sym, ap, subst, ◌∙◌}
use mathlib.Core.Bool.{Bool, true, false}
use mathlib.Core.List.{List, [], ◌∷◌, ◌++◌, map, append-nil, append_assoc, map-append}
use Prim.Native.Nat.{ℕ, ◌+◌, ◌≤◌, ◌<◌}
use native.Mathlib.Nat.{add_assoc}
use native.Mathlib.Numerals.{add-one}
use Rattle.std.proofs.Common.{add-zero}
use native.Mathlib.Omega.{arith}
use lib.Dec.{ltb}
use lib.ListN.{length, get_or, set, take, drop, length-set, drop_of_length-le}
use lib.Seq.{drop-set-lt, take-set-le, take-suc-set, length-take-le}
use borrow.Author.Tests.{eq-eqb, ne_eqb, lt-ltb}
use Rattle.rules.specs.declared.Corner.{Corner}
use Rattle.rules.specs.declared.Answer.{Answer}
use Rattle.rules.specs.declared.Answer.TheVariants.{Met, Spent, Floor}
use Rattle.rules.specs.Search.{Query, Box, Depths, Checked, answered, through, keep, with_count, survives, near, full, corner, first_survivor, one_box, check}
use Rattle.kernel.specs.declared.Pair.{Pair}
use Rattle.kernel.specs.Kernel.{asked}
use Rattle.boxes.specs.Boxes.{box_of}
use Rattle.queue.specs.All.{All, all_snoc, all_front}
use Rattle.queue.specs.Ascending.{Ascending, ascending_without}
use Rattle.queue.specs.Level.{OfLevel}
use Rattle.queue.specs.Walk.{same_at, same_after, part_cons}
use Rattle.search.specs.declared.Level.{Level}
use Rattle.std.specs.declared.ops.ControlFlow.TheVariants.{Break, Continue}
use Rattle.search.specs.Levels.{Step, OneBox, after_first, FirstIs, Affords, boxes, Tidy, Fine, CheckIs}
use Rattle.search.proofs.Tidying.{tidy_front}

-- ---- a level's first survivor

module _ {q : Query} {k : Depths} {box : Box} {n : ℕ} {c : Corner} (e : c ≡ corner q k box) where
  pub first_met : near q k box ≡ true → FirstIs q k box n (Break (with_count Met c n))
  unfolding first_survivor
  first_met h = record { says = λ on. rw (h, e); not_full = tt }

  pub first_floor : near q k box ≡ false → full q k ≡ true → FirstIs q k box n (Break (with_count Floor c n))
  unfolding first_survivor
  first_floor h f = record { says = λ on. rw (h, f, e); not_full = tt }

  pub first_goes : near q k box ≡ false → full q k ≡ false → FirstIs q k box n (Continue c)
  unfolding first_survivor
  first_goes h f = record { says = λ on. rw (h, f, e); not_full = f }

-- ---- the level

-- the survivors so far, and then what is said of the rest
abbrev pre : List Box → Checked → Checked
pre done (answered a) = answered a
pre done (through n c rest) = through n c (done ++ rest)

pre_none : (s : Checked) → pre [] s ≡ s
pre_none (answered a) = refl
pre_none (through n c rest) = refl

pre_more : (done : List Box) (b : Box) (s : Checked) → pre (done ++ (b ∷ [])) s ≡ pre done (keep b s)
pre_more done b (answered a) = refl
pre_more done b (through n c rest) = ap (λ (x : List Box). through n c x) (append_assoc done (b ∷ []) rest)

-- the survivors so far, and then what the written search says of the boxes that are left, is what it says of all
pub record Checking (p : Pair) (l : Level) (old new : List ℕ) (corner : Corner) (i m : ℕ) : Type 0 where
  pub i_le : i ≤ l.size
  pub m_le : m ≤ i
  pub len : length new ≡ length old
  pub within : l.count + i ≤ p.budget
  pub unread : drop i new ≡ drop i old
  pub grid : All (OfLevel l.depths) (take m new)
  pub ascends : Ascending (take m new ++ drop i (take l.size old))
  pub not_full : 0 < m → full (asked p) l.depths ≡ false
  pub done : pre (map box_of (take m new)) (check (asked p) l.depths (map box_of (drop i (take l.size old))) (ltb 0 m) corner (l.count + i))
      ≡ check (asked p) l.depths (boxes old l) false l.corner l.count

module _ {p : Pair} {l : Level} {old : List ℕ} (fine : Fine p old l) where
  fits : l.size ≤ length old
  fits = omega (arith, fine.size, fine.used, fine.twice)

  abbrev whole : Checked
  whole = check (asked p) l.depths (boxes old l) false l.corner l.count

  pub checking_none : Checking p l old old l.corner 0 0
  checking_none = record {
    i_le = omega arith;
    m_le = omega arith;
    len = refl;
    within = omega (arith, fine.within);
    unread = refl;
    grid = tt;
    ascends = fine.ascends;
    not_full = λ h. absurd (omega arith);
    done = rw add-zero (pre_none whole);
  }

  -- a box of the level that is not read yet
  module _ (new : List ℕ) (i : ℕ) (unread : drop i new ≡ drop i old) (more : i < l.size) where
    of_level : OfLevel l.depths (get_or new i 0)
    of_level = rw (same_at i new old unread) (all_front (OfLevel l.depths) old l.size i fits fine.grid more)

    pub one_box_lem : OneBox p l.depths (box_of (get_or new i 0))
    one_box_lem = record {
      ranged = fine.ranged;
      shallow = fine.shallow;
      grid = of_level.grid;
    }

  module _ {new : List ℕ} {corner : Corner} {i m : ℕ} (k : Checking p l old new corner i m) where
    left_tidy : Tidy p.room l.used new
    left_tidy = tidy_front p.room l.used i new old (omega (arith, k.i_le, fine.size)) k.unread fine.tidy

    abbrev box : Box
    box = box_of (get_or new i 0)

    abbrev rest : List Box
    rest = map box_of (drop (i + 1) (take l.size old))

    opened : i < l.size → drop i (take l.size old) ≡ get_or new i 0 ∷ drop (i + 1) (take l.size old)
    opened more = rw (same_at i new old k.unread) (part_cons i l.size old more fits)

    module _ {last : ℕ} (affords : Affords p.budget l.count l.size last) where
      module _ (turn : i < last) where
        more : i < l.size
        more = omega (arith, affords.some)

        left : l.count + i < p.budget
        left = omega (arith, affords.within)

        -- a box that the budget affords
        pub box_of_turn : OneBox p l.depths box
        box_of_turn = one_box_lem new i k.unread more

        -- the box is written to the end of the survivors
        abbrev put : List ℕ
        put = set new m (get_or new i 0)

        unread_put : drop (i + 1) put ≡ drop (i + 1) old
        unread_put = drop-set-lt (i + 1) new m (get_or new i 0) (omega (arith, k.m_le)) ∙ same_after i new old k.unread

        len_put : length put ≡ length old
        len_put = length-set new m (get_or new i 0) ∙ k.len

        -- the box is checked: the budget does not end before it
        checked : (alive : Bool) → survives (asked p) l.depths box ≡ alive
            → pre (map box_of (take m new)) (one_box (asked p) l.depths box false alive (ltb 0 m) corner (l.count + i) (λ s d. check (asked p) l.depths rest s d (l.count + i + 1))) ≡ whole
        unfolding check
        checked alive e = rw (opened more, ne_eqb (l.count + i) p.budget (λ z. omega arith), e) at k.done

        pub checking_lost : survives (asked p) l.depths box ≡ false → Checking p l old put corner (i + 1) m
        unfolding one_box
        checking_lost e =
            let same : take m put ≡ take m new = take-set-le m new m (get_or new i 0) (omega arith) in
            record {
              i_le = omega arith;
              m_le = omega (arith, k.m_le);
              len = len_put;
              within = omega arith;
              unread = unread_put;
              grid = rw same k.grid;
              ascends = rw same (ascending_without (take m new) (get_or new i 0) (drop (i + 1) (take l.size old)) (rw (opened more) at k.ascends));
              not_full = k.not_full;
              done = rw (same, ← add_assoc l.count i 1) (checked false e);
            }

        -- one survivor more, with what is recorded then
        kept : (d : Corner) → full (asked p) l.depths ≡ false → pre (map box_of (take m new)) (keep box (check (asked p) l.depths rest true d (l.count + i + 1))) ≡ whole
            → Checking p l old put d (i + 1) (m + 1)
        kept d f e =
            let long : m < length new = omega (arith, k.m_le, k.len, fits) in
            record {
              i_le = omega arith;
              m_le = omega (arith, k.m_le);
              len = len_put;
              within = omega arith;
              unread = unread_put;
              grid = rw (add-one m, take-suc-set new m (get_or new i 0) long) (all_snoc (OfLevel l.depths) (take m new) (get_or new i 0) k.grid (of_level new i k.unread more));
              ascends = rw (add-one m, take-suc-set new m (get_or new i 0) long, append_assoc) (rw (opened more) at k.ascends);
              not_full = λ h. f;
              done = rw (← add_assoc l.count i 1, lt-ltb 0 (m + 1) (omega arith), add-one m, take-suc-set new m (get_or new i 0) long, map-append) (pre_more (map box_of (take m new)) box (check (asked p) l.depths rest true d (l.count + i + 1)) ∙ e);
            }

        pub checking_again : survives (asked p) l.depths box ≡ true → 0 < m → Checking p l old put corner (i + 1) (m + 1)
        unfolding one_box
        checking_again e some = kept corner (k.not_full some) (rw (lt-ltb 0 m some) at (checked true e))

        module _ (none : m ≡ 0) (alive : survives (asked p) l.depths box ≡ true) where
          first : (r : Step Corner) → FirstIs (asked p) l.depths box (l.count + i + 1) r
              → pre (map box_of (take m new)) (after_first box r (λ d. check (asked p) l.depths rest true d (l.count + i + 1))) ≡ whole
          unfolding one_box
          first r x =
              let not_yet : ltb 0 m ≡ false = rw none in
              ap (pre (map box_of (take m new))) (sym (x.says (λ d. check (asked p) l.depths rest true d (l.count + i + 1)))) ∙ rw not_yet at (checked true alive)

          pub checks_first : {a : Answer} → FirstIs (asked p) l.depths box (l.count + i + 1) (Break a) → CheckIs p l old put (Break a)
          checks_first {a} x = record {
            says = sym (first (Break a) x);
            left = (x.not_full, tidy_front p.room l.used (i + 1) put old (omega (arith, fine.size)) unread_put fine.tidy);
          }

          pub checking_first : {d : Corner} → FirstIs (asked p) l.depths box (l.count + i + 1) (Continue d) → Checking p l old put d (i + 1) (m + 1)
          checking_first {d} x = kept d x.not_full (first (Continue d) x)

      module _ (ended : i ≡ last) where
        -- the budget ends before the next box
        pub checks_spent : last < l.size → CheckIs p l old new (Break (with_count Spent corner p.budget))
        unfolding check one_box
        checks_spent short =
            let e : l.count + i ≡ p.budget = omega (arith, ended, affords.all short) in
            record { says = sym (rw (opened (omega (arith, ended, short)), eq-eqb (l.count + i) p.budget e, e) at k.done); left = (tt, left_tidy) }

        abbrev survivors : ℕ → Level
        survivors n = record { depths = l.depths; size = m; used = l.used; corner = corner; count = l.count + n }

        as_counted : l.size ≤ i → CheckIs p l old new (Continue (survivors i))
        unfolding check
        as_counted past =
            let z : drop i (take l.size old) ≡ [] = drop_of_length-le (take l.size old) {i = i} (rw (length-take-le l.size old fits) past) in
            record {
              says = sym k.done ∙ rw (z, append-nil);
              left = record {
                fine = record {
                  ranged = fine.ranged;
                  shallow = fine.shallow;
                  size = omega (arith, k.m_le, k.i_le, fine.size);
                  used = fine.used;
                  twice = omega (arith, fine.twice, k.len);
                  within = k.within;
                  grid = k.grid;
                  ascends = rw (z, append-nil) at k.ascends;
                  tidy = left_tidy;
                };
                depths = refl;
                used = refl;
                not_full = k.not_full;
              };
            }

        pub checks_all : l.size ≤ last → CheckIs p l old new (Continue (survivors l.size))
        checks_all past = let e : i ≡ l.size = omega (arith, k.i_le, ended) in subst (λ (n : ℕ). CheckIs p l old new (Continue (survivors n))) e (as_counted (omega (arith, ended, past)))
