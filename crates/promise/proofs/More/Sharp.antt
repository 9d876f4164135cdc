-- The promises of R-5 say enough: what a settled answer may not become is ruled out. And no more than is so: what more may do, by berth examples.
use mathlib.Core.Path.{◌≡◌, refl, ap}
use mathlib.Core.List.{◌++◌}
use Prim.Native.Nat.{ℕ, ◌≤◌, ◌<◌}
use native.Mathlib.Omega.{arith}
use lib.IntN.{pos}
use lib.Dec.{T}
use Rattle.rules.specs.declared.Record.{Record}
use Rattle.rules.specs.declared.Answer.{Answer}
use Rattle.rules.specs.declared.Answer.TheVariants.{Met, Clear, Spent, Room, Refused}
use Rattle.rules.specs.declared.Told.{Told}
use Rattle.rules.specs.Answers.{told, has_moment}
use Rattle.rules.specs.Gap.{moving, vertex_face, edge_edge, gap_on, negate_from, sided}
use Rattle.rules.specs.Refusals.{first, every, search_refusal}
use Rattle.rules.specs.Search.{search, run, levels, after_level, if_room, halves, merge, take_in, not_after, those, inside, split, winner, spread, check, one_box, near, first_survivor, corner, excess, width, survives, least, greatest, over_corners, unless}
use Rattle.rules.specs.Berth.{asked, point, minus, still, T as face, p_t}
use Rattle.promise.specs.More.{with_budget, NoWorse, Raised}

-- ---- enough: CLEAR does not become SPENT, nor MET CLEAR, nor SPENT a refusal or an earlier time
pub clear_not_spent : (m t u v e n : ℕ) → NoWorse (told (Clear m)) (told (Spent t u v e n)) → ⊥
clear_not_spent m t u v e n p = let x : ◌≡◌ {A = ℕ} 3 2 = ap (λ (a : Told). a.word) (p.unchanged tt) in omega arith

pub met_not_clear : (t u v e m n : ℕ) → NoWorse (told (Met t u v e m)) (told (Clear n)) → ⊥
met_not_clear t u v e m n p = let x : ◌≡◌ {A = ℕ} 2 1 = ap (λ (a : Told). a.word) (p.unchanged tt) in omega arith

pub spent_not_refused : (t u v e m n : ℕ) → NoWorse (told (Spent t u v e m)) (told (Refused n)) → ⊥
spent_not_refused t u v e m n p = omega (arith, p.still_answered (omega arith))

pub spent_not_sooner : (t t' u v e m n : ℕ) → t' < t → NoWorse (told (Spent t u v e m)) (told (Met t' u v e n)) → ⊥
spent_not_sooner t t' u v e m n h p = omega (arith, p.not_sooner tt tt)

-- ---- what more does, by computation

-- the first berth example; a point beside the face; and a face whose low corner is nearer to the point than where it comes within reach
abbrev falls : ℕ → Record
falls budget = asked 1 0 0 999 budget p_t

abbrev beside : ℕ → Record
beside budget = asked 1 0 0 16 budget (still (point (pos 150) (pos 150) (pos 0) ++ face))

abbrev skew : ℕ → Record
skew budget = asked 1 0 0 16 budget (still (point (pos 0) (pos 0) (pos 0) ++ point (pos 100) (pos 0) (pos 0) ++ point (minus 50) (minus 1000) (pos 0) ++ point (pos 100) (pos 1000) (pos 0)))

-- one search, and the same with more
pub data Twice (r : Record) (words budget words' : ℕ) (a b : Answer) : Type 0 where
  twice : a ≡ search r words → b ≡ search (with_budget r budget) words' → Twice r words budget words' a b

pub record Rows : Type 0 where
  pub spent_to_met : Twice (falls 4) 4096 5 4096 (Spent 0 0 0 1000 4) (Met 262144 0 0 500 5)
  pub spent_to_clear : Twice (beside 9) 4096 10 4096 (Spent 0 524288 524288 50 9) (Clear 10)
  pub spent_to_room : Twice (falls 2) 7 3 7 (Spent 0 0 0 1000 2) (Room 0 0 0 1000 3)
  pub room_to_spent : Twice (falls 4) 7 4 8 (Room 0 0 0 1000 3) (Spent 0 0 0 1000 4)
  pub room_to_met : Twice (falls 10) 7 10 8 (Room 0 0 0 1000 3) (Met 262144 0 0 500 5)
  pub room_to_clear : Twice (beside 10) 3 10 4 (Room 0 0 0 250 1) (Clear 10)
  -- the excess may grow
  pub more_excess : Twice (skew 1) 4096 3 4096 (Spent 0 0 0 100 1) (Spent 0 524288 0 500 3)
  -- a smaller budget, with more words
  pub less_budget : Twice (falls 5) 4096 4 8192 (Met 262144 0 0 500 5) (Spent 0 0 0 1000 4)
  -- beyond the ranges
  pub beyond_budget : Twice (falls 4) 4096 1_000_001 4096 (Spent 0 0 0 1000 4) (Refused 6)
  pub beyond_words : Twice (falls 4) 4096 4 1_048_577 (Spent 0 0 0 1000 4) (Refused 7)

pub rows : Rows
unfolding search run levels after_level if_room halves merge take_in not_after those inside split winner spread check one_box near first_survivor corner excess width survives least greatest over_corners unless first every search_refusal moving vertex_face edge_edge gap_on negate_from sided
rows =
    record {
      spent_to_met = twice refl refl;
      spent_to_clear = twice refl refl;
      spent_to_room = twice refl refl;
      room_to_spent = twice refl refl;
      room_to_met = twice refl refl;
      room_to_clear = twice refl refl;
      more_excess = twice refl refl;
      less_budget = twice refl refl;
      beyond_budget = twice refl refl;
      beyond_words = twice refl refl;
    }

-- ---- no more

-- what would be promised of every two searches, where `Up` says of which
abbrev pub OfEvery : (Record → ℕ → ℕ → ℕ → Type 0) → (Told → Told → Type 0) → Type 0
OfEvery Up P = (r : Record) (words budget words' : ℕ) → Up r words budget words' → P (told (search r words)) (told (search (with_budget r budget) words'))

told_of : (P : Told → Told → Type 0) (r : Record) (words budget words' : ℕ) (a b : Answer) → Twice r words budget words' a b
    → P (told (search r words)) (told (search (with_budget r budget) words')) → P (told a) (told b)
told_of P r words budget words' a b (twice e f) h = rw (e, f) h

raised : (r : Record) (words budget words' : ℕ) → r.budget ≤ budget → budget ≤ 1_000_000 → words ≤ words' → words' ≤ 1_048_576 → Raised r words budget words'
raised r words budget words' a b c d = record { budget_up = a; budget_most = b; words_up = c; words_most = d }

-- SPENT may change
abbrev Stays : ℕ → Told → Told → Type 0
Stays word a b = a.word ≡ word → b ≡ a

pub not_spent_stays : OfEvery Raised (Stays 3) → ⊥
not_spent_stays f = let x : ◌≡◌ {A = ℕ} 1 3 = ap (λ (a : Told). a.word) (now refl) in omega arith
  where
    now : Stays 3 (told (Spent 0 0 0 1000 4)) (told (Met 262144 0 0 500 5))
    now = told_of (Stays 3) (falls 4) 4096 5 4096 _ _ rows.spent_to_met (f (falls 4) 4096 5 4096 (raised (falls 4) 4096 5 4096 (omega arith) (omega arith) (omega arith) (omega arith)))

-- more need not help: the time may stand
abbrev Gains : Told → Told → Type 0
Gains a b = T (has_moment a) → T (has_moment b) → a.t < b.t

pub not_always_later : OfEvery Raised Gains → ⊥
not_always_later f = omega (arith, now tt tt)
  where
    now : Gains (told (Room 0 0 0 1000 3)) (told (Spent 0 0 0 1000 4))
    now = told_of Gains (falls 4) 7 4 8 _ _ rows.room_to_spent (f (falls 4) 7 4 8 (raised (falls 4) 7 4 8 (omega arith) (omega arith) (omega arith) (omega arith)))

-- nothing is said of the excess
abbrev Nearer : Told → Told → Type 0
Nearer a b = T (has_moment a) → T (has_moment b) → b.excess ≤ a.excess

pub not_always_nearer : OfEvery Raised Nearer → ⊥
not_always_nearer f = omega (arith, now tt tt)
  where
    now : Nearer (told (Spent 0 0 0 100 1)) (told (Spent 0 524288 0 500 3))
    now = told_of Nearer (skew 1) 4096 3 4096 _ _ rows.more_excess (f (skew 1) 4096 3 4096 (raised (skew 1) 4096 3 4096 (omega arith) (omega arith) (omega arith) (omega arith)))

-- more words do not make up for a smaller budget
abbrev MoreWords : Record → ℕ → ℕ → ℕ → Type 0
MoreWords r words budget words' = (0 < budget) × (budget ≤ 1_000_000) × (words ≤ words') × (words' ≤ 1_048_576)

pub not_for_words_alone : OfEvery MoreWords NoWorse → ⊥
not_for_words_alone f = omega (arith, now.not_sooner tt tt)
  where
    now : NoWorse (told (Met 262144 0 0 500 5)) (told (Spent 0 0 0 1000 4))
    now = told_of NoWorse (falls 5) 4096 4 8192 _ _ rows.less_budget (f (falls 5) 4096 4 8192 (omega arith, omega arith, omega arith, omega arith))
