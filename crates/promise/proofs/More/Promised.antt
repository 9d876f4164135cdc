-- What specs/More.antt states, of every record and number of words.
use mathlib.Core.Path.{◌≡◌, refl, ap, subst, fun_ext}
use Prim.Native.Nat.{ℕ, zero, suc, ◌≤◌}
use native.Mathlib.Nat.{le_refl}
use native.Mathlib.Omega.{arith}
use lib.Dec.{T}
use Rattle.rules.specs.declared.Record.{Record}
use Rattle.rules.specs.declared.Told.{Told}
use Rattle.rules.specs.declared.Answer.{Answer}
use Rattle.rules.specs.declared.Answer.TheVariants.{Met, Clear, Spent, Room, Floor, Refused}
use Rattle.rules.specs.declared.Axis.{Axis}
use Rattle.rules.specs.declared.Axis.TheVariants.{X, Y, Z}
use Rattle.rules.specs.Numbers.{half}
use Rattle.rules.specs.Gap.{sided, is_vertex_face, separation_on}
use Rattle.rules.specs.Answers.{told}
use Rattle.rules.specs.Refusals.{search_refusal}
use Rattle.rules.specs.Search.{Query, query, run, unless, search}
use Rattle.promise.specs.Why.{Comes, WasDiscarded}
use Rattle.promise.specs.More.{with_budget, is_settled, NoWorse, Raised, MoreIsNoWorse, MostGainsAll, SameFirstChecks, RuledOutStays}
use Rattle.promise.proofs.Accepted.{accepted_more, run_ended}
use Rattle.promise.proofs.More.Since.{Since}
use Rattle.promise.proofs.More.Both.{Better, larger, run_better, comes_too, discarded_too}

-- ---- two answers
no_worse_same : (a : Told) → NoWorse a a
no_worse_same a =
    record {
      unchanged = λ _. refl;
      not_sooner = λ _ _. le_refl a.t;
      still_answered = λ h. h;
      count_stands = le_refl a.count;
    }

-- a for want of budget or room
since_no_worse : (a : Told) (b : Answer) → (T (is_settled a) → ⊥) → Since a.t a.count b → ((n : ℕ) → b ≡ Refused n → ⊥) → NoWorse a (told b)
since_no_worse a (Met t u v e n) s h r = record { unchanged = λ x. absurd (s x); not_sooner = λ _ _. h.0; still_answered = λ _. omega arith; count_stands = h.1 }
since_no_worse a (Clear n) s h r = record { unchanged = λ x. absurd (s x); not_sooner = λ _ x. absurd x; still_answered = λ _. omega arith; count_stands = h }
since_no_worse a (Spent t u v e n) s h r = record { unchanged = λ x. absurd (s x); not_sooner = λ _ _. h.0; still_answered = λ _. omega arith; count_stands = h.1 }
since_no_worse a (Room t u v e n) s h r = record { unchanged = λ x. absurd (s x); not_sooner = λ _ _. h.0; still_answered = λ _. omega arith; count_stands = h.1 }
since_no_worse a (Floor t u v e n) s h r = record { unchanged = λ x. absurd (s x); not_sooner = λ _ _. h.0; still_answered = λ _. omega arith; count_stands = h.1 }
since_no_worse a (Refused n) s h r = absurd (r n refl)

-- a refusal promises nothing
refused_no_worse : (n : ℕ) (b : Told) → NoWorse (told (Refused n)) b
refused_no_worse n b = record { unchanged = λ x. absurd x; not_sooner = λ x _. absurd x; still_answered = λ h. absurd (omega arith); count_stands = omega arith }

better_no_worse : (a b : Answer) → Better a b → ((n : ℕ) → b ≡ Refused n → ⊥) → NoWorse (told a) (told b)
better_no_worse (Met t u v e n) b h r = rw h (no_worse_same (told (Met t u v e n)))
better_no_worse (Clear n) b h r = rw h (no_worse_same (told (Clear n)))
better_no_worse (Spent t u v e n) b h r = since_no_worse (told (Spent t u v e n)) b (λ x. x) h r
better_no_worse (Room t u v e n) b h r = since_no_worse (told (Room t u v e n)) b (λ x. x) h r
better_no_worse (Floor t u v e n) b h r = rw h (no_worse_same (told (Floor t u v e n)))
better_no_worse (Refused n) b h r = refused_no_worse n (told b)

-- ---- two records
half_up : (m n : ℕ) → m ≤ n → half m ≤ half n
half_up m n h = omega arith

module _ (r : Record) (words budget words' : ℕ) (R : Raised r words budget words') where
  -- what is asked with more is the same question
  same_separation : (axis : Axis) → separation_on r axis ≡ separation_on (with_budget r budget) axis
  same_separation X = refl
  same_separation Y = refl
  same_separation Z = refl

  asks : larger (query r words) budget (half words') ≡ query (with_budget r budget) words'
  unfolding sided
  asks = ap (λ (f : Axis → ℕ). record { gap = (query r words).gap; is_face = is_vertex_face r; separation = f; tolerance = r.tolerance; budget = budget; room = half words'; deepest = (query r words).deepest; last = (query r words).last }) (fun_ext same_separation)

  both : Better (run (query r words)) (run (query (with_budget r budget) words'))
  both =
      subst (λ (q : Query). Better (run (query r words)) (run q)) asks
      (run_better (query r words) budget (half words') R.budget_up (half_up words words' R.words_up))

  accepted : search_refusal r words ≡ 0 → NoWorse (told (run (query r words))) (told (search (with_budget r budget) words'))
  unfolding search unless
  accepted e =
      let f = accepted_more r words budget words' R e in
      rw f (better_no_worse (run (query r words)) (run (query (with_budget r budget) words')) both (λ n g. run_ended (with_budget r budget) words' n f g))

  abbrev Too : ℕ → Type 0
  Too n = NoWorse (told (unless n (run (query r words)))) (told (search (with_budget r budget) words'))

  pub no_worse : NoWorse (told (search r words)) (told (search (with_budget r budget) words'))
  unfolding search unless
  no_worse = go (search_refusal r words) refl
    where
      go : (n : ℕ) → search_refusal r words ≡ n → Too n
      go zero e = accepted e
      go (suc n) e = refused_no_worse (suc n) (told (search (with_budget r budget) words'))

pub more_is_no_worse : MoreIsNoWorse
more_is_no_worse = no_worse

-- for a caller of the code, whose contract says that what it answers is what the written search does
pub answers_no_worse : (r : Record) (words budget words' : ℕ) (a b : Answer) → Raised r words budget words' → a ≡ search r words → b ≡ search (with_budget r budget) words'
    → NoWorse (told a) (told b)
answers_no_worse r words budget words' a b R e f = rw (e, f) (no_worse r words budget words' R)

pub most_gains_all : MostGainsAll
most_gains_all r words f g = (no_worse r words 1_000_000 1_048_576 (record { budget_up = f; budget_most = omega arith; words_up = g; words_most = omega arith })).unchanged

pub same_first_checks : SameFirstChecks
same_first_checks r words budget words' R m k boxes c n w =
    subst (λ (q : Query). Comes q m k boxes c n) (asks r words budget words' R)
    (comes_too (query r words) budget (half words') R.budget_up (half_up words words' R.words_up) m k boxes c n w).comes

pub ruled_out_stays : RuledOutStays
ruled_out_stays r words budget words' R k box w =
    subst (λ (q : Query). WasDiscarded q k box) (asks r words budget words' R)
    (discarded_too (query r words) budget (half words') R.budget_up (half_up words words' R.words_up) k box w)
