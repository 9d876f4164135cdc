-- Demand 3: what specs/Promise.antt states, proved of the written search of every record with every number of words.
use mathlib.Core.Path.{◌≡◌, refl, sym, ap, ◌∙◌, subst}
use Prim.Native.Nat.{ℕ, zero, suc, ◌*◌, ◌≤◌, ◌<◌}
use native.Mathlib.Nat.{le_trans, le_of_lt, mul-le-mul_right, le_of_mul-le-mul_right}
use native.Mathlib.Omega.{arith}
use mathlib.Core.Bool.{Bool, true, false, not}
use lib.Dec.{T, leb, leb→le, nleb→lt}
use Rattle.rules.specs.declared.Record.{Record}
use Rattle.rules.specs.declared.Answer.{Answer}
use Rattle.rules.specs.declared.Answer.TheVariants.{Met, Clear, Spent, Room, Floor, Refused}
use Rattle.rules.specs.Numbers.{limits_of, parts, half, last_moment}
use Rattle.rules.specs.declared.Axis.{Axis}
use Rattle.rules.specs.declared.Axis.TheVariants.{X, Y, Z}
use Rattle.rules.specs.Gap.{Place, OnBodies, gap_on, is_vertex_face, separation_on, sided}
use Rattle.rules.specs.Answers.{told}
use Rattle.rules.specs.Refusals.{first, search_refusal}
use Rattle.rules.specs.Search.{side, query, run, unless, search}
use Rattle.rules.specs.Bodies.{capped}
use Rattle.promise.specs.Promise.{ClearIsClear, NoEarlier, ByAMargin, There, NotBeyond, WithinTolerance, InSides, OnTheGrid, UpToCap, Promised, Demand3, Even, EvenInEdition3, RefusedExactly, WholeStep}
use Rattle.promise.proofs.Survive.{Close, touch_close}
use Rattle.promise.proofs.Domain.{in_domain_lem, on_bodies}
use Rattle.promise.proofs.Levels.{Moment, Kept}
use Rattle.promise.proofs.Accepted.{accepted_kept, run_ended}

-- ---- of one record
module _ (r : Record) (words : ℕ) where
  -- what is not told is 0
  untold : OnTheGrid r (told (Clear 0))
  untold = ((0, omega arith), ((0, omega arith), (0, omega arith)))

  -- a word that answers a moment
  moment_promised : (word t u v excess count : ℕ)
      → (word ≡ 2 → ⊥)
      → (word ≡ 1 → excess ≤ r.tolerance)
      → Moment (query r words) t u v excess
      → Promised r (record { word = word; t = t; u = u; v = v; excess = excess; count = count; number = 0 })
  moment_promised word t u v excess count not-clear met M =
      record {
        clear_is_clear = λ e. absurd (not-clear e);
        no_earlier = λ _ m b touch. earlier m b (touch_close (query r words) m b.positive touch);
        by_a_margin = λ m b close. (λ e. absurd (not-clear e), λ _. earlier m b close);
        there = λ _. (on_bodies r words M.domain, M.size);
        not_beyond = λ _. not_late;
        within_tolerance = met;
        on_the_grid = M.sides;
      }
    where
      last : ℕ
      last = last_moment r.cap

      not_late : t ≤ last
      not_late = le_of_mul-le-mul_right M.domain.until (omega arith)

      -- up to the cap nothing comes earlier, and what comes after the cap comes after the answered moment
      earlier : (m : Place) → OnBodies r m → Close (query r words) m → t * m.q ≤ m.a * parts
      earlier m b close = go (leb (m.a * parts) (last * m.q)) (λ x. leb→le _ _ x) (λ x. le_of_lt (nleb→lt _ _ x))
        where
          go : (c : Bool) → (T c → UpToCap r m) → (T (not c) → last * m.q ≤ m.a * parts) → t * m.q ≤ m.a * parts
          go true f g = M.no_earlier m (in_domain_lem r words b (f tt)) close
          go false f g = le_trans (mul-le-mul_right m.q not_late) (g tt)

  kept_promised : (a : Answer) → Kept (query r words) a → Promised r (told a)
  kept_promised (Met t u v excess n) k = moment_promised 1 t u v excess n (λ e. omega arith) (λ e. k.1) k.0
  kept_promised (Clear n) k =
      record {
        clear_is_clear = λ e m b h touch. k m (in_domain_lem r words b h) (touch_close (query r words) m b.positive touch);
        no_earlier = λ t. absurd t;
        by_a_margin = λ m b close. (λ e h. k m (in_domain_lem r words b h) close, λ t. absurd t);
        there = λ t. absurd t;
        not_beyond = λ t. absurd t;
        within_tolerance = λ e. absurd (omega arith);
        on_the_grid = untold;
      }
  kept_promised (Spent t u v excess n) k = moment_promised 3 t u v excess n (λ e. omega arith) (λ e. absurd (omega arith)) k
  kept_promised (Room t u v excess n) k = moment_promised 4 t u v excess n (λ e. omega arith) (λ e. absurd (omega arith)) k
  kept_promised (Floor t u v excess n) k = moment_promised 5 t u v excess n (λ e. omega arith) (λ e. absurd (omega arith)) k
  kept_promised (Refused n) k = absurd k

  -- a refusal promises nothing
  refusal_promised : (n : ℕ) → Promised r (told (Refused n))
  refusal_promised n =
      record {
        clear_is_clear = λ e. absurd (omega arith);
        no_earlier = λ t. absurd t;
        by_a_margin = λ m b close. (λ e. absurd (omega arith), λ t. absurd t);
        there = λ t. absurd t;
        not_beyond = λ t. absurd t;
        within_tolerance = λ e. absurd (omega arith);
        on_the_grid = untold;
      }

-- ---- demand 3
pub demand_3 : Demand3
unfolding search unless
demand_3 r words = go (search_refusal r words) refl
  where
    go : (n : ℕ) → search_refusal r words ≡ n → Promised r (told (unless n (run (query r words))))
    go zero e = kept_promised r words (run (query r words)) (accepted_kept r words e)
    go (suc n) e = refusal_promised r words (suc n)

-- for a caller of the code, whose contract says that what it answers is what the written search does
pub answer_promised : (r : Record) (words : ℕ) (a : Answer) → a ≡ search r words → Promised r (told a)
answer_promised r words a e = subst (λ x. Promised r (told x)) (sym e) (demand_3 r words)

-- the finest side of edition 3 is two parts
pub even_in_edition_3 : EvenInEdition3
even_in_edition_3 r words e = let g = (demand_3 r words).on_the_grid in (twos g.0, (twos g.1.0, twos g.1.1))
  where
    twos : {n : ℕ} → InSides r n → Even n
    twos {n} (m, f) = (m, f ∙ ap (λ (edition : ℕ). m * side (limits_of edition).deepest) e)

-- ---- each by itself, of any such answer
module _ (r : Record) (words : ℕ) (a : Answer) (e : a ≡ search r words) where
  pub clear_is_clear : ClearIsClear r (told a)
  clear_is_clear = (answer_promised r words a e).clear_is_clear

  pub no_earlier : NoEarlier r (told a)
  no_earlier = (answer_promised r words a e).no_earlier

  pub by_a_margin : ByAMargin r (told a)
  by_a_margin = (answer_promised r words a e).by_a_margin

  pub there : There r (told a)
  there = (answer_promised r words a e).there

  pub not_beyond : NotBeyond r (told a)
  not_beyond = (answer_promised r words a e).not_beyond

  pub within_tolerance : WithinTolerance r (told a)
  within_tolerance = (answer_promised r words a e).within_tolerance

  pub on_the_grid : OnTheGrid r (told a)
  on_the_grid = (answer_promised r words a e).on_the_grid

-- ---- refusals
pub refused_exactly : RefusedExactly
unfolding search unless
refused_exactly r words n = (λ e. there (search_refusal r words) refl e, λ p. ap (λ (k : ℕ). unless k (run (query r words))) p.1 ∙ back n p.0)
  where
    there : (k : ℕ) → search_refusal r words ≡ k → unless k (run (query r words)) ≡ Refused n → (0 < n) × (search_refusal r words ≡ n)
    there zero e f = absurd (run_ended r words n e f)
    there (suc k) e f =
        let g : suc k ≡ n = cc in
        (omega arith, e ∙ g)

    back : (k : ℕ) → 0 < k → unless k (run (query r words)) ≡ Refused k
    back zero h = absurd (omega arith)
    back (suc k) h = refl

-- ---- caps: both are the same question
same_separation : (r : Record) (axis : Axis) → separation_on (capped 0 r) axis ≡ separation_on (capped parts r) axis
unfolding capped
same_separation r X = refl
same_separation r Y = refl
same_separation r Z = refl

same_query : (r : Record) (words : ℕ) → query (capped 0 r) words ≡ query (capped parts r) words
unfolding capped sided
same_query r words =
    λ i. record {
      gap = gap_on (is_vertex_face r) (sided r);
      is_face = is_vertex_face r;
      separation = λ axis. same_separation r axis i;
      tolerance = r.tolerance;
      budget = r.budget;
      room = half words;
      deepest = (limits_of r.edition).deepest;
      last = parts;
    }

same_refusal : (r : Record) (words : ℕ) → search_refusal (capped 0 r) words ≡ search_refusal (capped parts r) words
unfolding capped search_refusal first
same_refusal r words = refl

pub whole_step : WholeStep
unfolding search
whole_step r words = λ i. unless (same_refusal r words i) (run (same_query r words i))
