-- The loop over the levels: what is left to do gives the whole search's answer.
use mathlib.Core.Path.{◌≡◌, refl, sym, ap, ◌∙◌}
use mathlib.Core.List.{List, [], ◌∷◌}
use Prim.Native.Nat.{ℕ, zero, suc, ◌-◌}
use native.Mathlib.Omega.{arith}
use Rattle.std.proofs.lemmas.List.{take-replicate}
use lib.ListN.{length, get_or, take, replicate}
use Rattle.rules.specs.declared.Answer.{Answer}
use Rattle.rules.specs.declared.Answer.TheVariants.{Met, Clear, Spent, Room, Floor, Refused}
use Rattle.rules.specs.declared.Record.{Record}
use Rattle.rules.specs.Answers.{queue_after}
use Rattle.rules.specs.Refusals.{search_refusal}
use Rattle.rules.specs.Search.{origin, levels, run, unless, query, search}
use Rattle.kernel.specs.declared.Pair.{Pair}
use Rattle.kernel.specs.Kernel.{asked}
use Rattle.search.specs.declared.Level.{Level}
use Rattle.std.specs.declared.ops.ControlFlow.TheVariants.{Break, Continue}
use Rattle.search.specs.Levels.{Step, Answers, boxes, Fine, total, go_on, StepIs, Zeroed}

pub record Running (p : Pair) (n : ℕ) (queue : List ℕ) (l : Level) : Type 0 where
  pub fine : Fine p queue l
  pub len : length queue ≡ n
  pub answer : levels (61 - total l.depths) (asked p) l.depths (boxes queue l) l.corner l.count ≡ run (asked p)

-- ---- a queue of zeros

zeros_at : (n a : ℕ) → ◌≡◌ {A = ℕ} (get_or (replicate n 0) a 0) 0
zeros_at zero a = refl
zeros_at (suc n) zero = refl
zeros_at (suc n) (suc a) = zeros_at n a

module _ {p : Pair} {queue : List ℕ} (z : Zeroed p queue) where
  first : take 1 queue ≡ 0 ∷ []
  first = ap (take 1) z.zero ∙ take-replicate 1 (length queue) 0 (omega (arith, z.room, z.ranged.least_room))

  at_zero : (a : ℕ) → get_or queue a 0 ≡ 0
  at_zero a = ap (λ (l : List ℕ). get_or l a 0) z.zero ∙ zeros_at (length queue) a

  -- a word of zero is the whole cube
  pub running_none : Running p (length queue) queue (record { depths = origin; size = 1; used = 1; corner = record { t = 0; u = 0; v = 0; excess = 0 }; count = 0 })
  unfolding run
  running_none = record {
    fine = record {
      ranged = z.ranged;
      shallow = record { t = omega arith; u = omega arith; v = omega arith };
      size = omega arith;
      used = z.ranged.least_room;
      twice = omega (arith, z.room);
      within = omega arith;
      grid = rw first (record { grid = record { t = omega arith; u = omega arith; v = omega arith }; fits = omega arith }, tt);
      ascends = rw first (tt, tt);
      tidy = record { low = λ a h k. at_zero a; high = λ a h. at_zero a };
    };
    len = refl;
    answer = rw first;
  }

-- ---- a step

module _ {p : Pair} {n : ℕ} {queue : List ℕ} {l : Level} (r : Running p n queue l) where
  fuel : 61 - total l.depths ≡ suc (60 - total l.depths)
  fuel = omega (arith, r.fine.ranged.deepest, r.fine.shallow.t, r.fine.shallow.u, r.fine.shallow.v)

  stepped : {q₂ : List ℕ} (s : Step Level) → StepIs p l queue q₂ s → go_on (levels (60 - total l.depths) (asked p)) q₂ s ≡ run (asked p)
  unfolding levels
  stepped s x = sym (x.says (levels (60 - total l.depths) (asked p))) ∙ rw fuel at r.answer

  pub running_ends : {q₂ : List ℕ} {a : Answer} → StepIs p l queue q₂ (Break a) → a ≡ run (asked p)
  running_ends {a = a} x = stepped (Break a) x

  pub running_goes : {q₂ : List ℕ} {next : Level} → StepIs p l queue q₂ (Continue next) → length q₂ ≡ n → Running p n q₂ next
  running_goes {next = next} x len =
      let e : 61 - total next.depths ≡ 60 - total l.depths = omega (arith, x.after.total) in
      record { fine = x.after.fine; len = len; answer = rw e (stepped (Continue next) x) }

-- ---- refusals, and the queue after an answer

pub refused : (n : ℕ) (a : Answer) → (n ≡ 0 → ⊥) → unless n a ≡ Refused n
unfolding unless
refused zero a h = absurd (h refl)
refused (suc n) a h = refl

pub accepted : (n : ℕ) (a : Answer) → n ≡ 0 → unless n a ≡ a
unfolding unless
accepted n a e = rw e

pub after_answer : (a : Answer) → Answers a → (queue : List ℕ) → queue_after a queue ≡ replicate (length queue) 0
unfolding queue_after
after_answer (Met t u v excess count) h queue = refl
after_answer (Clear count) h queue = refl
after_answer (Spent t u v excess count) h queue = refl
after_answer (Room t u v excess count) h queue = refl
after_answer (Floor t u v excess count) h queue = refl
after_answer (Refused number) h queue = absurd h

module _ (r : Record) (words n : ℕ) (e : n ≡ search_refusal r words) where
  pub search_refused : (n ≡ 0 → ⊥) → Refused n ≡ search r words
  unfolding search
  search_refused h = rw (← e) (sym (refused n (run (query r words)) h))

  pub search_run : n ≡ 0 → search r words ≡ run (query r words)
  unfolding search
  search_run h = rw (← e) (accepted n (run (query r words)) h)

-- a refused search leaves the queue as it was
pub after_refusal : (r : Record) (words n : ℕ) (queue : List ℕ) → Refused n ≡ search r words → queue ≡ queue_after (search r words) queue
unfolding queue_after
after_refusal r words n queue e = rw (← e)
