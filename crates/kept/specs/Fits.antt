-- Every number that the written search answers has 32 bits, and so can be told, and stand in an answer file.
--     excess_fits    the excess of a box of the search
--     search_held    the id and the answer of a record, as they stand in an answer file
-- Assumes nothing.
use Rattle.std.specs.Prelude.{ℕ, zero, suc, ◌≤◌, ◌<◌, ◌≡◌, refl, Bool, true, false}
use Rattle.std.proofs.Common.{ap, ◌∙◌, arith}
use Rattle.std.proofs.Math.Path.{subst}
use Rattle.rules.specs.declared.Record.{Record}
use Rattle.rules.specs.declared.Three.{Three}
use Rattle.rules.specs.declared.Corner.{Corner}
use Rattle.rules.specs.declared.Told.{Told}
use Rattle.rules.specs.declared.Answer.{Answer}
use Rattle.rules.specs.declared.Answer.TheVariants.{Met, Clear, Spent, Room, Floor, Refused}
use Rattle.rules.specs.Numbers.{limits_of}
use Rattle.rules.specs.Answers.{told}
use Rattle.rules.specs.Refusals.{search_refusal}
use Rattle.rules.specs.Search.{Query, query, excess, corner, run, unless, search}
use Rattle.rules.specs.AnswerFile.{is_refused}
use Rattle.kernel.specs.Ranges.{Shallow, InGrid}
use Rattle.gap.specs.Asked.{excess_is}
use Rattle.gap.specs.Bounds.{excess_most}
use Rattle.gap.specs.Grid.{in_parts_of, over_of}
use Rattle.gap.specs.Prepared.{pair_of, pair_prepared}
use Rattle.descent.proofs.Refusing.{own_most}
use Rattle.shift_log.specs.Entries.{Held}
use Rattle.shift_log.specs.Words.{Taken, taken}
use Rattle.promise.proofs.Levels.{Moment, Kept}
use Rattle.promise.proofs.Accepted.{accepted_kept}
use Rattle.promise.proofs.Log.{can_be_written}

-- ---- the excess
pub excess_fits : (r : Record) (words : ℕ) (k b : Three) → search_refusal r words ≡ 0 → Shallow (limits_of r.edition).deepest k → InGrid k b
    → excess (query r words) k b ≤ 3_221_225_472
excess_fits r words k b e shallow grid =
    let p = pair_of r words in
    let h = pair_prepared r words e in
    let deep = h.ranged.deepest in
    subst (λ (n : ℕ). n ≤ 3_221_225_472) (excess_is deep p k b shallow ∙ ap (λ (q : Query). excess q k b) h.asks)
    (excess_most (over_of h.ranged (record { is = refl; in_parts = in_parts_of deep shallow grid })))

module _ (r : Record) (words : ℕ) (e : search_refusal r words ≡ 0) where
  moment_fits : {t u v x : ℕ} → Moment (query r words) t u v x → x ≤ 3_221_225_472
  unfolding corner
  moment_fits m =
      let c = m.cornered in
      subst (λ (n : ℕ). n ≤ 3_221_225_472) (ap (λ (x : Corner). x.excess) c.is)
      (excess_fits r words c.depths c.index e (record { t = c.shallow.t; u = c.shallow.u; v = c.shallow.v }) c.grid)

  -- an answer's excess, and the number of one that is no refusal
  answer_fits : (a : Answer) → Kept (query r words) a → ((told a).excess ≤ 3_221_225_472) × ((told a).number ≤ 22)
  answer_fits (Met t u v x n) k = (moment_fits k.0, omega arith)
  answer_fits (Clear n) k = (omega arith, omega arith)
  answer_fits (Spent t u v x n) k = (moment_fits k, omega arith)
  answer_fits (Room t u v x n) k = (moment_fits k, omega arith)
  answer_fits (Floor t u v x n) k = (moment_fits k, omega arith)
  answer_fits (Refused n) k = absurd k

search_fits : (r : Record) (words : ℕ) → let a : Told = told (search r words) in (a.excess ≤ 3_221_225_472) × (a.number ≤ 22)
unfolding search unless
search_fits r words = go (search_refusal r words) refl
  where
    go : (n : ℕ) → search_refusal r words ≡ n → let a : Told = told (unless n (run (query r words))) in (a.excess ≤ 3_221_225_472) × (a.number ≤ 22)
    go zero e = answer_fits r words e (run (query r words)) (accepted_kept r words e)
    go (suc n) e = (omega arith, omega (arith, own_most r words))

-- ---- all eight numbers
count_fits : (a : Told) → Taken a → a.count ≤ 1_000_000
count_fits a h = go (is_refused a) refl
  where
    go : (b : Bool) → is_refused a ≡ b → a.count ≤ 1_000_000
    go true e = omega (arith, h.uncounted e)
    go false e = (h.counted e).1

pub search_held : (r : Record) (words : ℕ) → r.id < 4294967296 → Held (record { id = r.id; told = told (search r words) })
search_held r words i =
    let a = told (search r words) in
    let h = taken a (can_be_written r words) in
    let f = search_fits r words in
    record {
      id = i;
      word = omega (arith, h.word);
      t = omega (arith, h.t);
      u = omega (arith, h.u);
      v = omega (arith, h.v);
      excess = omega (arith, f.0);
      count = omega (arith, count_fits a h);
      number = omega (arith, f.1);
    }
