-- Level 0 alone: a record whose whole cube does not survive is clear, and one box was checked.
use Rattle.std.specs.Prelude.{◌≡◌, false, ℕ, eqb}
use Rattle.std.proofs.Common.{arith, ne_eqb}
use Rattle.rules.specs.declared.Record.{Record}
use Rattle.rules.specs.declared.Answer.TheVariants.{Clear}
use Rattle.rules.specs.Refusals.{search_refusal}
use Rattle.rules.specs.Search.{query, origin, survives, search, unless, run, levels, check, one_box, after_level}
use Rattle.refusals.specs.Accepted.{accepted_search}

pub search_clear : (r : Record) (words : ℕ) → search_refusal r words ≡ 0 → survives (query r words) origin origin ≡ false → search r words ≡ Clear 1
unfolding search unless run levels check one_box after_level
search_clear r words e f = let b : eqb 0 r.budget ≡ false = ne_eqb 0 r.budget (omega (arith, (accepted_search r words e).query.budget_least)) in rw (e, b, f)
