-- A writer's answer as a number. Assumes nothing.
use Rattle.std.specs.Prelude.{ℕ, zero, suc, ◌≡◌, refl, List, Result}
use Rattle.std.proofs.Common.{sym, ap, ◌∙◌}
use Rattle.rules.specs.declared.Refusal.{Refusal}
use Rattle.rules.specs.declared.Fetched.{Fetched}
use Rattle.rules.specs.declared.Record.{Record}
use Rattle.rules.specs.QueryFile.{fetched, record_bytes, write_refusal, put_unless, Written}
use Rattle.rules.specs.Refusals.{refusal_in, or_else}
use Rattle.queries.specs.Writing.{Puts}
use Rattle.controller.specs.Copying.{copy_refusal, Copied}

pub puts : {refusal at number : ℕ} {bytes out out' : List ℕ} {answer : Result (Unit {0}) Refusal}
    → Written refusal out at bytes out' answer → number ≡ refusal_in answer
    → Puts refusal bytes out at out' number
puts {at = at} {bytes = bytes} {out = out} p e =
    let n = e ∙ p.says in
    record { says = n; leaves = p.leaves ∙ ap (λ (k : ℕ). put_unless k out at bytes) (sym n) }

module _ (file : List ℕ) (n edition : ℕ) (out : List ℕ) (at : ℕ) {f : Fetched} (e : f ≡ fetched file n) where
  pub not_fetched : (f.refusal ≡ 0 → ⊥) → Copied file n edition out at out f.refusal
  unfolding copy_refusal put_unless
  not_fetched h = stays f.refusal (ap (λ (x : Fetched). x.refusal) e) h
    where
      stays : (k : ℕ) → k ≡ (fetched file n).refusal → (k ≡ 0 → ⊥) → Copied file n edition out at out k
      stays zero g h = absurd (h refl)
      stays (suc k) g h = record { says = ap (λ (m : ℕ). or_else m (write_refusal edition out at (fetched file n).query)) g; leaves = refl }

  pub copied : {out' : List ℕ} {answer : Result (Unit {0}) Refusal} {number : ℕ}
      → f.refusal ≡ 0 → Written (write_refusal edition out at f.query) out at (record_bytes edition f.query) out' answer → number ≡ refusal_in answer
      → Copied file n edition out at out' number
  unfolding copy_refusal
  copied {number = number} z p d =
      let q : f.query ≡ (fetched file n).query = ap (λ (x : Fetched). x.query) e in
      let r : 0 ≡ (fetched file n).refusal = sym z ∙ ap (λ (x : Fetched). x.refusal) e in
      let s = puts p d in
      record {
        says = s.says ∙ ap (λ (x : Record). write_refusal edition out at x) q ∙ ap (λ (m : ℕ). or_else m (write_refusal edition out at (fetched file n).query)) r;
        leaves = s.leaves ∙ ap (λ (x : Record). put_unless number out at (record_bytes edition x)) q;
      }
