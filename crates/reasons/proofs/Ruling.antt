-- The ways out of `file_ruling`: what fetching refuses, what refuses the question before the search, 14, and the answer of the search; and the queue after each.
use mathlib.Core.Path.{◌≡◌, refl, sym, ap, ◌∙◌}
use mathlib.Core.Bool.{Bool, true, false, not, cond}
use mathlib.Core.List.{List, [], ◌∷◌, ◌++◌}
use Prim.Native.Nat.{ℕ, zero, suc, ◌≤◌}
use native.Mathlib.Omega.{arith}
use lib.Dec.{leb}
use lib.ListN.{length, replicate}
use borrow.Author.Tests.{ne_eqb}
use Rattle.rules.specs.declared.Record.{Record}
use Rattle.rules.specs.declared.Three.{Three}
use Rattle.rules.specs.declared.Ruling.{Ruling}
use Rattle.rules.specs.declared.Reason.{Reason}
use Rattle.rules.specs.declared.Ruling.TheVariants.{Discarded, Refused}
use Rattle.rules.specs.Refusals.{first, or_else, record_cases, record_refusal, search_refusal}
use Rattle.rules.specs.QueryFile.{record_at, edition_of, place_of, file_form, index, open_cases, reach_refusal, fetch_unless, fetched, put, put_unless}
use Rattle.rules.specs.Search.{search}
use Rattle.rules.specs.Why.{in_domain, is_before, ask_refusal, why_refusal, unless_why, why_search, why_queue_after, nine, told_why}
use Rattle.descent.proofs.Refusing.{first_most, few, cleared}
use Rattle.little.specs.Put.{put_nil}
use Rattle.reasons.specs.Telling.{asked, file_refusal, file_ruling, Rules, TellsWhy}
use Rattle.reasons.specs.Laws.{refused_with, named_why}

-- ---- fetching gives 1 to 13 and 22
own_few : (r : Record) → record_refusal r ≤ 22
unfolding record_refusal
own_few r = first_most 22 (record_cases r) (omega arith, (omega arith, (omega arith, (omega arith, (omega arith, (omega arith, (omega arith, tt)))))))

reach_few : (file : List ℕ) (n : ℕ) → reach_refusal (file_form file) file n ≤ 22
unfolding reach_refusal
reach_few file n =
    first_most 22 (open_cases (file_form file) file ++ (index file n ∷ []))
    (omega arith, (omega arith, (omega arith, (omega arith, (omega arith, (omega arith, tt))))))

fetched_few : (file : List ℕ) (n : ℕ) → (fetched file n).refusal ≤ 22
unfolding fetched fetch_unless
fetched_few file n = go (reach_refusal (file_form file) file n) (reach_few file n)
  where
    go : (k : ℕ) → k ≤ 22 → (fetch_unless k (record_at (edition_of file) file (place_of file n))).refusal ≤ 22
    go zero h = own_few (record_at (edition_of file) file (place_of file n))
    go (suc k) h = h

-- ---- a refusal before the search
module _ (file : List ℕ) (n : ℕ) (at : Three) (room : Bool) (queue : List ℕ) where
  abbrev words : ℕ
  words = length queue

  abbrev due : ℕ
  due = file_refusal file n at room words

  refuses : (k : ℕ) → due ≡ k → (k ≡ 0 → ⊥) → k ≤ 23 → Rules file n at room queue queue (Refused k)
  unfolding file_ruling unless_why why_queue_after
  refuses zero e h l = absurd (h refl)
  refuses (suc k) e h l =
      record {
        says = rw e;
        left = rw (e, ne_eqb (suc k) 0 h, ne_eqb (suc k) 24 (λ z. omega arith));
      }

  pub not_fetched : (k : ℕ) → k ≡ (fetched file n).refusal → (k ≡ 0 → ⊥) → Rules file n at room queue queue (Refused k)
  unfolding file_refusal
  not_fetched zero e h = absurd (h refl)
  not_fetched (suc k) e h = refuses (suc k) (rw (sym e)) h (omega (arith, fetched_few file n))

  module _ (e : (fetched file n).refusal ≡ 0) where
    abbrev r : Record
    r = asked file n

    -- behind fetching's: what refuses the question before the search, then 14, then 24
    ask_first : due ≡ or_else (ask_refusal r words at) (cond (not room) 14 (why_refusal r words at))
    unfolding file_refusal ask_refusal why_refusal first
    ask_first = rw e (go (search_refusal r words) (in_domain r at) (is_before (search r words) at.t))
      where
        go : (k : ℕ) (x y : Bool)
            → or_else k (cond (not x) 23 (cond (not room) 14 (cond (not y) 24 0)))
            ≡ or_else (or_else k (cond (not x) 23 0)) (cond (not room) 14 (or_else k (cond (not x) 23 (cond (not y) 24 0))))
        go zero true y = refl
        go zero false y = refl
        go (suc k) x y = refl

    pub not_asked : (k : ℕ) → k ≡ ask_refusal r words at → (k ≡ 0 → ⊥) → Rules file n at room queue queue (Refused k)
    not_asked zero f h = absurd (h refl)
    not_asked (suc k) f h = refuses (suc k) (ask_first ∙ rw (sym f)) h (few r words at (suc k) f h)

    module _ (none : ask_refusal r words at ≡ 0) where
      pub no_room : room ≡ false → Rules file n at room queue queue (Refused 14)
      no_room f = refuses 14 (ask_first ∙ rw (none, f)) (λ z. omega arith) (omega arith)

      pub ruled : {a : Ruling} {queue' : List ℕ} → room ≡ true → a ≡ why_search r words at → queue' ≡ replicate words 0 → Rules file n at room queue queue' a
      unfolding file_ruling why_search
      ruled f p q =
          let same : due ≡ why_refusal r words at = ask_first ∙ rw (none, f) in
          record { says = rw same p; left = rw same (q ∙ cleared r words at none queue) }

-- ---- and told
module _ (file : List ℕ) (n : ℕ) (at : Three) (queue queue' out : List ℕ) {a : Ruling} (w : Rules file n at (leb 9 (length out)) queue queue' a) where
  pub tells_refused : (k : ℕ) → a ≡ Refused k → TellsWhy file n at queue queue' out out k
  unfolding put_unless
  tells_refused k e =
      let is = sym w.says ∙ e in
      let due = refused_with file n at (leb 9 (length out)) (length queue) k is in
      record { says = due; told = none k is; left = w.left ∙ ap (λ (m : ℕ). why_queue_after m queue) (sym due) }
    where
      none : (k : ℕ) → file_ruling file n at (leb 9 (length out)) (length queue) ≡ Refused k → out ≡ put_unless k out 0 (told_why (file_ruling file n at (leb 9 (length out)) (length queue)))
      none zero is = sym (put_nil out 0) ∙ ap (λ (b : Ruling). put out 0 (told_why b)) (sym is)
      none (suc k) is = refl

  pub tells_named : {out' : List ℕ} (x : Reason) → a ≡ Discarded x → out' ≡ put out 0 (nine x) → TellsWhy file n at queue queue' out out' 0
  unfolding put_unless
  tells_named x e p =
      let is = sym w.says ∙ e in
      let due = (named_why file n at (leb 9 (length out)) (length queue) x is).0 in
      record { says = due; told = p ∙ ap (λ (b : Ruling). put out 0 (told_why b)) (sym is); left = w.left ∙ ap (λ (m : ℕ). why_queue_after m queue) (sym due) }
