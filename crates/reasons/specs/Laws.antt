-- Laws of what is answered and told of a record of a query file and a point.
--     refused_with    a refusal carries the number that is due
--     named_why       where a box is named nothing is due, and it is the box that the record's own search names
--     has_room        and there was room to tell it
--     on_grid         a box that is named is one of the grid
--     told_kept       what is told keeps the promises of promise/specs/Why.antt
--     rules_once      no second answer or queue fits what `rule` promises
--     tells_once      no second number, told numbers or queue fit what `tell` promises
-- Assumes nothing.
use Prim.Native.Nat.{ℕ, zero, suc}
use Rattle.std.proofs.Math.Path.{◌≡◌, refl, sym}
use Rattle.std.proofs.Common.{ap, ◌∙◌, subst, arith}
use Rattle.std.specs.Prelude.{Bool, not, cond, List, leb, length}
use Rattle.std.proofs.Math.Bool.{true, false}
use Rattle.rules.specs.declared.Record.{Record}
use Rattle.rules.specs.declared.Three.{Three}
use Rattle.rules.specs.declared.Reason.{Reason}
use Rattle.rules.specs.declared.Ruling.{Ruling}
use Rattle.rules.specs.declared.Ruling.TheVariants.{Discarded, Refused}
use Rattle.rules.specs.Refusals.{first, or_else, search_refusal}
use Rattle.rules.specs.QueryFile.{fetched, put, put_unless}
use Rattle.rules.specs.Search.{query, search}
use Rattle.rules.specs.Why.{in_domain, is_before, from_whole, why_refusal, unless_why, why_search, nine, told_why}
use Rattle.kernel.specs.Ranges.{OnGrid}
use Rattle.promise.specs.Why.{Holds, Named, First}
use Rattle.promise.proofs.Why.Promised.{names_discarded, names_the_first, has_box}
use Rattle.reasons.specs.Telling.{asked, file_refusal, file_ruling, TellsWhy, Rules}

module _ (file : List ℕ) (n : ℕ) (at : Three) (room : Bool) (words : ℕ) where
  abbrev r : Record
  r = asked file n

  -- ---- nothing is due
  none_due : file_refusal file n at room words ≡ 0 → why_refusal r words at ≡ 0
  unfolding file_refusal why_refusal first
  none_due e = go (fetched file n).refusal (search_refusal r words) (in_domain r at) room (is_before (search r words) at.t) e
    where
      go : (f k : ℕ) (x room y : Bool)
          → or_else f (or_else k (cond (not x) 23 (cond (not room) 14 (cond (not y) 24 0)))) ≡ 0
          → or_else k (cond (not x) 23 (cond (not y) 24 0)) ≡ 0
      go (suc f) k x room y e = absurd (omega arith)
      go zero (suc k) x room y e = e
      go zero zero false room y e = e
      go zero zero true false y e = absurd (omega arith)
      go zero zero true true y e = e

  pub has_room : 0 ≡ file_refusal file n at room words → room ≡ true
  unfolding file_refusal first
  has_room e = go (fetched file n).refusal (search_refusal r words) (in_domain r at) room (is_before (search r words) at.t) e
    where
      go : (f k : ℕ) (x room y : Bool) → 0 ≡ or_else f (or_else k (cond (not x) 23 (cond (not room) 14 (cond (not y) 24 0)))) → room ≡ true
      go (suc f) k x room y e = absurd (omega arith)
      go zero (suc k) x room y e = absurd (omega arith)
      go zero zero false room y e = absurd (omega arith)
      go zero zero true false y e = absurd (omega arith)
      go zero zero true true y e = refl

  its_own : file_refusal file n at room words ≡ 0 → file_ruling file n at room words ≡ why_search r words at
  unfolding file_ruling why_search
  its_own e = rw (e, none_due e)

  ruling_is : (k : ℕ) → file_refusal file n at room words ≡ k → file_ruling file n at room words ≡ unless_why k (from_whole r words at)
  unfolding file_ruling
  ruling_is k e = rw e

  pub refused_with : (k : ℕ) → file_ruling file n at room words ≡ Refused k → k ≡ file_refusal file n at room words
  unfolding unless_why
  refused_with k e = go (file_refusal file n at room words) refl
    where
      go : (m : ℕ) → file_refusal file n at room words ≡ m → k ≡ file_refusal file n at room words
      go (suc m) f = let g = ruling_is (suc m) f in let h : k ≡ suc m = cc in h ∙ sym f
      go zero f =
          let box = has_box r words at (none_due f) in
          let g = its_own f ∙ box.1 in
          let z : ◌≡◌ {A = ℕ} 0 1 = cc in
          absurd (omega arith)

  -- ---- a box is named
  pub named_why : (x : Reason) → file_ruling file n at room words ≡ Discarded x → (0 ≡ file_refusal file n at room words) × (why_search r words at ≡ Discarded x)
  unfolding unless_why
  named_why x e = go (file_refusal file n at room words) refl
    where
      go : (m : ℕ) → file_refusal file n at room words ≡ m → (0 ≡ file_refusal file n at room words) × (why_search r words at ≡ Discarded x)
      go zero f = (sym f, sym (its_own f) ∙ e)
      go (suc m) f = let g = ruling_is (suc m) f in let z : ◌≡◌ {A = ℕ} 0 1 = cc in absurd (omega arith)

  pub on_grid : (x : Reason) → file_ruling file n at room words ≡ Discarded x → OnGrid x
  on_grid x e =
      record {
        level = omega (arith, f.level, h.t.depth, h.u.depth, h.v.depth);
        depths = record { t = h.t.depth; u = h.u.depth; v = h.v.depth };
        index = record { t = h.t.grid; u = h.u.grid; v = h.v.grid };
      }
    where
      f : First (query r words) at x
      f = names_the_first r words at x (named_why x e).1

      h : Holds at (record { depths = x.depths; index = x.index })
      h = subst (Holds at) f.on_the_way (f.held x.level (omega arith))

-- ---- what is told
pub told_kept : (file : List ℕ) (n : ℕ) (at : Three) (queue queue' out out' : List ℕ) → TellsWhy file n at queue queue' out out' 0
    → (x : Reason) × (out' ≡ put out 0 (nine x)) × Named (query (asked file n) (length queue)) at x × First (query (asked file n) (length queue)) at x
unfolding put_unless
told_kept file n at queue queue' out out' w =
    let words = length queue in
    let none = sym w.says in
    let box = has_box (asked file n) words at (none_due file n at (leb 9 (length out)) words none) in
    let is = its_own file n at (leb 9 (length out)) words none ∙ box.1 in
    (box.0, w.told ∙ ap (λ (a : Ruling). put out 0 (told_why a)) is, names_discarded (asked file n) words at box.0 box.1, names_the_first (asked file n) words at box.0 box.1)

pub rules_once : {file : List ℕ} {n : ℕ} {at : Three} {room : Bool} {queue queue' queue'' : List ℕ} {answer answer' : Ruling}
    → Rules file n at room queue queue' answer
    → Rules file n at room queue queue'' answer'
    → (answer ≡ answer') × (queue' ≡ queue'')
rules_once v w = (cc, cc)

pub tells_once : {file : List ℕ} {n : ℕ} {at : Three} {queue queue' queue'' out out' out'' : List ℕ} {number number' : ℕ}
    → TellsWhy file n at queue queue' out out' number
    → TellsWhy file n at queue queue'' out out'' number'
    → (number ≡ number') × (out' ≡ out'') × (queue' ≡ queue'')
tells_once v w = (cc, cc, cc)
