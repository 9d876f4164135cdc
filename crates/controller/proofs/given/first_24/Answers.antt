use Prim.Native.Nat.{ℕ, ◌+◌, ◌<◌}
use mathlib.Core.Path.{◌≡◌, refl, sym, ap, ◌∙◌, subst}
use mathlib.Core.List.{List, [], ◌∷◌, ◌++◌}
use native.Mathlib.Omega.{arith}
use native.Mathlib.Numerals.{add-one}
use lib.IntN.{ℤ, pos}
use lib.ListN.{length, take, set, get_or, length-set}
use lib.Seq.{take-suc, take-suc-set, take-length}
use mir.Facts.{to_z-of_z}
use mir.Syntax.{w32}
use mir.Val.{SFits, to_z, of_z}
use borrow.Author.Rules.{sfits_of}
use Rattle.queries.specs.Coordinates.{Each}
use Rattle.controller.proofs.given.first_24.Goals as goal

-- `controller::given::first_24` meets its contract: the first i are those that were lent. Assumes nothing.
each_more : (zs : List ℤ) (z : ℤ) → Each zs → SFits w32 z → Each (zs ++ (z ∷ []))
each_more [] z h f = (f, tt)
each_more (x ∷ zs) z h f = (h.0, each_more zs z h.1 f)

-- one number more, as it is read
module _ (p numbers : List ℤ) (i : ℕ) (same : take i p ≡ take i numbers) (each : Each (take i numbers)) (f : SFits w32 (get_or numbers i (pos 0))) where
  next : i < length numbers → take (i + 1) numbers ≡ take i numbers ++ (get_or numbers i (pos 0) ∷ [])
  next h = ap (λ (n : ℕ). take n numbers) (add-one i) ∙ take-suc numbers i (pos 0) h

  more : i < length p → i < length numbers → take (i + 1) (set p i (to_z w32 (of_z w32 (get_or numbers i (pos 0))))) ≡ take (i + 1) numbers
  more h k =
      ap (λ (n : ℕ). take n (set p i (to_z w32 (of_z w32 (get_or numbers i (pos 0)))))) (add-one i)
      ∙ take-suc-set p i _ h
      ∙ ap (λ (z : ℤ). take i p ++ (z ∷ [])) (to_z-of_z f)
      ∙ ap (λ (l : List ℤ). l ++ (get_or numbers i (pos 0) ∷ [])) same
      ∙ sym (next k)

  each_next : i < length numbers → Each (take (i + 1) numbers)
  each_next k = subst Each (sym (next k)) (each_more (take i numbers) (get_or numbers i (pos 0)) each f)

pub loop-i-init : goal.loop-i-init
loop-i-init c = record { long = refl; same = refl; each = tt }

pub loop-i-preserved : goal.loop-i-preserved
loop-i-preserved c =
    let f = sfits_of c.p-1.given in
    record {
      long = simp length-set c.loop-i.invariant.long;
      same = more c.loop-i.p c.args.numbers.now c.loop-i.i c.loop-i.invariant.same c.loop-i.invariant.each f (omega arith) (omega arith);
      each = each_next c.loop-i.p c.args.numbers.now c.loop-i.i c.loop-i.invariant.same c.loop-i.invariant.each f (omega arith);
    }

pub returns : goal.returns
returns c =
    let e : 24 ≡ c.loop-i.i = omega arith in
    let n : c.loop-i.i ≡ length c.loop-i.p = omega arith in
    let same : c.loop-i.p ≡ take 24 c.args.numbers.now =
    sym (ap (λ (k : ℕ). take k c.loop-i.p) n ∙ take-length c.loop-i.p) ∙ c.loop-i.invariant.same ∙ ap (λ (k : ℕ). take k c.args.numbers.now) (sym e) in
    record {
      value = same;
      each = subst Each (sym same) (subst (λ (k : ℕ). Each (take k c.args.numbers.now)) (sym e) c.loop-i.invariant.each);
    }
