-- What a record that is not refused is known to be.
--     accepted          of `record_refusal r ≡ 0`, as a writer and `fetch` give it
--     accepted_with     of the rows alone, with others behind them: also that there is room for the separations and for the cap
--     accepted_search   of `search_refusal r words ≡ 0`, as the search gives it
-- Assumes nothing.
use Rattle.std.specs.Prelude.{ℕ, suc, ◌≤◌, ◌≡◌, refl, Bool, true, false, not, ◌&&◌, ◌||◌, List, [], ◌∷◌, ◌++◌, ◌⊎◌, pos, nat_abs, get_or, drop, leb, eqb}
use Rattle.std.proofs.Math.Bool.{and-eq-true_iff}
use Rattle.std.proofs.Common.{inl, inr, leb-true, eqb-true}
use Rattle.std.proofs.Math.Logic.{⊎_map}
use Rattle.std.proofs.lemmas.Bool.{not-false}
use Rattle.rules.specs.declared.Record.{Record}
use Rattle.rules.specs.Numbers.{between, limits_by, limits_of, is_coordinate, is_separation, is_tolerance, is_budget, is_cap, is_queue}
use Rattle.rules.specs.Refusals.{Case, first, every, are_flags, are_separations, cases_with, record_refusal, search_refusal}
use Rattle.refusals.specs.Cases.{not_due}
use Rattle.refusals.specs.Every.{every_at}

pub record Accepted (r : Record) : Type 0 where
  pub kind : (r.kind ≡ 1) ⊎ (r.kind ≡ 2)
  pub flags : r.flags ≤ 1
  pub byte2 : r.byte2 ≡ 0
  pub byte3 : r.byte3 ≡ 0
  pub coordinate : (i : ℕ) → nat_abs (get_or r.points i (pos 0)) ≤ (limits_of r.edition).coordinate
  pub dx : r.dx ≤ 65536
  pub dy : r.dy ≤ 65536
  pub dz : r.dz ≤ 65536
  pub tolerance_least : (limits_of r.edition).tolerance ≤ r.tolerance
  pub tolerance_most : r.tolerance ≤ 1048576
  pub budget_least : 1 ≤ r.budget
  pub budget_most : r.budget ≤ 1000000
  pub cap : r.cap ≤ 1048576

pub record AcceptedSearch (r : Record) (words : ℕ) : Type 0 where
  pub query : Accepted r
  pub words_least : 2 ≤ words
  pub words_most : words ≤ 1048576

either : (a b : Bool) → (a || b) ≡ true → (a ≡ true) ⊎ (b ≡ true)
either true b e = inl refl
either false b e = inr e

in_range : (low high n : ℕ) → between low high n ≡ true → (low ≤ n) × (n ≤ high)
in_range low high n e =
    let h = (and-eq-true_iff (leb low n) (leb n high)).0 e in
    (leb-true low n h.0, leb-true n high h.1)

pub zero_in : (longer : Bool) → is_coordinate (limits_by longer) (pos 0) ≡ true
zero_in true = refl
zero_in false = refl

-- a row that is due where `ok` fails
peel : (n : ℕ) (ok : Bool) (cs : List Case) → first (record { number = suc n; due = not ok } ∷ cs) ≡ 0 → (ok ≡ true) × (first cs ≡ 0)
peel n ok cs e = let h = not_due n (not ok) cs e in (not-false ok h.0, h.1)

pub accepted_with : (room capRoom : Bool) (r : Record) (more : List Case) → first (cases_with room capRoom r ++ more) ≡ 0
    → Accepted r × (room ≡ true) × (capRoom ≡ true) × (first more ≡ 0)
accepted_with room capRoom r more e =
    let cs = cases_with room capRoom r ++ more in
    let one = peel 0 (eqb r.kind 1 || eqb r.kind 2) (drop 1 cs) e in
    let two = peel 1 (are_flags r) (drop 2 cs) one.1 in
    let three = peel 2 (every (is_coordinate (limits_of r.edition)) r.points) (drop 3 cs) two.1 in
    let four = peel 3 (room && are_separations r) (drop 4 cs) three.1 in
    let five = peel 4 (is_tolerance (limits_of r.edition) r.tolerance) (drop 5 cs) four.1 in
    let six = peel 5 (is_budget r.budget) (drop 6 cs) five.1 in
    let last = peel 21 (capRoom && is_cap r.cap) more six.1 in
    let kept = (and-eq-true_iff capRoom (is_cap r.cap)).0 last.0 in
    let flags = (and-eq-true_iff (leb r.flags 1 && eqb r.byte2 0) (eqb r.byte3 0)).0 two.0 in
    let flags2 = (and-eq-true_iff (leb r.flags 1) (eqb r.byte2 0)).0 flags.0 in
    let held = (and-eq-true_iff room (are_separations r)).0 four.0 in
    let z = (and-eq-true_iff (is_separation r.dx && is_separation r.dy) (is_separation r.dz)).0 held.1 in
    let y = (and-eq-true_iff (is_separation r.dx) (is_separation r.dy)).0 z.0 in (
      record {
        kind = ⊎_map (eqb-true r.kind 1) (eqb-true r.kind 2) (either (eqb r.kind 1) (eqb r.kind 2) one.0);
        flags = leb-true r.flags 1 flags2.0;
        byte2 = eqb-true r.byte2 0 flags2.1;
        byte3 = eqb-true r.byte3 0 flags.1;
        coordinate = λ i. leb-true _ (limits_of r.edition).coordinate (every_at (is_coordinate (limits_of r.edition)) r.points three.0 (zero_in (eqb r.edition 3)) i);
        dx = (in_range 0 65536 r.dx y.0).1;
        dy = (in_range 0 65536 r.dy y.1).1;
        dz = (in_range 0 65536 r.dz z.1).1;
        tolerance_least = (in_range (limits_of r.edition).tolerance 1048576 r.tolerance five.0).0;
        tolerance_most = (in_range (limits_of r.edition).tolerance 1048576 r.tolerance five.0).1;
        budget_least = (in_range 1 1000000 r.budget six.0).0;
        budget_most = (in_range 1 1000000 r.budget six.0).1;
        cap = (in_range 0 1048576 r.cap kept.1).1;
      },
      held.0,
      kept.0,
      last.1,
    )

pub accepted : (r : Record) → record_refusal r ≡ 0 → Accepted r
unfolding record_refusal
accepted r e = (accepted_with true true r [] e).0

pub accepted_search : (r : Record) (words : ℕ) → search_refusal r words ≡ 0 → AcceptedSearch r words
unfolding search_refusal
accepted_search r words e =
    let h = accepted_with true true r (record { number = 7; due = not (is_queue words) } ∷ []) e in
    let q = in_range 2 1048576 words (peel 6 (is_queue words) [] h.3).0 in
    record { query = h.0; words_least = q.0; words_most = q.1 }
