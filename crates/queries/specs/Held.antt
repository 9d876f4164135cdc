-- Records that a program holds, and so can be written as one of an edition and read back (RoundTrip.antt).
--     Held         what every `Record` of a program is, each field fitting its type, that an edition's record can say: a narrow one has one separation
--     held         so is a record that is accepted, with an id of 32 bits and 24 coordinates; `narrow` where it is one that a writer does not refuse
--     as_one       so is a held one, taken as one of another edition
--     read_held    so is one that stands in bytes
-- All of any edition, by whether its record is wide. Assumes nothing.
use Rattle.std.specs.Prelude.{ℕ, suc, ◌+◌, ◌≤◌, ◌<◌, ◌≡◌, refl, Bool, true, false, not, ◌&&◌, ◌||◌, List, [], ◌∷◌, eqb, ℤ, pos, negsuc, nat_abs, length, get_or}
use Rattle.std.proofs.Common.{sym, ◌∙◌, ⊎_elim, le_trans, arith, eqb-true, lit≤, SFits}
use Rattle.std.proofs.Math.Bool.{and-eq-true_iff}
use Rattle.std.specs.Int.{w32}
use Rattle.rules.specs.declared.Record.{Record}
use Rattle.rules.specs.Numbers.{limits_by}
use Rattle.rules.specs.QueryFile.{is_wide, record_by, in_edition}
use Rattle.refusals.specs.Accepted.{Accepted}
use Rattle.little.specs.Word.{Bytes, word_lt}
use Rattle.queries.specs.Coordinates.{Each, each_read}
use Rattle.queries.specs.Writing.{WriteRoom}

-- ---- records that a program holds

-- what an edition 1 record can say: three equal separations, and no cap
pub record Narrow (r : Record) : Type 0 where
  pub dy : r.dx ≡ r.dy
  pub dz : r.dx ≡ r.dz
  pub cap : 0 ≡ r.cap

-- each field fits its type; narrow, it has no more to say than there is room for
pub record Held (wide : Bool) (r : Record) : Type 0 where
  pub kind : r.kind < 256
  pub flags : r.flags < 256
  pub byte2 : r.byte2 < 256
  pub byte3 : r.byte3 < 256
  pub id : r.id < 4294967296
  pub dx : r.dx < 4294967296
  pub dy : r.dy < 4294967296
  pub dz : r.dz < 4294967296
  pub tolerance : r.tolerance < 4294967296
  pub budget : r.budget < 4294967296
  pub cap : r.cap < 4294967296
  pub count : length r.points ≡ 24
  pub points : Each r.points
  pub narrow : wide ≡ false → Narrow r

small_fits : (z : ℤ) → nat_abs z ≤ 536870912 → SFits w32 z
small_fits (pos n) h = record { sfits = omega arith }
small_fits (negsuc n) h = record { sfits = omega arith }

each : (zs : List ℤ) → ((i : ℕ) → nat_abs (get_or zs i (pos 0)) ≤ 536870912) → Each zs
each [] h = tt
each (z ∷ zs) h = (small_fits z (h 0), each zs (λ i. h (suc i)))

-- no edition's coordinates go further
in_all : (longer : Bool) → (limits_by longer).coordinate ≤ 536870912
in_all true = lit≤ tt
in_all false = lit≤ tt

pub held : (wide : Bool) (r : Record) → Accepted r → (wide ≡ false → Narrow r) → r.id < 4294967296 → length r.points ≡ 24 → Held wide r
held wide r a w i n =
    record {
      kind = ⊎_elim (λ e. omega arith) (λ e. omega arith) a.kind;
      flags = omega (arith, a.flags);
      byte2 = omega (arith, a.byte2);
      byte3 = omega (arith, a.byte3);
      id = i;
      dx = omega (arith, a.dx);
      dy = omega (arith, a.dy);
      dz = omega (arith, a.dz);
      tolerance = omega (arith, a.tolerance_most);
      budget = omega (arith, a.budget_most);
      cap = omega (arith, a.cap);
      count = n;
      points = each r.points (λ i. le_trans (a.coordinate i) (in_all (eqb r.edition 3)));
      narrow = w;
    }

-- what a writer does not refuse is such
pub narrow : {edition : ℕ} {s : List ℕ} {at : ℕ} (r : Record) → WriteRoom edition s at r → is_wide edition ≡ false → Narrow (in_edition edition r)
narrow {edition} r w e = go (eqb edition 1) (eqb edition 2) (eqb edition 3) e w.named w.separations w.capped
  where
    equal : Bool
    equal = eqb r.dx r.dy && eqb r.dx r.dz

    go : (one two three : Bool) → (two || three) ≡ false → (one || two || three) ≡ true → (not one || equal) ≡ true → (not one || eqb r.cap 0) ≡ true → Narrow (in_edition edition r)
    go true two three f g k l =
        let h = (and-eq-true_iff (eqb r.dx r.dy) (eqb r.dx r.dz)).0 k in
        record { dy = eqb-true r.dx r.dy h.0; dz = eqb-true r.dx r.dz h.1; cap = sym (eqb-true r.cap 0 l) }
    go false two three f g k l = let z : ◌≡◌ {A = Bool} true false = sym g ∙ f in let y : ◌≡◌ {A = ℕ} 0 1 = cc in absurd (omega arith)

-- as one of an edition it is held too
pub as_one : {wide : Bool} {r : Record} (edition : ℕ) → Held wide r → Held wide (in_edition edition r)
as_one edition h =
    record {
      kind = h.kind;
      flags = h.flags;
      byte2 = h.byte2;
      byte3 = h.byte3;
      id = h.id;
      dx = h.dx;
      dy = h.dy;
      dz = h.dz;
      tolerance = h.tolerance;
      budget = h.budget;
      cap = h.cap;
      count = h.count;
      points = h.points;
      narrow = λ e. let w = h.narrow e in record { dy = w.dy; dz = w.dz; cap = w.cap };
    }

-- ---- a record that stands in bytes
pub read_held : (wide : Bool) (edition : ℕ) (s : List ℕ) (at : ℕ) → Bytes s → Held wide (record_by wide edition s at)
unfolding record_by
read_held true edition s at b =
    let h = each_read 24 s (at + 32) b in
    record {
      kind = b at;
      flags = b (at + 1);
      byte2 = b (at + 2);
      byte3 = b (at + 3);
      id = word_lt s b (at + 4);
      dx = word_lt s b (at + 8);
      dy = word_lt s b (at + 12);
      dz = word_lt s b (at + 16);
      tolerance = word_lt s b (at + 20);
      budget = word_lt s b (at + 24);
      cap = word_lt s b (at + 28);
      count = h.0;
      points = h.1;
      narrow = λ e. let z : ◌≡◌ {A = ℕ} 0 1 = cc in absurd (omega arith);
    }
read_held false edition s at b =
    let h = each_read 24 s (at + 20) b in
    record {
      kind = b at;
      flags = b (at + 1);
      byte2 = b (at + 2);
      byte3 = b (at + 3);
      id = word_lt s b (at + 4);
      dx = word_lt s b (at + 8);
      dy = word_lt s b (at + 8);
      dz = word_lt s b (at + 8);
      tolerance = word_lt s b (at + 12);
      budget = word_lt s b (at + 16);
      cap = omega arith;
      count = h.0;
      points = h.1;
      narrow = λ e. record { dy = refl; dz = refl; cap = refl };
    }
