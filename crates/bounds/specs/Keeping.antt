-- What keeping bounds beside a body does: the number that comes back, and every number that is lent.
use Rattle.std.specs.Prelude.{ℕ, ◌*◌, ◌≤◌, ◌<◌, ◌≡◌, true, ◌&&◌, List, [], ◌∷◌, ℤ, leb, ltb, eqb, length, take, drop}
use Rattle.std.proofs.Math.Bool.{and-eq-true_iff}
use Rattle.std.proofs.Common.{leb-true, eqb-true}
use Rattle.rules.specs.QueryFile.{no_edition, put, put_unless}
use Rattle.rules.specs.Refusals.{first, or_else}
use Rattle.rules.specs.Numbers.{between}
use Rattle.rules.specs.Bodies.{Body, is_body}
use Rattle.rules.specs.Bounds.{blocks, bound, bounds_of, bounds_refusal, replaced, block_of, replace_refusal}
use Rattle.bounds.specs.Block.{HasBlock}

-- 10 where there is no such edition, then 21 and 3, then 14 where fewer numbers are lent than the bounds have
unfoldable pub keep_refusal : ℕ → Body → List ℤ → ℕ
keep_refusal edition m out =
    or_else (first (no_edition edition ∷ [])) (or_else (bounds_refusal edition m) (first (record { number = 14; due = ltb (length out) (6 * blocks m.count) } ∷ [])))

pub record Keeps (edition : ℕ) (m : Body) (out out' : List ℤ) (number : ℕ) : Type 0 where
  pub says : number ≡ keep_refusal edition m out
  pub leaves : out' ≡ put_unless number out 0 (bounds_of m)

-- no second number and no second list fit that
pub keeps_once : {edition : ℕ} {m : Body} {out out' out'' : List ℤ} {number number' : ℕ} → Keeps edition m out out' number → Keeps edition m out out'' number' → (number ≡ number') × (out' ≡ out'')
keeps_once v w = (cc, cc)

-- ---- a triangle replaced

-- 10 first, then the rules' own
unfoldable pub exchange_refusal : ℕ → Body → List ℤ → ℕ → List ℤ → ℕ
exchange_refusal edition m bounds n corners = or_else (first (no_edition edition ∷ [])) (replace_refusal edition m bounds n corners)

-- only the triangle's own coordinates change, and the entry of its block
pub record Replaces (edition : ℕ) (m : Body) (bounds : List ℤ) (n : ℕ) (corners start' end' bounds' : List ℤ) (number : ℕ) : Type 0 where
  pub says : number ≡ exchange_refusal edition m bounds n corners
  pub start : start' ≡ put_unless number m.start (9 * n) (take 9 corners)
  pub end : end' ≡ put_unless number m.end (9 * n) (drop 9 corners)
  pub mends : bounds' ≡ put_unless number bounds (6 * block_of n) (bound (replaced m n corners) (block_of n))

pub replaces_once : {edition : ℕ} {m : Body} {bounds : List ℤ} {n : ℕ} {corners start' end' bounds' start'' end'' bounds'' : List ℤ} {number number' : ℕ}
    → Replaces edition m bounds n corners start' end' bounds' number
    → Replaces edition m bounds n corners start'' end'' bounds'' number'
    → (number ≡ number') × ((start' ≡ start'') × ((end' ≡ end'') × (bounds' ≡ bounds'')))
replaces_once v w = (cc, (cc, (cc, cc)))

-- ---- what the parts ask

-- what a body is known to be
pub record Known (m : Body) : Type 0 where
  pub some : 0 < m.count
  pub few : m.count ≤ 256
  pub start : length m.start ≡ 9 * m.count
  pub end : length m.end ≡ 9 * m.count

pub known : (m : Body) → is_body m ≡ true → Known m
known m e =
    let two = (and-eq-true_iff (between 1 256 m.count && eqb (length m.start) (9 * m.count)) (eqb (length m.end) (9 * m.count))).0 e in
    let one = (and-eq-true_iff (between 1 256 m.count) (eqb (length m.start) (9 * m.count))).0 two.0 in
    let n = (and-eq-true_iff (leb 1 m.count) (leb m.count 256)).0 one.0 in
    record { some = leb-true 1 m.count n.0; few = leb-true m.count 256 n.1; start = eqb-true (length m.start) (9 * m.count) one.1; end = eqb-true (length m.end) (9 * m.count) two.1 }

-- and its coordinates are in range
pub record InRange (m : Body) : Type 0 where
  pub known : Known m
  pub each : (block : ℕ) → 32 * block < m.count → HasBlock m.count m.start m.end block

-- with room for its bounds
pub record ToKeep (m : Body) (bounds : List ℤ) : Type 0 where
  pub body : InRange m
  pub room : 6 * blocks m.count ≤ length bounds

-- triangle n of a body, new corners for it, its block in range then, and the list's length
pub record ToReplace (m : Body) (bounds : List ℤ) (n : ℕ) (corners : List ℤ) : Type 0 where
  pub is_body : Known m
  pub there : n < m.count
  pub given : length corners ≡ 18
  pub block : HasBlock m.count (replaced m n corners).start (replaced m n corners).end (block_of n)
  pub room : length bounds ≡ 6 * blocks m.count

pub record Exchanged (m : Body) (bounds : List ℤ) (n : ℕ) (corners start' end' bounds' : List ℤ) : Type 0 where
  pub start : start' ≡ put m.start (9 * n) (take 9 corners)
  pub end : end' ≡ put m.end (9 * n) (drop 9 corners)
  pub mends : bounds' ≡ put bounds (6 * block_of n) (bound (replaced m n corners) (block_of n))
