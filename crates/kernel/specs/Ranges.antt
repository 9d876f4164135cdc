-- What the inner functions may rely on, once refusals 1 to 7 are past: over a coordinate limit and a depth limit.
use Rattle.std.specs.Prelude.{Bool, true, false, ℕ, ◌+◌, ◌*◌, ◌^◌, ◌≤◌, ◌<◌}
use Rattle.std.proofs.Common.{arith, lit≤}
use Rattle.whole.specs.Within.{Within}
use Rattle.rules.specs.declared.Three.{Three}
use Rattle.rules.specs.declared.Reason.{Reason}
use Rattle.rules.specs.Numbers.{limits_by}
use Rattle.kernel.specs.declared.Kernel.{Kernel}
use Rattle.kernel.specs.declared.Pair.{Pair}

-- A coordinate limit and a number of parts that go together: F times parts·parts is six coordinates at most, and then fits an `i64`; an excess fits 32 bits
pub record Held (coordinate q : ℕ) : Type 0 where
  pub coordinate_most : coordinate ≤ 536_870_912
  pub parts_least : 1 ≤ q
  pub parts_most : q ≤ 1_048_576
  pub product : coordinate * (q * q) ≤ 1_152_921_504_606_846_976

-- editions 1 and 2: 2^20 and 2^20 parts; edition 3: 2^21 and 2^19 parts
pub editions_held : (longer : Bool) → Held (limits_by longer).coordinate (2 ^ (limits_by longer).deepest)
editions_held false = record { coordinate_most = lit≤ tt; parts_least = lit≤ tt; parts_most = lit≤ tt; product = lit≤ tt }
editions_held true = record { coordinate_most = lit≤ tt; parts_least = lit≤ tt; parts_most = lit≤ tt; product = lit≤ tt }

-- and none goes deeper than 20
pub editions_deep : (longer : Bool) → (limits_by longer).deepest ≤ 20
editions_deep false = lit≤ tt
editions_deep true = lit≤ tt

-- differences of two coordinates within a limit that goes with q parts
pub record Small (q : ℕ) (K : Kernel) : Type 0 where
  pub coordinate : ℕ
  pub held : Held coordinate q
  pub a0 : Within (coordinate + coordinate) K.a0
  pub b0 : Within (coordinate + coordinate) K.b0
  pub c0 : Within (coordinate + coordinate) K.c0
  pub a1 : Within (coordinate + coordinate) K.a1
  pub b1 : Within (coordinate + coordinate) K.b1
  pub c1 : Within (coordinate + coordinate) K.c1

-- whole units are one part
pub one_part : {q : ℕ} {K : Kernel} → Small q K → Small 1 K
one_part s =
    record {
      coordinate = s.coordinate;
      held = record { coordinate_most = s.held.coordinate_most; parts_least = lit≤ tt; parts_most = lit≤ tt; product = omega (arith, s.held.coordinate_most) };
      a0 = s.a0;
      b0 = s.b0;
      c0 = s.c0;
      a1 = s.a1;
      b1 = s.b1;
      c1 = s.c1;
    }

pub record Ranged (p : Pair) : Type 0 where
  pub deepest : p.deepest ≤ 20
  pub x : Small (2 ^ p.deepest) p.x
  pub y : Small (2 ^ p.deepest) p.y
  pub z : Small (2 ^ p.deepest) p.z
  pub dx : p.dx ≤ 65_536
  pub dy : p.dy ≤ 65_536
  pub dz : p.dz ≤ 65_536
  pub tolerance : p.tolerance ≤ 1_048_576
  pub least_budget : 1 ≤ p.budget
  pub budget : p.budget ≤ 1_000_000
  pub least_room : 1 ≤ p.room
  pub room : p.room ≤ 524_288
  pub last : p.last ≤ 1_048_576

-- depths are at most the depth limit
pub record Shallow (deepest : ℕ) (k : Three) : Type 0 where
  pub t : k.t ≤ deepest
  pub u : k.u ≤ deepest
  pub v : k.v ≤ deepest

pub shallower : {d e : ℕ} {k : Three} → d ≤ e → Shallow d k → Shallow e k
shallower h s = record { t = omega (arith, s.t); u = omega (arith, s.u); v = omega (arith, s.v) }

-- a box of a level: its indices are below 2 to the depths
pub record InGrid (k box : Three) : Type 0 where
  pub t : box.t < 2 ^ k.t
  pub u : box.u < 2 ^ k.u
  pub v : box.v < 2 ^ k.v

-- a box that is named is one of a level, and there are 61 levels
pub record OnGrid (x : Reason) : Type 0 where
  pub level : x.level ≤ 60
  pub depths : Shallow 20 x.depths
  pub index : InGrid x.depths x.index
