-- A record asked where it stands in bytes.
use Rattle.std.specs.Prelude.{◌≡◌, Bool, true, false, cond, ◌&&◌, List, ℕ, ◌+◌, ◌*◌, ◌≤◌, ◌<◌, ℤ, pos, length, get_or}
use Rattle.std.proofs.Math.Path.{refl}
use Rattle.std.proofs.Common.{sym, ap, ap₂, ◌∙◌, arith}
use Rattle.rules.specs.declared.Record.{Record}
use Rattle.rules.specs.QueryFile.{word, signed, coordinates_at, size_by, record_size, record_by, record_at, is_wide}
use Rattle.rules.specs.Gap.{is_vertex_face}
use Rattle.rules.specs.Refusals.{search_refusal}
use Rattle.rules.specs.Search.{query, origin, survives}
use Rattle.kernel.specs.declared.Kernel.{Kernel}
use Rattle.refusals.specs.Accepted.{accepted_search}
use Rattle.gap.specs.declared.points.Four.{Four}
use Rattle.gap.specs.Corners.{meets}
use Rattle.gap.specs.Cube.{whole_cube}
use Rattle.gap.specs.Points.{Near, four_of, kernel_by, kernel_at, four_near}
use Rattle.gap.specs.Prepared.{flagged, coordinates, whole}
use Rattle.queries.specs.Coordinates.{points_place, coords_at}
use Rattle.search.specs.Levels.{Clean}

-- one coordinate of four points; that of the first stands at `at`
abbrev pub four_in : List ℕ → ℕ → Four
four_in s at =
    record { p0 = signed (word s at); p1 = signed (word s (at + 12)); p2 = signed (word s (at + 24)); p3 = signed (word s (at + 36)) }

pub record InBytes (s : List ℕ) (at d : ℕ) : Type 0 where
  pub there : at + 88 ≤ length s
  pub start : Near 536_870_912 (four_in s at)
  pub end : Near 536_870_912 (four_in s (at + 48))
  pub most : d ≤ 65_536

pub record AllInBytes (s : List ℕ) (at dx dy dz : ℕ) : Type 0 where
  pub x : InBytes s at dx
  pub y : InBytes s (at + 4) dy
  pub z : InBytes s (at + 8) dz

abbrev pub meets_in : List ℕ → ℕ → Bool → Bool → ℕ → Bool
meets_in s at turned face d = meets (kernel_by (four_in s at) (four_in s (at + 48)) turned face) whole_cube d

abbrev pub meets_all : List ℕ → ℕ → Bool → Bool → ℕ → ℕ → ℕ → Bool
meets_all s at flagged face dx dy dz = meets_in s (at + 8) false face dz && (meets_in s at false face dx && meets_in s (at + 4) flagged face dy)

pub record Asks (edition : ℕ) (s : List ℕ) (at : ℕ) (queue : List ℕ) (clean : Bool) : Type 0 where
  pub there : at + record_size edition ≤ length s
  pub zero : Clean clean queue

-- ---- the coordinates of a record are those that stand there

same_four : (f g : Four) → f.p0 ≡ g.p0 → f.p1 ≡ g.p1 → f.p2 ≡ g.p2 → f.p3 ≡ g.p3 → f ≡ g
same_four f g a b c d = λ i. record { p0 = a i; p1 = b i; p2 = c i; p3 = d i }

-- from the nth of 24 coordinates on, every third
pub four_is : (s : List ℕ) (place n at : ℕ) → n < 15 → at ≡ place + 4 * n → four_in s at ≡ four_of (coordinates_at s place 24) n
four_is s place n at h e =
    same_four (four_in s at) (four_of (coordinates_at s place 24) n) (at_is n at (omega arith) e) (at_is (n + 3) (at + 12) (omega arith) (omega arith))
    (at_is (n + 6) (at + 24) (omega arith) (omega arith)) (at_is (n + 9) (at + 36) (omega arith) (omega arith))
  where
    at_is : (i a : ℕ) → i < 24 → a ≡ place + 4 * i → signed (word s a) ≡ get_or (coordinates_at s place 24) i (pos 0)
    at_is i a h e = ap (λ (x : ℕ). signed (word s x)) e ∙ sym (coords_at s place 24 i h)

module _ (edition : ℕ) (s : List ℕ) (at words : ℕ) where
  abbrev r : Record
  r = record_at edition s at

  abbrev place : ℕ
  place = points_place edition at

  points_are : r.points ≡ coordinates_at s place 24
  unfolding record_by
  points_are = refl

  -- an axis of the record, by the places of its coordinates
  axis_at : (n : ℕ) (turned face : Bool) (at' : ℕ) → n < 3 → at' ≡ place + 4 * n → kernel_by (four_in s at') (four_in s (at' + 48)) turned face ≡ kernel_at r.points n turned face
  axis_at n turned face at' h e =
      ap₂ (λ (f g : Four). kernel_by f g turned face) (four_is s place n at' (omega arith) e) (four_is s place (n + 12) (at' + 48) (omega arith) (omega arith))
      ∙ ap (λ (l : List ℤ). kernel_at l n turned face) (sym points_are)

  pub asked_there : (p : ℕ) → p ≡ place → meets_all s p (flagged r) (is_vertex_face r) r.dx r.dy r.dz ≡ survives (query r words) origin origin
  asked_there p e =
      ap₂ ◌&&◌ (ap (λ (K : Kernel). meets K whole_cube r.dz) (axis_at 2 false (is_vertex_face r) (p + 8) (omega arith) (omega arith)))
      (ap₂ ◌&&◌ (ap (λ (K : Kernel). meets K whole_cube r.dx) (axis_at 0 false (is_vertex_face r) p (omega arith) (omega arith)))
      (ap (λ (K : Kernel). meets K whole_cube r.dy) (axis_at 1 (flagged r) (is_vertex_face r) (p + 4) (omega arith) (omega arith))))
      ∙ whole r words

  -- what is not refused is near
  module _ (none : search_refusal r words ≡ 0) (there : at + record_size edition ≤ length s) where
    near_at : (n at' : ℕ) → n < 15 → at' ≡ place + 4 * n → Near 536_870_912 (four_in s at')
    near_at n at' h e = rw (four_is s place n at' h e) (four_near (coordinates_at s place 24) (rw points_are at (coordinates r words none)) n)

    ends : (wide : Bool) → at + size_by wide ≤ length s → at + cond wide 32 20 + 96 ≤ length s
    ends true h = omega arith
    ends false h = omega arith

    in_bytes : (n d at' : ℕ) → n < 3 → at' ≡ place + 4 * n → d ≤ 65_536 → InBytes s at' d
    in_bytes n d at' h e most = record {
      there = omega (arith, ends (is_wide edition) there);
      start = near_at n at' (omega arith) e;
      end = near_at (n + 12) (at' + 48) (omega arith) (omega arith);
      most = most;
    }

    pub all_in_bytes : (p : ℕ) → p ≡ place → AllInBytes s p r.dx r.dy r.dz
    all_in_bytes p e =
        let a = (accepted_search r words none).query in
        record {
          x = in_bytes 0 r.dx p (omega arith) (omega arith) a.dx;
          y = in_bytes 1 r.dy (p + 4) (omega arith) (omega arith) a.dy;
          z = in_bytes 2 r.dz (p + 8) (omega arith) (omega arith) a.dz;
        }
