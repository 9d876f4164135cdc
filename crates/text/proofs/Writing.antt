-- Laws of `Wrote` and `Printed`, what a writer promises.
--     put_paste              a text copied byte by byte
--     then                   a writer, and a second right behind it
--     roomier                another bound on the place behind
--     printed, printed_not   a whole text, and one that had no room
-- Assumes nothing.
use Prim.Native.Nat.{ℕ, ◌+◌, ◌≤◌}
use mathlib.Core.Bool.{Bool, true, false}
use mathlib.Core.Path.{◌≡◌, refl, ap}
use mathlib.Core.List.{List, ◌++◌}
use native.Mathlib.Omega.{arith}
use Rattle.std.specs.Prelude.{Some, None}
use lib.ListN.{length, length-append}
use lib.Seq.{paste, take-length}
use Rattle.rules.specs.QueryFile.{put}
use Rattle.little.specs.Put.{one_more}
use Rattle.text.specs.Writers.{Wrote, Printed, written_if, buffer_if}

-- a writer, and a second that begins where the first ended
pub then : {j k at m next : ℕ} {s₀ s₁ s₂ xs ys : List ℕ}
    → Wrote j s₀ at xs s₁ m
    → Wrote k s₁ m ys s₂ next
    → at + j ≤ length s₀
    → Wrote (j + k) s₀ at (xs ++ ys) s₂ next
then {at = at} {m = m} {s₀ = s₀} {s₁ = s₁} {s₂ = s₂} {xs = xs} {ys = ys} a b room =
    record {
      bytes = one_more s₀ s₁ s₂ at m xs ys a.bytes b.bytes a.behind (omega (arith, a.behind, a.few));
      behind = omega (arith, a.behind, b.behind, length-append xs ys);
      few = omega (arith, a.few, b.few);
    }

-- a whole text copied is that text put there
pub put_paste : (s : List ℕ) (at : ℕ) (xs : List ℕ) → paste s at xs (length xs) ≡ put s at xs
unfolding put
put_paste s at xs = rw (take-length xs)

pub roomier : {j k at next : ℕ} {s s' vs : List ℕ} → Wrote j s at vs s' next → next ≤ at + k → Wrote k s at vs s' next
roomier w h = record { bytes = w.bytes; behind = w.behind; few = h }

-- a text that had no room, and one that was written
pub printed_not : {room : Bool} {text s : List ℕ} → room ≡ false → Printed room text s s None
unfolding written_if buffer_if
printed_not e = rw e (record { said = refl; bytes = refl })

pub printed : {room : Bool} {k next : ℕ} {text s s' : List ℕ} → room ≡ true → Wrote k s 0 text s' next → Printed room text s s' (Some next)
unfolding written_if buffer_if
printed {next = next} {text = text} e w =
    let n : next ≡ length text = omega (arith, w.behind) in
    rw e (record { said = ap Some n; bytes = w.bytes })
