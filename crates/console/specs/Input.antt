-- A file's bytes lie in the buffer.
use Rattle.std.specs.Prelude.{ℕ, ◌≤◌, ◌<◌, ◌≡◌, List, length, take, Option, Result, Ok, Err}
use Rattle.std.specs.Io.KnownBytes.{Consumes, IsAtEnd}
use Rattle.std.proofs.Common.{subst}

abbrev pub Within : {E : Type 0} → Result ℕ E → ℕ → Type 0
Within (Ok n) size = n ≤ size
Within (Err e) size = Unit {0}

-- A file read: its next bytes, and all of them where the buffer has room for more.
abbrev pub Reads : {E : Type 0} → Option (List ℕ) → Option (List ℕ) → Result ℕ E → List ℕ → Type 0
Reads left left' (Ok n) buffer = Consumes left left' (take n buffer) × (n < length buffer → IsAtEnd left')
Reads left left' (Err e) buffer = Unit {0}

pub bytes_within : {E : Type 0} {i : Result ℕ E} {n : ℕ} (size : ℕ) → i ≡ Ok n → Within i size → n ≤ size
bytes_within {E} size e w = subst (λ (i : Result ℕ E). Within i size) e w
