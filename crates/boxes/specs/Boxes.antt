-- A word read back as a box.
use Rattle.std.specs.Prelude.{Bool, true, false, ℕ, ◌+◌, ◌-◌, ◌/◌, ◌%◌, ◌^◌, ◌<◌}
use Rattle.std.specs.Int.Bits.{bit_and}
use Rattle.rules.specs.declared.Parameter.{Parameter}
use Rattle.rules.specs.declared.Parameter.TheVariants.{InT, InU, InV}
use Rattle.rules.specs.Search.{Box, low_half, high_half}

abbrev pub box_of : ℕ → Box
box_of w = record { t = w / 2 ^ 40 % 2 ^ 20; u = w / 2 ^ 20 % 2 ^ 20; v = w % 2 ^ 20 }

-- each index has 20 bits
pub record Fits (b : Box) : Type 0 where
  pub t : b.t < 2 ^ 20
  pub u : b.u < 2 ^ 20
  pub v : b.v < 2 ^ 20

-- the half with the lesser or the greater index
abbrev pub half_of : Parameter → Bool → Box → Box
half_of p false = low_half p
half_of p true = high_half p

-- the bits of a parameter's index, and one in it
abbrev pub index_bits : Parameter → ℕ
index_bits InT = 2 ^ 60 - 2 ^ 40
index_bits InU = 2 ^ 40 - 2 ^ 20
index_bits InV = 2 ^ 20 - 1

abbrev pub index_one : Parameter → ℕ
index_one InT = 2 ^ 40
index_one InU = 2 ^ 20
index_one InV = 1

-- a word's half by these two: the index and itself, in its own bits, and one more for the high half
abbrev pub half_by : ℕ → ℕ → Bool → ℕ → ℕ
half_by bits one false w = w + bit_and w bits
half_by bits one true w = w + bit_and w bits + one
