-- Document 01, "Numbers". One unit is 1/8 mm.
use Rattle.std.specs.Prelude.{ℕ, ◌/◌, Bool, true, false, cond, ◌&&◌, ℤ, nat_abs, leb, eqb}

abbrev pub between : ℕ → ℕ → ℕ → Bool
between low high n = leb low n && leb n high

-- what differs between editions: the coordinate limit, the depth limit and the least tolerance
pub record Limits : Type 0 where
  pub coordinate : ℕ
  pub deepest : ℕ
  pub tolerance : ℕ

-- "Coordinate: -1,048,576 to 1,048,576." "Tolerance: 16 to 1,048,576." "Depth of each parameter: 0 to 20."
-- "A new terminal needs coordinates to 2,097,152. Edition 3 has .. depths to 19, and tolerance from 64" (document 02, R-11)
abbrev pub limits_by : Bool → Limits
limits_by false = record { coordinate = 1_048_576; deepest = 20; tolerance = 16 }
limits_by true = record { coordinate = 2_097_152; deepest = 19; tolerance = 64 }

abbrev pub limits_of : ℕ → Limits
limits_of edition = limits_by (eqb edition 3)

abbrev pub is_coordinate : Limits → ℤ → Bool
is_coordinate l c = leb (nat_abs c) l.coordinate

-- "Separation d: 0 to 65,536."
abbrev pub is_separation : ℕ → Bool
is_separation d = between 0 65_536 d

abbrev pub is_tolerance : Limits → ℕ → Bool
is_tolerance l n = between l.tolerance 1_048_576 n

-- "Budget: 1 to 1,000,000 boxes."
abbrev pub is_budget : ℕ → Bool
is_budget n = between 1 1_000_000 n

-- "0 means the whole step, 1 to 1,048,576 a last moment" (document 02, R-7)
abbrev pub is_cap : ℕ → Bool
is_cap n = between 0 1_048_576 n

-- "Queue: 2 to 1,048,576 words of 64 bits."
abbrev pub is_queue : ℕ → Bool
is_queue words = between 2 1_048_576 words

-- "H is half the words, rounded down."
abbrev pub half : ℕ → ℕ
half words = words / 2

-- "Answered t, u, v count 1/1,048,576 parts." "Times are still written in 1/1,048,576 parts and are then even" (document 02, R-11)
abbrev pub parts : ℕ
parts = 1_048_576

-- a cap's last moment, in parts (document 02, R-7)
abbrev pub last_moment : ℕ → ℕ
last_moment cap = cond (eqb cap 0) parts cap
