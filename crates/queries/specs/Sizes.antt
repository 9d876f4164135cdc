-- How many bytes the records of a file take, by the bytes of one. Assumes nothing.
use Rattle.std.specs.Prelude.{ℕ, suc, ◌+◌, ◌*◌, ◌≤◌, ◌<◌, ◌≡◌, Bool, true, false}
use Rattle.std.proofs.Common.{mul-zero, mul-suc, mul-le-mul, mul-le-mul_left, arith}
use Rattle.rules.specs.QueryFile.{size_by}

pub size_zero : (size : ℕ) → size * 0 ≡ 0
size_zero size = mul-zero size

pub size_one : (size : ℕ) → size * 1 ≡ size
size_one size = omega arith

pub size_suc : (size n : ℕ) → size * suc n ≡ size + size * n
size_suc size n = omega (arith, mul-suc size n)

-- record i of so many from `first` on stands within them
pub record_within : (size first count i n : ℕ) → i < count → first + size * count ≤ n → first + size * i + size ≤ n
record_within size first count i n h k =
    let l : suc i ≤ count = omega arith in
    omega (arith, size_suc size i, mul-le-mul_left size l)

-- a back pointer fits its 32 bits
pub few_size : (size n : ℕ) → size < 256 → n ≤ 4096 → size * n < 4294967296
few_size size n h k =
    let h' : size ≤ 255 = omega arith in
    let m : size * n ≤ 255 * 4096 = mul-le-mul h' k in
    omega arith

-- 65,536 bytes hold no more than 564 query records
pub short_size : (wide : Bool) (n : ℕ) → size_by wide * n + 16 ≤ 65536 → n ≤ 564
short_size true n h = omega arith
short_size false n h = omega arith
