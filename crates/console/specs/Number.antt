-- A number in decimal, as a program is handed it.
use Rattle.std.specs.Prelude.{ℕ, ◌+◌, ◌*◌, ◌-◌, min, ◌≡◌, refl, Bool, cond, ◌&&◌, List, [], ◌∷◌, Option, Some, None, map, leb}
use Rattle.text.specs.Text.{ascii}

abbrev pub is_digit : ℕ → Bool
is_digit b = leb 48 b && leb b 57

-- with one digit more; a number beyond 32 bits is taken for the largest
abbrev pub and_digit : ℕ → ℕ → ℕ
and_digit n b = min 4_294_967_295 (10 * n + (b - 48))

-- with `n` for what stands in front
unfoldable pub read_from : ℕ → List ℕ → Option ℕ
read_from n [] = Some n
read_from n (b ∷ bs) = cond (is_digit b) (read_from (and_digit n b) bs) None

-- decimal digits, one at least
unfoldable pub number_of : List ℕ → Option ℕ
number_of [] = None
number_of (b ∷ bs) = read_from 0 (b ∷ bs)

pub number_rows :
    map number_of (ascii "0" ∷ ascii "007" ∷ ascii "1048576" ∷ ascii "4294967295" ∷ ascii "99999999999999999999" ∷ ascii "" ∷ ascii "-1" ∷ ascii "1.5" ∷ ascii "12a" ∷ [])
    ≡ Some 0 ∷ Some 7 ∷ Some 1048576 ∷ Some 4294967295 ∷ Some 4294967295 ∷ None ∷ None ∷ None ∷ None ∷ []
unfolding number_of read_from
number_rows = refl
