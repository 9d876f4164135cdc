-- The line that `why` prints of an answer, byte by byte. docs/DECISIONS.md says why it is so.
use Rattle.std.specs.Prelude.{ℕ, ◌+◌, ◌*◌, ◌/◌, ◌%◌, Bool, cond, ◌&&◌, ◌||◌, List, [], ◌∷◌, ◌++◌, leb, eqb}
use Rattle.rules.specs.declared.Three.{Three}
use Rattle.rules.specs.declared.Axis.{Axis}
use Rattle.rules.specs.declared.Axis.TheVariants.{X, Y, Z}
use Rattle.rules.specs.declared.Side.{Side}
use Rattle.rules.specs.declared.Side.TheVariants.{Below, Above}
use Rattle.rules.specs.declared.Reason.{Reason}
use Rattle.rules.specs.declared.Ruling.{Ruling}
use Rattle.rules.specs.declared.Ruling.TheVariants.{Discarded, Refused}
use Rattle.rules.specs.Numbers.{parts}
use Rattle.rules.specs.Search.{low, high}
use Rattle.kernel.specs.Ranges.{OnGrid}
use Rattle.text.specs.Text.{ascii, decimal, field}

-- ---- the axis and the side

-- "x", "y", "z"
abbrev pub axis_byte : Axis → ℕ
axis_byte X = 120
axis_byte Y = 121
axis_byte Z = 122

-- "-", "+"
abbrev pub side_byte : Side → ℕ
side_byte Below = 45
side_byte Above = 43

-- ---- the ends of a box

-- a letter, and two ends in parts: t 262144 to 393216
unfoldable pub span : ℕ → ℕ → ℕ → List ℕ
span letter from to = (letter ∷ []) ++ field from ++ ascii " to" ++ field to

-- two digits
unfoldable pub two : ℕ → List ℕ
two n = (48 + n / 10) ∷ (48 + n % 10) ∷ []

-- parts in hundredths of a percent, rounded down
abbrev pub hundredths : ℕ → ℕ
hundredths n = n * 10_000 / parts

-- 37.50 %
unfoldable pub percent : ℕ → List ℕ
percent n = decimal (hundredths n / 100) ++ ascii "." ++ two (hundredths n % 100) ++ ascii " %"

-- 25.00 % to 37.50 %
unfoldable pub share : ℕ → ℕ → List ℕ
share from to = percent from ++ ascii " to " ++ percent to

-- the ends of t, u and v, "index times 2^(20-depth), and that of the next index": in parts, then in percent
unfoldable pub spans : Three → Three → List ℕ
spans k i =
    span 116 (low k.t i.t) (high k.t i.t)
    ++ ascii ", "
    ++ span 117 (low k.u i.u) (high k.u i.u)
    ++ ascii ", "
    ++ span 118 (low k.v i.v) (high k.v i.v)

unfoldable pub shares : Three → Three → List ℕ
shares k i =
    share (low k.t i.t) (high k.t i.t)
    ++ ascii ", "
    ++ share (low k.u i.u) (high k.u i.u)
    ++ ascii ", "
    ++ share (low k.v i.v) (high k.v i.v)

-- ---- the line

unfoldable pub head : Axis → Side → List ℕ
head axis side = ascii "RULED OUT on " ++ (axis_byte axis ∷ []) ++ ascii ", first body on the " ++ (side_byte side ∷ []) ++ ascii " side: "

unfoldable pub three : Three → List ℕ
three n = field n.t ++ field n.u ++ field n.v

unfoldable pub level_text : Reason → List ℕ
level_text x = ascii "); level" ++ field x.level ++ ascii ", depths" ++ three x.depths

unfoldable pub index_text : Reason → List ℕ
index_text x = ascii ", box" ++ three x.index ++ ascii "\n"

unfoldable pub box : Reason → List ℕ
box x = level_text x ++ index_text x

-- of a box that is named
unfoldable pub ruled_out : Reason → List ℕ
ruled_out x = head x.axis x.side ++ spans x.depths x.index ++ ascii " (" ++ shares x.depths x.index ++ box x

-- 8 to 13 and 15 refuse the file
abbrev pub of_file : ℕ → Bool
of_file n = leb 8 n && leb n 13 || eqb n 15

-- a word and a number
unfoldable pub numbered : List ℕ → ℕ → List ℕ
numbered word n = word ++ field n ++ ascii "\n"

-- of a refusal
unfoldable pub refused : ℕ → List ℕ
refused n =
    cond (eqb n 23) (ascii "REFUSED 23 not in the domain (t, u and v are at most 1048576, and for a face so is u + v), or t is beyond the cap\n")
    (cond (eqb n 24) (ascii "REFUSED 24 not ruled out: the search answers this moment or an earlier one\n")
    (cond (of_file n) (numbered (ascii "FILE") n) (numbered (ascii "REFUSED") n)))

abbrev pub why_text : Ruling → List ℕ
why_text (Discarded x) = ruled_out x
why_text (Refused n) = refused n

-- what its writer asks: a box that is named is one of the grid
abbrev pub Drawn : Ruling → Type 0
Drawn (Discarded x) = OnGrid x
Drawn (Refused n) = Unit {0}
