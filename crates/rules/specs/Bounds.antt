-- Document 02, R-9, "Skip the far end of the hull": what is kept beside a body, a triangle of it replaced, and 27 BOUNDS.
use Rattle.std.specs.Prelude.{ℕ, zero, suc, ◌+◌, ◌*◌, ◌-◌, ◌/◌, min, Bool, true, false, not, ◌&&◌, List, [], ◌∷◌, ◌++◌, ℤ, pos, ◌+ℤ◌, ◌-ℤ◌, length, get_or, take, drop, ltb, eqb}
use Rattle.std.specs.Int.Signed.{le_z}
use Rattle.rules.specs.declared.Axis.{Axis}
use Rattle.rules.specs.declared.Axis.TheVariants.{X, Y, Z}
use Rattle.rules.specs.declared.Terms.{Terms}
use Rattle.rules.specs.declared.BodyAnswer.{BodyAnswer}
use Rattle.rules.specs.Numbers.{limits_of, is_coordinate}
use Rattle.rules.specs.Refusals.{Case, first, or_else, every}
use Rattle.rules.specs.Gap.{place}
use Rattle.rules.specs.Search.{lesser, greater}
use Rattle.rules.specs.QueryFile.{put}
use Rattle.rules.specs.Bodies.{Body, is_body, body_refusal, body_unless, body_search}

-- ---- the bounds

-- a triangle on an axis at a moment, its first coordinate at a place: `pick`, the least or the greatest, over its corners;
-- "Each face also brings in its fourth corner v2+v3-v1"
abbrev pub over_face : (ℤ → ℤ → ℤ) → List ℤ → ℕ → ℤ
over_face pick s at =
    let v1 : ℤ = get_or s at (pos 0) in
    let v2 : ℤ = get_or s (at + 3) (pos 0) in
    let v3 : ℤ = get_or s (at + 6) (pos 0) in
    pick (pick v1 v2) (pick v3 (v2 +ℤ v3 -ℤ v1))

-- triangle i, "over start and end positions"
abbrev pub over_triangle : (ℤ → ℤ → ℤ) → List ℤ → List ℤ → Axis → ℕ → ℤ
over_triangle pick start end axis i = pick (over_face pick start (9 * i + place axis)) (over_face pick end (9 * i + place axis))

-- triangle i and the n behind it
unfoldable pub over_triangles : (ℤ → ℤ → ℤ) → List ℤ → List ℤ → Axis → ℕ → ℕ → ℤ
over_triangles pick start end axis i zero = over_triangle pick start end axis i
over_triangles pick start end axis i (suc n) = pick (over_triangles pick start end axis i n) (over_triangle pick start end axis (i + suc n))

-- "a bound for every 32 triangles": 0 to 31, 32 to 63 and so on; the last block may be short
abbrev pub blocks : ℕ → ℕ
blocks count = (count + 31) / 32

abbrev pub first_of : ℕ → ℕ
first_of block = 32 * block

-- how many of a body's triangles are in a block
abbrev pub size_of : ℕ → ℕ → ℕ
size_of count block = min 32 (count - first_of block)

abbrev pub over_block : (ℤ → ℤ → ℤ) → Body → ℕ → Axis → ℤ
over_block pick m block axis = over_triangles pick m.start m.end axis (first_of block) (size_of m.count block - 1)

-- "least and greatest x, y, z": six numbers a block
abbrev pub bound : Body → ℕ → List ℤ
bound m block =
    over_block lesser m block X
    ∷ over_block lesser m block Y
    ∷ over_block lesser m block Z
    ∷ over_block greater m block X
    ∷ over_block greater m block Y
    ∷ over_block greater m block Z
    ∷ []

-- those of the first n blocks
unfoldable pub bounds_to : Body → ℕ → List ℤ
bounds_to m zero = []
bounds_to m (suc n) = bounds_to m n ++ bound m n

abbrev pub bounds_of : Body → List ℤ
bounds_of m = bounds_to m (blocks m.count)

-- 21, then 3 for a coordinate out of the edition's range
abbrev pub are_coordinates : ℕ → List ℤ → List ℤ → Bool
are_coordinates edition start end = every (is_coordinate (limits_of edition)) start && every (is_coordinate (limits_of edition)) end

unfoldable pub bounds_refusal : ℕ → Body → ℕ
bounds_refusal edition m =
    first (record { number = 21; due = not (is_body m) } ∷ record { number = 3; due = not (are_coordinates edition m.start m.end) } ∷ [])

-- ---- the walk that goes by them

-- the same numbers in the same order
abbrev pub is_same : ℤ → ℤ → Bool
is_same m n = le_z m n && le_z n m

unfoldable pub are_same : List ℤ → List ℤ → Bool
are_same [] [] = true
are_same [] (n ∷ ns) = false
are_same (m ∷ ms) [] = false
are_same (m ∷ ms) (n ∷ ns) = is_same m n && are_same ms ns

-- "27 BOUNDS, after 21 and the queries' own, when a list of bounds isn't exactly what its triangles give"
abbrev pub inexact : Body → List ℤ → Body → List ℤ → Case
inexact a of_a b of_b = record { number = 27; due = not (are_same of_a (bounds_of a) && are_same of_b (bounds_of b)) }

unfoldable pub walk_refusal : Terms → Body → List ℤ → Body → List ℤ → ℕ → ℕ
walk_refusal w a of_a b of_b words = or_else (body_refusal w a b words) (first (inexact a of_a b of_b ∷ []))

-- "The answer equals that of R-6 with R-7's caps in full, count and early end of the walk too"
unfoldable pub walk_search : Terms → Body → List ℤ → Body → List ℤ → ℕ → BodyAnswer
walk_search w a of_a b of_b words = body_unless (walk_refusal w a of_a b of_b words) (body_search w a b words)

-- ---- a triangle replaced

-- by nine coordinates at the start and nine at the end
abbrev pub replaced : Body → ℕ → List ℤ → Body
replaced m n corners =
    record { count = m.count; start = put m.start (9 * n) (take 9 corners); end = put m.end (9 * n) (drop 9 corners) }

abbrev pub block_of : ℕ → ℕ
block_of n = n / 32

-- "The bounds stay true when one triangle is replaced, and only that block is worked out again."
abbrev pub mended : Body → ℕ → List ℤ → List ℤ
mended m n bounds = put bounds (6 * block_of n) (bound m (block_of n))

-- a block's coordinates at a moment
abbrev pub in_block : ℕ → ℕ → List ℤ → List ℤ
in_block count block s = take (9 * size_of count block) (drop (9 * first_of block) s)

abbrev pub are_in_block : ℕ → Body → ℕ → Bool
are_in_block edition m block = are_coordinates edition (in_block m.count block m.start) (in_block m.count block m.end)

-- "21, then 13 for a triangle number not below the body's count, then 3 for a coordinate of the new triangle or of another in its block,
-- then 27 for a list of another length"
unfoldable pub replace_refusal : ℕ → Body → List ℤ → ℕ → List ℤ → ℕ
replace_refusal edition m bounds n corners =
    first
    (record { number = 21; due = not (is_body m && eqb (length corners) 18) }
    ∷ record { number = 13; due = not (ltb n m.count) }
    ∷ record { number = 3; due = not (are_in_block edition (replaced m n corners) (block_of n)) }
    ∷ record { number = 27; due = not (eqb (length bounds) (6 * blocks m.count)) }
    ∷ [])
