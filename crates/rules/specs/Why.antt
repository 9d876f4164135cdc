-- Document 02, R-8, "Why was it safe there?": from the whole domain down to a point, to the first box that was discarded.
use Rattle.std.specs.Prelude.{ℕ, zero, suc, ◌+◌, ◌*◌, Bool, not, cond, ◌&&◌, ◌||◌, List, [], ◌∷◌, pos, neg_ℤ, length, replicate, leb, ltb, eqb, Option, Some, None}
use Rattle.std.specs.Option.{option_or}
use Rattle.std.specs.Int.Signed.{le_z}
use Rattle.rules.specs.declared.Record.{Record}
use Rattle.rules.specs.declared.Three.{Three}
use Rattle.rules.specs.declared.Parameter.{Parameter}
use Rattle.rules.specs.declared.Parameter.TheVariants.{InT, InU, InV}
use Rattle.rules.specs.declared.Answer.{Answer}
use Rattle.rules.specs.declared.Axis.{Axis}
use Rattle.rules.specs.declared.Axis.TheVariants.{X, Y, Z}
use Rattle.rules.specs.declared.Side.{Side}
use Rattle.rules.specs.declared.Side.TheVariants.{Below, Above}
use Rattle.rules.specs.declared.Miss.{Miss}
use Rattle.rules.specs.declared.Stop.{Stop}
use Rattle.rules.specs.declared.Reason.{Reason}
use Rattle.rules.specs.declared.Ruling.{Ruling}
use Rattle.rules.specs.declared.Ruling.TheVariants.{Discarded, Refused}
use Rattle.rules.specs.Numbers.{parts, last_moment}
use Rattle.rules.specs.Gap.{place, is_vertex_face}
use Rattle.rules.specs.Answers.{told, has_moment}
use Rattle.rules.specs.Refusals.{Case, first, or_else, search_refusal}
use Rattle.rules.specs.Search.{Query, query, Box, Depths, low, unit, least, greatest, split, deeper, low_half, high_half, origin, search}

-- ---- the point

-- "t, u, v in 1/1,048,576 parts, inside the domain", and not "beyond the cap"
unfoldable pub in_domain : Record → Three → Bool
in_domain r at = leb at.t parts && leb at.t (last_moment r.cap) && leb at.u parts && leb at.v parts && (not (is_vertex_face r) || leb (at.u + at.v) parts)

-- "before the answered time (or anywhere up to the cap under CLEAR)"
unfoldable pub is_before : Answer → ℕ → Bool
is_before a at = eqb (told a).word 2 || has_moment (told a) && ltb at (told a).t

-- ---- the half that holds it

-- "the upper one on a boundary, except at 1": the upper one where its low end is at the point or before it. None begins at 1, where the last one is taken
abbrev pub in_upper : ℕ → ℕ → ℕ → Bool
in_upper k i at = leb (low (k + 1) (2 * i + 1)) at

-- of a box at depths k, in the parameter that its level is split in
unfoldable pub goes_up : Parameter → Depths → Box → Three → Bool
goes_up InT k box at = in_upper k.t box.t at.t
goes_up InU k box at = in_upper k.u box.u at.u
goes_up InV k box at = in_upper k.v box.v at.v

-- the half itself
unfoldable pub holding : Parameter → Depths → Box → Three → Box
holding p k box at = cond (goes_up p k box at) (high_half p box) (low_half p box)

-- ---- the axis and the side

-- a box survives on an axis "when m is at most d and M at least -d" (document 01): else F is above d over all of it, or below -d
unfoldable pub miss_on : Query → Depths → Box → Axis → Option Miss
miss_on q k box axis =
    cond (le_z (least q k box axis) (pos (q.separation axis * unit)))
    (cond (le_z (neg_ℤ (pos (q.separation axis * unit))) (greatest q k box axis)) None (Some (record { axis = axis; side = Below })))
    (Some (record { axis = axis; side = Above }))

-- "axis (x before y before z) and side"
unfoldable pub missed : Query → Depths → Box → Option Miss
missed q k box = option_or (miss_on q k box X) (option_or (miss_on q k box Y) (miss_on q k box Z))

-- ---- the descent

-- "the tool goes from the whole domain"
abbrev pub whole_domain : Stop
whole_domain = record { depths = origin; index = origin }

-- "down, one level at a time, always into the half that holds the point"
abbrev pub half_of : Query → Three → Stop → Stop
half_of q at s =
    record { depths = deeper (split q s.depths) s.depths; index = holding (split q s.depths) s.depths s.index at }

-- "level, box, axis .. and side"
abbrev pub reason_of : Stop → Axis → Side → Reason
reason_of s axis side =
    record { level = s.depths.t + s.depths.u + s.depths.v; depths = s.depths; index = s.index; axis = axis; side = side }

-- "names the first box that was discarded"; `rest` goes on from one that was not
abbrev pub name_or : Option Miss → Stop → Ruling → Ruling
name_or (Some m) s rest = Discarded (reason_of s m.axis m.side)
name_or None s rest = rest

-- at most so many levels more; three times the depth limit are enough, and `Refused 0` is never answered
unfoldable pub descend : ℕ → Query → Three → Stop → Ruling
descend zero q at s = name_or (missed q s.depths s.index) s (Refused 0)
descend (suc n) q at s = name_or (missed q s.depths s.index) s (descend n q at (half_of q at s))

abbrev pub from_whole : Record → ℕ → Three → Ruling
from_whole r words at = descend (3 * (query r words).deepest) (query r words) at whole_domain

-- ---- the refusals

-- "23 OUTSIDE (not in the domain, or beyond the cap)"
abbrev pub outside : Record → Three → Case
outside r at = record { number = 23; due = not (in_domain r at) }

-- "24 NOT RULED OUT (at or after the answered time)"
abbrev pub not_ruled_out : Record → ℕ → Three → Case
not_ruled_out r words at = record { number = 24; due = not (is_before (search r words) at.t) }

-- what refuses the question before anything is searched: "the search's own", then 23
unfoldable pub ask_refusal : Record → ℕ → Three → ℕ
ask_refusal r words at = or_else (search_refusal r words) (first (outside r at ∷ []))

-- "in that order after the search's own"
unfoldable pub why_refusal : Record → ℕ → Three → ℕ
why_refusal r words at = or_else (search_refusal r words) (first (outside r at ∷ not_ruled_out r words at ∷ []))

-- ---- the answer

-- a refusal's number (0: none), or else the box
unfoldable pub unless_why : ℕ → Ruling → Ruling
unless_why zero a = a
unless_why (suc n) a = Refused (suc n)

unfoldable pub why_search : Record → ℕ → Three → Ruling
why_search r words at = unless_why (why_refusal r words at) (from_whole r words at)

-- "24 and every answer leave it zero"; "23 leaves the queue untouched", and so does what comes before it. By the refusal's number (0: none)
unfoldable pub why_queue_after : ℕ → List ℕ → List ℕ
why_queue_after number queue = cond (eqb number 0 || eqb number 24) (replicate (length queue) 0) queue

-- ---- the answer in numbers

-- a side's number; an axis's is its `place`: 0 x, 1 y, 2 z
abbrev pub side_number : Side → ℕ
side_number Below = 0
side_number Above = 1

-- "level, box, axis .. and side": level, depths of t, u, v, indices of t, u, v, axis, side
abbrev pub nine : Reason → List ℕ
nine x =
    x.level
    ∷ x.depths.t ∷ x.depths.u ∷ x.depths.v
    ∷ x.index.t ∷ x.index.u ∷ x.index.v
    ∷ place x.axis ∷ side_number x.side
    ∷ []

-- a refusal tells none
abbrev pub told_why : Ruling → List ℕ
told_why (Discarded x) = nine x
told_why (Refused number) = []
