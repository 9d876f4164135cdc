-- What is passed over: triangles that are apart, one by one or by the bounds of their blocks.
--     block_distant   by the bound of its block, a triangle of B is apart from a triangle of A
--     rows_distant    by the bounds of their blocks, a triangle of A is apart from each of B
-- Assumes nothing.
use Rattle.std.specs.Prelude.{◌≡◌, refl, Bool, true, false, List, ℕ, ◌+◌, ◌*◌, ◌/◌, ◌≤◌, ◌<◌, ltb, ℤ, length}
use Rattle.std.proofs.Common.{sym, ap, subst, ◌∙◌, arith, ltb-true, ltb-false}
use Rattle.whole.specs.View.{zed, minus_view}
use Rattle.rules.specs.declared.Axis.{Axis}
use Rattle.rules.specs.declared.Terms.{Terms}
use Rattle.rules.specs.Gap.{place}
use Rattle.rules.specs.Bounds.{blocks}
use Rattle.gap.specs.declared.span.Span.{Span}
use Rattle.bounds.specs.declared.reach.Reach.{Reach}
use Rattle.bounds.specs.Reach.{body, reach_at, on_reach}
use Rattle.bounds.specs.Block.{Inside, InBlock, inside_block}
use Rattle.bounds.specs.Lists.{lent_span, BoundIs, length_bounds, bound_reaches, block_before}
use Rattle.bodies.specs.Walk.{Lent}
use Rattle.bodies.specs.Between.{Further, over, under}
use Rattle.bodies.specs.Apart.{separation_in, Distant, distant, DistantFrom, distant_from}

-- ---- every one from one on, before another

pub record Passed (P : ℕ → Type 0) (from n next : ℕ) : Type 0 where
  pub later : from ≤ next
  pub most : next ≤ n
  pub each : (x : ℕ) → from ≤ x → x < next → P x

module _ {P : ℕ → Type 0} {from n : ℕ} where
  pub passed_none : from ≤ n → Passed P from n from
  passed_none l = record { later = omega arith; most = l; each = λ x f g. absurd (omega arith) }

  -- those from there on, too
  pub passed_on : {mid next : ℕ} → Passed P from n mid → mid ≤ next → next ≤ n → ((x : ℕ) → mid ≤ x → x < next → P x) → Passed P from n next
  passed_on {mid} {next} p l m h = record { later = omega (arith, p.later); most = m; each = λ x f g. by x f g (ltb x mid) refl }
    where
      by : (x : ℕ) → from ≤ x → x < next → (t : Bool) → ltb x mid ≡ t → P x
      by x f g true e = p.each x f (ltb-true x mid e)
      by x f g false e = h x (ltb-false x mid e) g

  -- one more
  pub passed_one : {near : ℕ} → Passed P from n near → near < n → P near → Passed P from n (near + 1)
  passed_one {near} p l h = passed_on p (omega arith) (omega arith) (λ x f g. let e : near ≡ x = omega arith in subst P e h)

-- ---- the bounds that are lent

-- a block's bound stands in them, and every block's
abbrev pub HasBound : List ℤ → ℕ → Type 0
HasBound bounds block = 0 < length bounds → 6 * block + 6 ≤ length bounds

pub record HasBounds (bounds : List ℤ) (n : ℕ) : Type 0 where
  pub few : n ≤ 256
  pub some : 0 < n
  pub long : 0 < length bounds → length bounds ≡ 6 * blocks n

pub has_bounds : (n : ℕ) (s e bounds : List ℤ) → 0 < n → n ≤ 256 → Lent n s e bounds → HasBounds bounds n
has_bounds n s e bounds o l h = record { few = l; some = o; long = λ z. ap length (h z) ∙ length_bounds (body n s e) (blocks n) }

pub has_bound : {bounds : List ℤ} {n : ℕ} → HasBounds bounds n → (block : ℕ) → 32 * block < n → HasBound bounds block
has_bound {bounds} {n} h block l z = omega (arith, h.long z, block_before n block l)

-- a body's triangles, its bounds where they are lent, and one of them
pub record Near (n : ℕ) (s e bounds : List ℤ) (from : ℕ) : Type 0 where
  pub before : from ≤ n
  pub start : 9 * n ≤ length s
  pub end : 9 * n ≤ length e
  pub few : n ≤ 256
  pub lent : Lent n s e bounds

-- ---- apart by bounds

-- what is reached, and a block
pub data Asunder (w : Terms) (r : Reach) (bounds : List ℤ) (block : ℕ) : Type 0 where
  asunder : 0 < length bounds → (axis : Axis) → Further (on_reach r axis) (lent_span bounds (6 * block + place axis)) (separation_in w axis) → Asunder w r bounds block

abbrev pub AllAsunder : Terms → Reach → List ℤ → ℕ → Type 0
AllAsunder w r bounds n = (block : ℕ) → 32 * block < n → Asunder w r bounds block

-- a block of A, and all blocks of B
pub record AloneBy (w : Terms) (of_a of_b : List ℤ) (n block : ℕ) : Type 0 where
  pub lent : 0 < length of_a
  pub reach : Reach
  pub is : BoundIs of_a block reach
  pub all : AllAsunder w reach of_b n

-- a triangle of A, by its block
pub record Alone (w : Terms) (of_a of_b : List ℤ) (n i : ℕ) : Type 0 where
  pub block : ℕ
  pub from : 32 * block ≤ i
  pub until : i < 32 * block + 32
  pub by_bounds : AloneBy w of_a of_b n block

further_inside : {P Q P' Q' : Span} {d : ℕ} → Inside P P' → Inside Q Q' → Further P' Q' d → Further P Q d
further_inside {P} {Q} {P'} {Q'} h k (over f) = over (omega (zed, minus_view P'.least Q'.greatest, minus_view P.least Q.greatest, h.above, k.below, f))
further_inside {P} {Q} {P'} {Q'} h k (under f) = under (omega (zed, minus_view Q'.least P'.greatest, minus_view Q.least P.greatest, h.below, k.above, f))

-- in its block's bound
inside_lent : (n : ℕ) (s e bounds : List ℤ) (block x : ℕ) (axis : Axis) → Lent n s e bounds → 0 < length bounds → InBlock n block x → Inside (reach_at s e (9 * x + place axis)) (lent_span bounds (6 * block + place axis))
inside_lent n s e bounds block x axis h z b =
    subst (Inside (reach_at s e (9 * x + place axis)))
    (sym (bound_reaches (body n s e) (blocks n) block axis (block_before n block (omega (arith, b.from, b.there)))) ∙ ap (λ (l : List ℤ). lent_span l (6 * block + place axis)) (sym (h z)))
    (inside_block n s e block x axis b)

inside_same : (P : Span) → Inside P P
inside_same P = record { above = omega zed; below = omega zed }

pub block_distant : {w : Terms} {r : Reach} {n : ℕ} {s e bounds : List ℤ} {block x : ℕ} → Lent n s e bounds → Asunder w r bounds block → InBlock n block x → DistantFrom w r s e x
block_distant {w} {r} {n} {s} {e} {bounds} {block} {x} h (asunder z axis f) b = distant_from axis (further_inside (inside_same (on_reach r axis)) (inside_lent n s e bounds block x axis h z b) f)

pub rows_distant : {w : Terms} {m n : ℕ} {a0 a1 b0 b1 of_a of_b : List ℤ} {i j : ℕ} → Lent m a0 a1 of_a → Lent n b0 b1 of_b → i < m → j < n → Alone w of_a of_b n i → Distant w a0 a1 b0 b1 i j
rows_distant {w} {m} {n} {a0} {a1} {b0} {b1} {of_a} {of_b} {i} {j} ha hb li lj g = by (g.by_bounds.all (j / 32) (omega arith))
  where
    by : Asunder w g.by_bounds.reach of_b (j / 32) → Distant w a0 a1 b0 b1 i j
    by (asunder z axis f) =
        distant axis
        (further_inside (inside_lent m a0 a1 of_a g.block i axis ha g.by_bounds.lent (record { from = g.from; until = g.until; there = li }))
        (inside_lent n b0 b1 of_b (j / 32) j axis hb z (record { from = omega arith; until = omega arith; there = lj }))
        (subst (λ (P : Span). Further P (lent_span of_b (6 * (j / 32) + place axis)) (separation_in w axis)) (g.by_bounds.is.is axis) f))
