use Prim.Native.Nat.{ℕ, ◌+◌, ◌*◌}
use mathlib.Core.Path.{◌≡◌, sym, ap, subst, ◌∙◌}
use mathlib.Core.List.{List}
use native.Mathlib.Omega.{arith}
use lib.IntN.{ℤ}
use Rattle.whole.specs.Defs.{min_z, max_z}
use Rattle.rules.specs.declared.Axis.{Axis}
use Rattle.rules.specs.Gap.{place}
use Rattle.rules.specs.Bounds.{over_face}
use Rattle.bounds.specs.Block.{Picked, picked_more, picked_all, least_absorbs, greatest_absorbs}
use Rattle.bounds.proofs.block.ends_on.Goals as goal

-- one triangle more
more : (pick : ℤ → ℤ → ℤ) (absorbs : (v1 v2 v3 v4 f : ℤ) → pick v1 (pick (pick (pick v1 v2) (pick v3 v4)) f) ≡ pick (pick (pick v1 v2) (pick v3 v4)) f) (s e : List ℤ) (axis : Axis) (first i : ℕ) (p : ℕ) (z t r : ℤ)
    → place axis ≡ p → Picked pick s e axis first i z → t ≡ pick (over_face pick s (9 * i + p)) (over_face pick e (9 * i + p)) → r ≡ pick z t → Picked pick s e axis first (i + 1) r
more pick absorbs s e axis first i p z t r h before one both =
    subst (Picked pick s e axis first (i + 1))
    (ap (λ (q : ℕ). pick z (pick (over_face pick s (9 * i + q)) (over_face pick e (9 * i + q)))) h ∙ ap (pick z) (sym one) ∙ sym both)
    (picked_more pick absorbs s e axis first i z before)

pub loop-i-preserved : goal.loop-i-preserved
loop-i-preserved c = record {
  least = λ a h. more min_z least_absorbs c.args.s.now c.args.e.now a c.args.first c.loop-i.i c.args.axis c.loop-i.ends.least _ _ h (c.loop-i.invariant.least a h) c.triangle_ends.ensures.least c.joined-ends.ensures.least;
  greatest = λ a h. more max_z greatest_absorbs c.args.s.now c.args.e.now a c.args.first c.loop-i.i c.args.axis c.loop-i.ends.greatest _ _ h (c.loop-i.invariant.greatest a h) c.triangle_ends.ensures.greatest c.joined-ends.ensures.greatest;
}

pub returns : goal.returns
unfolding min_z max_z
returns c =
    let last : c.loop-i.i ≡ c.args.end = omega (arith, c.requires.some) in
    record {
      least = λ a h. picked_all min_z least_absorbs c.args.s.now c.args.e.now a c.args.first c.args.end _ c.requires.some (subst (λ (n : ℕ). Picked min_z c.args.s.now c.args.e.now a c.args.first n c.loop-i.ends.least) last (c.loop-i.invariant.least a h));
      greatest = λ a h. picked_all max_z greatest_absorbs c.args.s.now c.args.e.now a c.args.first c.args.end _ c.requires.some (subst (λ (n : ℕ). Picked max_z c.args.s.now c.args.e.now a c.args.first n c.loop-i.ends.greatest) last (c.loop-i.invariant.greatest a h));
    }
