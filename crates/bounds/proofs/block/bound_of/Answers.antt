use Prim.Native.Nat.{◌+◌, ◌-◌, ◌*◌}
use mathlib.Core.Path.{◌≡◌, refl, ap, ◌∙◌}
use mathlib.Core.List.{[], ◌∷◌}
use Rattle.rules.specs.declared.Axis.TheVariants.{X, Y, Z}
use Rattle.rules.specs.Search.{lesser, greater}
use Rattle.rules.specs.Bounds.{size_of, over_triangles}
use native.Mathlib.Omega.{arith}
use Rattle.bounds.proofs.block.bound_of.Goals as goal

pub returns : goal.returns
returns c =
    let last : c.block_end-end.result - (32 * c.args.block + 1) ≡ size_of c.args.m.count c.args.block - 1 = omega (arith, c.block_end-end.ensures, c.requires.there) in
    λ i.
    (c.ends_on-x.ensures.least X refl ∙ ap (over_triangles lesser c.args.m.start.now c.args.m.end.now X (32 * c.args.block)) last) i
    ∷ (c.ends_on-y.ensures.least Y refl ∙ ap (over_triangles lesser c.args.m.start.now c.args.m.end.now Y (32 * c.args.block)) last) i
    ∷ (c.ends_on-z.ensures.least Z refl ∙ ap (over_triangles lesser c.args.m.start.now c.args.m.end.now Z (32 * c.args.block)) last) i
    ∷ (c.ends_on-x.ensures.greatest X refl ∙ ap (over_triangles greater c.args.m.start.now c.args.m.end.now X (32 * c.args.block)) last) i
    ∷ (c.ends_on-y.ensures.greatest Y refl ∙ ap (over_triangles greater c.args.m.start.now c.args.m.end.now Y (32 * c.args.block)) last) i
    ∷ (c.ends_on-z.ensures.greatest Z refl ∙ ap (over_triangles greater c.args.m.start.now c.args.m.end.now Z (32 * c.args.block)) last) i
    ∷ []
