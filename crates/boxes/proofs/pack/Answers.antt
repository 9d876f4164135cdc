use mathlib.Core.Path.{◌≡◌, ap, ◌∙◌}
use Prim.Native.Nat.{ℕ, ◌+◌, ◌*◌, ◌^◌}
use lib.Dec.{lit≤}
use lib.Bits.{bit_or, or_shifted}
use lib.Pow.{shl_exact, shl_lt}
use native.Mathlib.Omega.{arith}
use Rattle.boxes.proofs.pack.Goals as goal

-- Nothing is shifted out, and each `|` adds below the digits that are shifted in.
pub returns : goal.returns
returns c =
    let g : c.args.b.t * 2 ^ 40 + c.args.b.u * 2 ^ 20 ≡ (c.args.b.t * 2 ^ 20 + c.args.b.u) * 2 ^ 20 = omega arith in
    rw (shl_exact 20 40 64 c.requires.t (lit≤ tt), shl_exact 20 20 64 c.requires.u (lit≤ tt), or_shifted c.args.b.t 40 (c.args.b.u * 2 ^ 20) (shl_lt 20 20 c.requires.u))
    (ap (λ (k : ℕ). bit_or k c.args.b.v) g ∙ or_shifted (c.args.b.t * 2 ^ 20 + c.args.b.u) 20 c.args.b.v c.requires.v ∙ omega arith)
