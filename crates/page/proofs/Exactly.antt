-- That 15 is given exactly when the input is over 65,536 bytes.
use Rattle.std.specs.Prelude.{ℕ, ◌<◌, ◌≡◌, refl, Bool, true, false, List, ltb, length}
use Rattle.std.proofs.Common.{sym, ◌∙◌, arith, ltb-true, ltb-false}
use Rattle.page.specs.Page.{sweep_refusal}
use Rattle.page.specs.Laws.{long, short, open_most}

over : (s : List ℕ) (b : Bool) → ltb 65536 (length s) ≡ b → sweep_refusal s ≡ 15 → 65536 < length s
over s true e h = ltb-true 65536 (length s) e
over s false e h = absurd (omega (arith, sym h ∙ short s (ltb-false 65536 (length s) e), open_most s))

pub fifteen_exactly : (s : List ℕ) → (65536 < length s → sweep_refusal s ≡ 15) × (sweep_refusal s ≡ 15 → 65536 < length s)
fifteen_exactly s = (long s, over s (ltb 65536 (length s)) refl)
