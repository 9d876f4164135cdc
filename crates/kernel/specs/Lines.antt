-- Over another denominator a kernel scales; along each parameter it is a straight line.
use Rattle.std.specs.Prelude.{◌≡◌, List, [], ◌∷◌, ℕ, ◌+◌, ℤ, pos, ◌+ℤ◌, ◌*ℤ◌}
use Rattle.whole.specs.Ring.{Ex, var, ◌:+◌, ◌:*◌, ◌:-◌}
use Rattle.whole.proofs.Ring.{ring}
use Rattle.kernel.specs.declared.Kernel.{Kernel}
use Rattle.kernel.specs.Kernel.{kern}

-- expressions over q, a, b, c (0 to 3) and the six numbers (4 to 9); what else there is stands behind them
abbrev kern_e : Ex → Ex → Ex → Ex → Ex
kern_e q a b c = (q :- a) :* (q :* var 4 :+ b :* var 5 :+ c :* var 6) :+ a :* (q :* var 7 :+ b :* var 8 :+ c :* var 9)

abbrev with : Kernel → ℤ → ℤ → ℤ → ℤ → List ℤ → List ℤ
with K q a b c more = q ∷ a ∷ b ∷ c ∷ K.a0 ∷ K.b0 ∷ K.c0 ∷ K.a1 ∷ K.b1 ∷ K.c1 ∷ more

pub kern_scale : (K : Kernel) (p q a b c : ℤ) → kern K (p *ℤ q) (p *ℤ a) (p *ℤ b) (p *ℤ c) ≡ (p *ℤ p) *ℤ kern K q a b c
unfolding kern
kern_scale K p q a b c =
    ring (with K q a b c (p ∷ []))
    (kern_e (var 10 :* var 0) (var 10 :* var 1) (var 10 :* var 2) (var 10 :* var 3))
    ((var 10 :* var 10) :* kern_e (var 0) (var 1) (var 2) (var 3))
    tt

-- at d of the d + e steps from one end to the other
module _ (K : Kernel) (q : ℤ) (d e : ℕ) (a b c : ℤ) where
  abbrev values : List ℤ
  values = with K q a b c (pos d ∷ pos e ∷ [])

  pub line_t : pos (d + e) *ℤ kern K q (a +ℤ pos d) b c ≡ pos e *ℤ kern K q a b c +ℤ pos d *ℤ kern K q (a +ℤ pos (d + e)) b c
  unfolding kern
  line_t =
      ring values
      ((var 10 :+ var 11) :* kern_e (var 0) (var 1 :+ var 10) (var 2) (var 3))
      (var 11 :* kern_e (var 0) (var 1) (var 2) (var 3) :+ var 10 :* kern_e (var 0) (var 1 :+ (var 10 :+ var 11)) (var 2) (var 3))
      tt

  pub line_u : pos (d + e) *ℤ kern K q a (b +ℤ pos d) c ≡ pos e *ℤ kern K q a b c +ℤ pos d *ℤ kern K q a (b +ℤ pos (d + e)) c
  unfolding kern
  line_u =
      ring values
      ((var 10 :+ var 11) :* kern_e (var 0) (var 1) (var 2 :+ var 10) (var 3))
      (var 11 :* kern_e (var 0) (var 1) (var 2) (var 3) :+ var 10 :* kern_e (var 0) (var 1) (var 2 :+ (var 10 :+ var 11)) (var 3))
      tt

  pub line_v : pos (d + e) *ℤ kern K q a b (c +ℤ pos d) ≡ pos e *ℤ kern K q a b c +ℤ pos d *ℤ kern K q a b (c +ℤ pos (d + e))
  unfolding kern
  line_v =
      ring values
      ((var 10 :+ var 11) :* kern_e (var 0) (var 1) (var 2) (var 3 :+ var 10))
      (var 11 :* kern_e (var 0) (var 1) (var 2) (var 3) :+ var 10 :* kern_e (var 0) (var 1) (var 2) (var 3 :+ (var 10 :+ var 11)))
      tt
