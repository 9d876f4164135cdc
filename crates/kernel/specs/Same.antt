-- The kernel form is that of equations (1) and (2), and a pair made of a record's kernels asks what the record asks.
use Rattle.std.specs.Prelude.{◌≡◌, Bool, List, [], ◌∷◌, ℕ, ◌+◌, ℤ, pos}
use Rattle.std.proofs.Math.Bool.{true, false}
use Rattle.whole.specs.Ring.{Ex, var, ◌:+◌, ◌:*◌, ◌:-◌}
use Rattle.whole.proofs.Ring.{ring}
use Rattle.rules.specs.declared.Axis.{Axis}
use Rattle.rules.specs.Gap.{moving, vertex_face, edge_edge, gap_on}
use Rattle.kernel.specs.Kernel.{kern, coordinate, kernel_of}

-- expressions over q, a, b, c (0 to 3), and the four coordinates at the start (4 to 7) and at the end (8 to 11)
abbrev moving_e : ℕ → Ex
moving_e i = (var 0 :- var 1) :* var (4 + i) :+ var 1 :* var (8 + i)

abbrev kern_e : Ex → Ex → Ex → Ex → Ex → Ex → Ex
kern_e a0 b0 c0 a1 b1 c1 = (var 0 :- var 1) :* (var 0 :* a0 :+ var 2 :* b0 :+ var 3 :* c0) :+ var 1 :* (var 0 :* a1 :+ var 2 :* b1 :+ var 3 :* c1)

module _ (points : List ℤ) (axis : Axis) (q a b c : ℕ) where
  abbrev at : ℕ → ℤ
  at = coordinate points axis

  abbrev values : List ℤ
  values = pos q ∷ pos a ∷ pos b ∷ pos c ∷ at 0 ∷ at 1 ∷ at 2 ∷ at 3 ∷ at 4 ∷ at 5 ∷ at 6 ∷ at 7 ∷ []

  pub gap_kernel : (is_face : Bool) → gap_on is_face points axis q a b c ≡ kern (kernel_of is_face points axis) (pos q) (pos a) (pos b) (pos c)
  unfolding gap_on moving vertex_face edge_edge kern kernel_of
  gap_kernel true =
      ring values
      (var 0 :* moving_e 0 :- ((var 0 :- var 2 :- var 3) :* moving_e 1 :+ var 2 :* moving_e 2 :+ var 3 :* moving_e 3))
      (kern_e (var 4 :- var 5) (var 5 :- var 6) (var 5 :- var 7) (var 8 :- var 9) (var 9 :- var 10) (var 9 :- var 11))
      tt
  gap_kernel false =
      ring values
      (((var 0 :- var 2) :* moving_e 0 :+ var 2 :* moving_e 1) :- ((var 0 :- var 3) :* moving_e 2 :+ var 3 :* moving_e 3))
      (kern_e (var 4 :- var 6) (var 5 :- var 4) (var 6 :- var 7) (var 8 :- var 10) (var 9 :- var 8) (var 10 :- var 11))
      tt
