-- A list with a part of it cleared.
use Rattle.std.specs.Prelude.{◌≡◌, List, ◌++◌, ℕ, ◌+◌, ◌-◌, ◌≤◌, ◌<◌, length, get_or, take, drop, replicate}
use Rattle.std.proofs.Common.{ap, ◌∙◌, arith, length-drop, length-take-le, drop-drop, get_or-take, get_or-drop, get_or-append-add}
use Rattle.std.proofs.lemmas.List.{length-replicate, get_or-replicate}
use Rattle.std.proofs.Math.ListN.{get_or-append}

-- zeros from the start to the end
abbrev pub cleared : ℕ → ℕ → List ℕ → List ℕ
cleared start end l = take start l ++ (replicate (end - start) 0 ++ drop end l)

module _ (start end : ℕ) (l : List ℕ) (order : start ≤ end) (fits : end ≤ length l) where
  -- the part that was lent comes back as zeros
  pub cleared_part : (part : List ℕ) → part ≡ replicate (length (take (end - start) (drop start l))) 0
      → take start l ++ (part ++ drop (end - start) (drop start l)) ≡ cleared start end l
  cleared_part part e =
      let f : start + (end - start) ≡ end = omega arith in
      rw (e, length-take-le (end - start) (drop start l) (rw (length-drop start l) (omega arith)), drop-drop (end - start) start l, f)

  front : length (take start l) ≡ start
  front = length-take-le start l (omega arith)

  pub cleared_before : (a : ℕ) → a < start → get_or (cleared start end l) a 0 ≡ get_or l a 0
  cleared_before a h = get_or-append (take start l) _ 0 a (rw front h) ∙ get_or-take start l a 0 h

  -- past the front
  past : (a : ℕ) → start ≤ a → get_or (cleared start end l) a 0 ≡ get_or (replicate (end - start) 0 ++ drop end l) (a - start) 0
  past a h =
      let e : length (take start l) + (a - start) ≡ a = omega (arith, front) in
      rw e at (get_or-append-add (take start l) (replicate (end - start) 0 ++ drop end l) (a - start) 0)

  pub cleared_in : (a : ℕ) → start ≤ a → a < end → get_or (cleared start end l) a 0 ≡ 0
  cleared_in a h k =
      past a h
      ∙ get_or-append (replicate (end - start) 0) (drop end l) 0 (a - start) (rw (length-replicate {A = ℕ} (end - start) 0) (omega arith))
      ∙ get_or-replicate (end - start) (a - start) 0 0 (omega arith)

  pub cleared_after : (a : ℕ) → end ≤ a → get_or (cleared start end l) a 0 ≡ get_or l a 0
  cleared_after a h =
      let e : length (replicate {A = ℕ} (end - start) 0) + (a - end) ≡ a - start = omega (arith, length-replicate {A = ℕ} (end - start) 0) in
      let f : end + (a - end) ≡ a = omega arith in
      past a (omega arith) ∙ rw e at (get_or-append-add (replicate (end - start) 0) (drop end l) (a - end) 0) ∙ get_or-drop end l (a - end) 0 ∙ ap (λ (i : ℕ). get_or l i 0) f
