-- What holds of every query of two bodies holds of query k of the pair i, j, and the other way round.
--     member   of all: of each
--     all_of   of each: of all
-- Assumes nothing.
use Prim.Native.Nat.{ℕ, zero, suc, ◌+◌, ◌<◌}
use Rattle.std.specs.Prelude.{◌≡◌, length, get_or}
use Rattle.std.proofs.Math.Path.{refl, subst}
use mathlib.Core.List.{List, [], ◌∷◌, ◌++◌}
use Rattle.std.proofs.Common.{arith}
use Rattle.rules.specs.declared.Terms.{Terms}
use Rattle.rules.specs.declared.Ask.{Ask}
use Rattle.rules.specs.Bodies.{Body, Asked, face, fifteen, ask_of, asked_from, each_from, queries_of}

-- query k of the fifteen, from 0 on; past the fifteenth the first, which is never asked
abbrev pub ask_at : ℕ → Ask
ask_at k = get_or fifteen k (face 0 3 4 5)

unfoldable pub All : (Asked → Type 0) → List Asked → Type 0
All P [] = Unit {0}
All P (q ∷ qs) = P q × All P qs

-- query n of the pair i, j
abbrev pub asked : Terms → Body → Body → ℕ → ℕ → ℕ → Ask → Asked
asked w a b i j n k = record { a = i; b = j; query = n; ask = ask_of w a b i j k }

module _ (P : Asked → Type 0) where
  pub parts : (ps qs : List Asked) → All P (ps ++ qs) → All P ps × All P qs
  unfolding All
  parts [] qs h = (tt, h)
  parts (p ∷ ps) qs h = let r = parts ps qs h.1 in ((h.0, r.0), r.1)

  both : (ps qs : List Asked) → All P ps → All P qs → All P (ps ++ qs)
  unfolding All
  both [] qs h g = g
  both (p ∷ ps) qs h g = (h.0, both ps qs h.1 g)

  in_each : (i n m x : ℕ) (f : ℕ → List Asked) → i + m ≡ x → m < n → All P (each_from i n f) → All P (f x)
  unfolding each_from
  in_each i zero m x f e l h = absurd (omega arith)
  in_each i (suc n) zero x f e l h =
      let at : i ≡ x = omega (arith, e) in
      subst (λ (y : ℕ). All P (f y)) at (parts (f i) (each_from (i + 1) n f) h).0
  in_each i (suc n) (suc m) x f e l h = in_each (i + 1) n m x f (omega (arith, e)) (omega arith) (parts (f i) (each_from (i + 1) n f) h).1

  of_each : (i n : ℕ) (f : ℕ → List Asked) → ((m x : ℕ) → i + m ≡ x → m < n → All P (f x)) → All P (each_from i n f)
  unfolding All each_from
  of_each i zero f h = tt
  of_each i (suc n) f h =
      both (f i) (each_from (i + 1) n f) (h 0 i (omega arith) (omega arith))
      (of_each (i + 1) n f (λ m x e l. h (suc m) x (omega (arith, e)) (omega arith)))

  module _ (w : Terms) (a b : Body) where
    in_pair : (i j n k x : ℕ) (ks : List Ask) (d : Ask) → n + k ≡ x → k < length ks → All P (asked_from w a b i j n ks) → P (asked w a b i j x (get_or ks k d))
    unfolding All asked_from
    in_pair i j n k x [] d e l h = absurd (omega arith)
    in_pair i j n zero x (c ∷ ks) d e l h =
        let at : n ≡ x = omega (arith, e) in
        subst (λ (y : ℕ). P (asked w a b i j y c)) at h.0
    in_pair i j n (suc k) x (c ∷ ks) d e l h = in_pair i j (n + 1) k x ks d (omega (arith, e)) (omega arith) h.1

    of_pair : (i j n : ℕ) (ks : List Ask) (d : Ask) → ((k x : ℕ) → n + k ≡ x → k < length ks → P (asked w a b i j x (get_or ks k d))) → All P (asked_from w a b i j n ks)
    unfolding All asked_from
    of_pair i j n [] d h = tt
    of_pair i j n (c ∷ ks) d h = (h 0 n (omega arith) (omega arith), of_pair i j (n + 1) ks d (λ k x e l. h (suc k) x (omega (arith, e)) (omega arith)))

    pub member : (i j k : ℕ) → i < a.count → j < b.count → k < 15 → All P (queries_of w a b) → P (asked w a b i j (1 + k) (ask_at k))
    unfolding queries_of
    member i j k li lj lk h =
        in_pair i j 1 k (1 + k) fifteen (face 0 3 4 5) refl lk
        (in_each 0 b.count j j (λ y. asked_from w a b i y 1 fifteen) (omega arith) lj
        (in_each 0 a.count i i (λ x. each_from 0 b.count (λ y. asked_from w a b x y 1 fifteen)) (omega arith) li h))

    pub all_of : ((i j k : ℕ) → i < a.count → j < b.count → k < 15 → P (asked w a b i j (1 + k) (ask_at k))) → All P (queries_of w a b)
    unfolding queries_of
    all_of h =
        of_each 0 a.count _ (λ i i' ei li. of_each 0 b.count _ (λ j j' ej lj. of_pair i' j' 1 fifteen (face 0 3 4 5) (λ k x e lk.
        subst (λ (y : ℕ). P (asked w a b i' j' y (ask_at k))) e (h i' j' k (omega (arith, ei)) (omega (arith, ej)) lk))))
