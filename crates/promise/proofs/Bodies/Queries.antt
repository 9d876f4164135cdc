-- The queries of two bodies: each is one of the fifteen of a pair, and they stand in order, one after the other.
use Prim.Native.Nat.{ℕ, zero, suc, ◌+◌, ◌*◌, ◌-◌, ◌<◌}
use mathlib.Core.Path.{◌≡◌, refl, ap, subst}
use mathlib.Core.List.{List, [], ◌∷◌, ◌++◌}
use native.Mathlib.Nat.{mul-suc, mul_assoc}
use native.Mathlib.Omega.{arith}
use lib.ListN.{length, length-append}
use Rattle.rules.specs.declared.Terms.{Terms}
use Rattle.rules.specs.declared.Ask.{Ask}
use Rattle.rules.specs.Bodies.{Body, Asked, fifteen, ask_of, asked_from, each_from, queries_of}
use Rattle.triangles.specs.Members.{ask_at, All, all_of}
use Rattle.promise.specs.Bodies.{C1, C2, C3, Way, vertex_face_lem, face_vertex, edge_edge_lem, way, Named, numbered, place_of}

-- ---- each is one of a pair
pub record Listed (w : Terms) (a b : Body) (q : Asked) : Type 0 where
  pub named : Named a b q.a q.b q.query
  pub asks : q.ask ≡ numbered w a b q.a q.b q.query

pub listed : (w : Terms) (a b : Body) → All (Listed w a b) (queries_of w a b)
listed w a b =
    all_of (Listed w a b) w a b (λ i j k li lj lk.
    let at : k ≡ 1 + k - 1 = omega arith in
    record {
      named = record { triangle_of_a = li; triangle_of_b = lj; from_1 = omega arith; to_15 = omega arith };
      asks = ap (λ (n : ℕ). ask_of w a b i j (ask_at n)) at;
    })

-- ---- each way is one of the fifteen
pub record Found (k : Way) : Type 0 where
  pub at : ℕ
  pub is_one : at < 15
  pub asks : ask_at at ≡ way k

pub found : (k : Way) → Found k
found (vertex_face_lem C1) = record { at = 0; is_one = omega arith; asks = refl }
found (vertex_face_lem C2) = record { at = 1; is_one = omega arith; asks = refl }
found (vertex_face_lem C3) = record { at = 2; is_one = omega arith; asks = refl }
found (face_vertex C1) = record { at = 3; is_one = omega arith; asks = refl }
found (face_vertex C2) = record { at = 4; is_one = omega arith; asks = refl }
found (face_vertex C3) = record { at = 5; is_one = omega arith; asks = refl }
found (edge_edge_lem C1 C1) = record { at = 6; is_one = omega arith; asks = refl }
found (edge_edge_lem C1 C2) = record { at = 7; is_one = omega arith; asks = refl }
found (edge_edge_lem C1 C3) = record { at = 8; is_one = omega arith; asks = refl }
found (edge_edge_lem C2 C1) = record { at = 9; is_one = omega arith; asks = refl }
found (edge_edge_lem C2 C2) = record { at = 10; is_one = omega arith; asks = refl }
found (edge_edge_lem C2 C3) = record { at = 11; is_one = omega arith; asks = refl }
found (edge_edge_lem C3 C1) = record { at = 12; is_one = omega arith; asks = refl }
found (edge_edge_lem C3 C2) = record { at = 13; is_one = omega arith; asks = refl }
found (edge_edge_lem C3 C3) = record { at = 14; is_one = omega arith; asks = refl }

-- ---- they stand in order

-- the places of a list of queries, one after the other from n on
unfoldable pub Ranked : Body → ℕ → List Asked → Type 0
Ranked b n [] = Unit {0}
Ranked b n (q ∷ qs) = (place_of b q.a q.b q.query ≡ n) × Ranked b (n + 1) qs

module _ (w : Terms) (a b : Body) where
  from : (qs : List Asked) (m n : ℕ) → Ranked b m qs → m ≡ n → Ranked b n qs
  from qs m n h e = subst (λ (x : ℕ). Ranked b x qs) e h

  append : (n : ℕ) (ps qs : List Asked) → Ranked b n ps → Ranked b (n + length ps) qs → Ranked b n (ps ++ qs)
  unfolding Ranked
  append n [] qs h g = from qs _ _ g (omega arith)
  append n (p ∷ ps) qs h g = (h.0, append (n + 1) ps qs h.1 (from qs _ _ g (omega arith)))

  -- lists of one length
  each_length : (size i n : ℕ) (f : ℕ → List Asked) → ((x : ℕ) → length (f x) ≡ size) → length (each_from i n f) ≡ size * n
  unfolding each_from
  each_length size i zero f h = omega arith
  each_length size i (suc n) f h =
      omega (arith, length-append (f i) (each_from (i + 1) n f), h i, each_length size (i + 1) n f h, mul-suc size n)

  each_ranked : (size start i n : ℕ) (f : ℕ → List Asked) → ((x : ℕ) → length (f x) ≡ size) → ((x : ℕ) → Ranked b (start + size * x) (f x))
      → Ranked b (start + size * i) (each_from i n f)
  unfolding Ranked each_from
  each_ranked size start i zero f h g = tt
  each_ranked size start i (suc n) f h g =
      append (start + size * i) (f i) (each_from (i + 1) n f) (g i)
      (from (each_from (i + 1) n f) (start + size * (i + 1)) (start + size * i + length (f i)) (each_ranked size start (i + 1) n f h g) (omega (arith, h i, mul-suc size i)))

  pair_length : (i j n : ℕ) (ks : List Ask) → length (asked_from w a b i j n ks) ≡ length ks
  unfolding asked_from
  pair_length i j n [] = refl
  pair_length i j n (k ∷ ks) = ap suc (pair_length i j (n + 1) ks)

  pair_ranked : (i j n : ℕ) (ks : List Ask) → Ranked b (place_of b i j n) (asked_from w a b i j n ks)
  unfolding Ranked asked_from
  pair_ranked i j n [] = tt
  pair_ranked i j n (k ∷ ks) = (refl, from (asked_from w a b i j (n + 1) ks) (place_of b i j (n + 1)) (place_of b i j n + 1) (pair_ranked i j (n + 1) ks) (omega arith))

  pub ranked : Ranked b 1 (queries_of w a b)
  unfolding queries_of
  ranked =
      from _ _ _
      (each_ranked (15 * b.count) 1 0 a.count _ (λ i. each_length 15 0 b.count _ (λ j. pair_length i j 1 fifteen)) in_row)
      (omega arith)
    where
      in_row : (i : ℕ) → Ranked b (1 + 15 * b.count * i) (each_from 0 b.count (λ j. asked_from w a b i j 1 fifteen))
      in_row i =
          from _ _ _
          (each_ranked 15 (1 + 15 * b.count * i) 0 b.count _ (λ j. pair_length i j 1 fifteen)
          (λ j. from _ _ _ (pair_ranked i j 1 fifteen) (omega (arith, mul_assoc 15 b.count i))))
          (omega arith)
