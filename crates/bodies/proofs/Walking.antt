-- A list of queries heard part by part: what is left gives the whole list's answer.
--     Going        the invariant of all three loops
--     going_asks   the next part may be heard, and `going_more` when it was; `going_over` where it ended the walk
--     pair_next, each_next   the next part of a pair's queries, of a row's and of the bodies'
-- Assumes nothing.
use Prim.Native.Nat.{ℕ, zero, suc, ◌+◌, ◌-◌, ◌≤◌, ◌<◌}
use mathlib.Core.Path.{◌≡◌, refl, sym, ap, subst, ◌∙◌}
use mathlib.Core.Bool.{Bool, true, false, cond}
use mathlib.Core.List.{List, [], ◌∷◌, ◌++◌, append_assoc}
use native.Mathlib.Omega.{arith}
use lib.IntN.{ℤ}
use lib.ListN.{length, drop, replicate}
use lib.Seq.{drop-cons}
use Rattle.rules.specs.declared.Told.{Told}
use Rattle.rules.specs.declared.Terms.{Terms}
use Rattle.rules.specs.declared.Ask.{Ask}
use Rattle.rules.specs.declared.BodyAnswer.{BodyAnswer}
use Rattle.rules.specs.Answers.{told}
use Rattle.rules.specs.Refusals.{search_refusal}
use Rattle.rules.specs.Search.{search as searched}
use Rattle.rules.specs.Bodies.{Body, Asked, face, fifteen, ask_of, asked_from, each_from, queries_of, heard, cap_of, capped, is_over, hear_next, hear_all}
use Rattle.triangles.specs.Members.{All, parts}
use Rattle.triangles.specs.InOrder.{hear_all_append}
use Rattle.promise.proofs.Bodies.Promised.{caps_in_step}
use Rattle.bounds.specs.Reach.{body}
use Rattle.bodies.specs.Counted.{hear_over}
use Rattle.bodies.specs.Walk.{positions, SumRoom, Grows, ToHear, Heard, query_alone, row_queries}

-- ---- one query

pub heard_one : (words : ℕ) (sofar : BodyAnswer) (q : Asked) (n : Told) (r : BodyAnswer) → is_over sofar ≡ false → n ≡ told (searched (capped (cap_of sofar) q.ask) words)
    → r ≡ heard sofar q n → r ≡ hear_all words sofar (q ∷ [])
unfolding hear_all hear_next
heard_one words sofar q n r o e h =
    h ∙ ap (heard sofar q) e ∙ ap (λ (x : Bool). cond x sofar (heard sofar q (told (searched (capped (cap_of sofar) q.ask) words)))) (sym o)

pub not_refused : (words : ℕ) (q : Asked) → All (λ q. search_refusal q.ask words ≡ 0) (q ∷ []) → search_refusal q.ask words ≡ 0
unfolding All
not_refused words q h = h.0

-- ---- part by part

pub record Going (n : ℕ) (all left : List Asked) (before queue : List ℕ) (first sofar : BodyAnswer) : Type 0 where
  pub same : hear_all (length before) first all ≡ hear_all (length before) sofar left
  pub none : All (λ q. search_refusal q.ask (length before) ≡ 0) left
  pub kept : queue ≡ before
  pub grows : Grows n first sofar
  pub step : cap_of sofar ≤ 1048576

pub going_none : (m : ℕ) (all left : List Asked) (queue : List ℕ) (first : BodyAnswer) → left ≡ all → ToHear m all queue first → Going 0 all left queue queue first first
going_none m all left queue first e h =
    subst (λ (l : List Asked). Going 0 all l queue queue first first) (sym e) (record { same = refl; none = h.none; kept = refl; grows = omega arith; step = h.step })

module _ (n m : ℕ) (all left ps qs : List Asked) (before queue : List ℕ) (first sofar : BodyAnswer) (g : Going n all left before queue first sofar) (e : left ≡ ps ++ qs) where
  none_left : All (λ q. search_refusal q.ask (length before) ≡ 0) (ps ++ qs)
  none_left = subst (All (λ q. search_refusal q.ask (length before) ≡ 0)) e g.none

  -- none of the next part is refused
  pub going_first : All (λ q. search_refusal q.ask (length before) ≡ 0) ps
  going_first = (parts (λ q. search_refusal q.ask (length before) ≡ 0) ps qs none_left).0

  pub going_asks : is_over sofar ≡ false → (room : ℕ) → n + m ≤ room → before ≡ replicate (length before) 0 → SumRoom room first → ToHear m ps queue sofar
  going_asks o room l z s =
      subst (λ (w : List ℕ). ToHear m ps w sofar) (sym g.kept)
      (record { none = going_first; zero = z; room = omega (arith, g.grows, s, l); step = g.step; goes = o })

  pub going_more : (next : ℕ) → n + m ≤ next → (queue' : List ℕ) (r : BodyAnswer) → Heard m ps queue queue' sofar r → Going next all qs before queue' first r
  going_more next l queue' r h =
      let s : r ≡ hear_all (length before) sofar ps = h.says ∙ ap (λ (w : List ℕ). hear_all (length w) sofar ps) g.kept in
      record {
        same = g.same ∙ ap (hear_all (length before) sofar) e ∙ hear_all_append (length before) sofar ps qs ∙ ap (λ (x : BodyAnswer). hear_all (length before) x qs) (sym s);
        none = (parts (λ q. search_refusal q.ask (length before) ≡ 0) ps qs none_left).1;
        kept = h.kept ∙ g.kept;
        grows = omega (arith, g.grows, h.grows, l);
        step = subst (λ (x : BodyAnswer). cap_of x ≤ 1048576) (sym s) (caps_in_step (length before) ps sofar g.step);
      }

pub going_all : (n m : ℕ) (all left : List Asked) (before queue : List ℕ) (first sofar : BodyAnswer) → Going n all left before queue first sofar → left ≡ [] → n ≤ m
    → Heard m all before queue first sofar
unfolding hear_all
going_all n m all left before queue first sofar g e l =
    record { says = sym (g.same ∙ ap (hear_all (length before) sofar) e); kept = g.kept; grows = omega (arith, g.grows, l) }

-- what is left has no part in a walk that is over
pub going_over : (n m : ℕ) (all left : List Asked) (before queue : List ℕ) (first sofar : BodyAnswer) → Going n all left before queue first sofar → is_over sofar ≡ true → n ≤ m
    → Heard m all before queue first sofar
going_over n m all left before queue first sofar g o l =
    record { says = hear_over (length before) sofar left o ∙ sym g.same; kept = g.kept; grows = omega (arith, g.grows, l) }

-- ---- what is left of a pair's queries

module _ (w : Terms) (a b : Body) (i j : ℕ) where
  abbrev pub pair_left : ℕ → List Asked
  pair_left k = asked_from w a b i j (1 + k) (drop k fifteen)

  pub pair_next : (k : ℕ) → k < 15 → pair_left k ≡ query_alone w a b i j k ++ pair_left (k + 1)
  unfolding asked_from
  pair_next k l =
      let n : 1 + k + 1 ≡ 1 + (k + 1) = omega arith in
      let s : suc k ≡ k + 1 = omega arith in
      ap (asked_from w a b i j (1 + k)) (drop-cons fifteen k (face 0 3 4 5) l)
      ∙ ap (λ (x : ℕ). query_alone w a b i j k ++ asked_from w a b i j x (drop (suc k) fifteen)) n
      ∙ ap (λ (x : ℕ). query_alone w a b i j k ++ asked_from w a b i j (1 + (k + 1)) (drop x fifteen)) s

  pub pair_end : (k : ℕ) → k ≡ 15 → pair_left k ≡ []
  unfolding asked_from
  pair_end k e = ap pair_left e

-- ---- what is left of lists one after the other

each_add : (f : ℕ → List Asked) (i a b : ℕ) → each_from i (a + b) f ≡ each_from i a f ++ each_from (i + a) b f
unfolding each_from
each_add f i zero b =
    let e : 0 + b ≡ b = omega arith in
    let at : i ≡ i + 0 = omega arith in
    ap (λ (x : ℕ). each_from i x f) e ∙ ap (λ (x : ℕ). each_from x b f) at
each_add f i (suc a) b =
    let e : suc a + b ≡ suc (a + b) = omega arith in
    let at : i + 1 + a ≡ i + suc a = omega arith in
    ap (λ (x : ℕ). each_from i x f) e
    ∙ ap (λ (l : List Asked). f i ++ l) (each_add f (i + 1) a b ∙ ap (λ (x : ℕ). each_from (i + 1) a f ++ each_from x b f) at)
    ∙ sym (append_assoc (f i) (each_from (i + 1) a f) (each_from (i + suc a) b f))

module _ (n : ℕ) (f : ℕ → List Asked) where
  abbrev pub each_left : ℕ → List Asked
  each_left i = each_from i (n - i) f

  pub each_start : each_left 0 ≡ each_from 0 n f
  each_start = let e : n - 0 ≡ n = omega arith in ap (λ (x : ℕ). each_from 0 x f) e

  pub each_next : (i : ℕ) → i < n → each_left i ≡ f i ++ each_left (i + 1)
  unfolding each_from
  each_next i l = let e : n - i ≡ suc (n - (i + 1)) = omega arith in ap (λ (x : ℕ). each_from i x f) e

  pub each_end : (i : ℕ) → i ≡ n → each_left i ≡ []
  unfolding each_from
  each_end i e = let z : n - i ≡ 0 = omega (arith, e) in ap (λ (x : ℕ). each_from i x f) z

-- up to another
pub each_stretch : (n : ℕ) (f : ℕ → List Asked) (from near : ℕ) → from ≤ near → near ≤ n → each_left n f from ≡ each_from from (near - from) f ++ each_left n f near
each_stretch n f from near l m =
    let e : n - from ≡ (near - from) + (n - near) = omega arith in
    let at : from + (near - from) ≡ near = omega arith in
    ap (λ (x : ℕ). each_from from x f) e ∙ each_add f from (near - from) (n - near) ∙ ap (λ (x : ℕ). each_from from (near - from) f ++ each_from x (n - near) f) at

-- ---- how many triangles there are has no part in a query

each_same : (f g : ℕ → List Asked) → ((x : ℕ) → f x ≡ g x) → (i n : ℕ) → each_from i n f ≡ each_from i n g
unfolding each_from
each_same f g e i zero = refl
each_same f g e i (suc n) = ap (λ (x : List Asked). x ++ each_from (i + 1) n f) (e i) ∙ ap (λ (x : List Asked). g i ++ x) (each_same f g e (i + 1) n)

module _ (w : Terms) (m : ℕ) (a0 a1 : List ℤ) (n : ℕ) (b0 b1 : List ℤ) where
  pair_same : (i j k : ℕ) (ks : List Ask) → asked_from w (body m a0 a1) (body n b0 b1) i j k ks ≡ asked_from w (positions a0 a1) (positions b0 b1) i j k ks
  unfolding asked_from ask_of
  pair_same i j k [] = refl
  pair_same i j k (x ∷ ks) =
      ap (λ (l : List Asked). record { a = i; b = j; query = k; ask = ask_of w (positions a0 a1) (positions b0 b1) i j x } ∷ l) (pair_same i j (k + 1) ks)

  pub queries_same : queries_of w (body m a0 a1) (body n b0 b1) ≡ each_from 0 m (λ i. row_queries w (positions a0 a1) (positions b0 b1) i n)
  unfolding queries_of
  queries_same = each_same _ _ (λ i. each_same _ _ (λ j. pair_same i j 1 fifteen) 0 n) 0 m
