-- What is heard of queries that all miss over the whole cube: they are counted, and nothing else.
use Rattle.std.specs.Prelude.{◌≡◌, refl, Bool, true, false, cond, ℕ, zero, suc, ◌+◌, ◌*◌, ◌≤◌, ◌<◌, ℤ, length}
use Rattle.std.proofs.Common.{sym, ap, subst, ◌∙◌, arith, lit<}
use mathlib.Core.List.{List, [], ◌∷◌}
use Rattle.rules.specs.declared.Record.{Record}
use Rattle.rules.specs.declared.Ask.{Ask}
use Rattle.rules.specs.declared.Axis.{Axis}
use Rattle.rules.specs.declared.Axis.TheVariants.{X, Y, Z}
use Rattle.rules.specs.declared.Answer.{Answer}
use Rattle.rules.specs.declared.Answer.TheVariants.{Clear}
use Rattle.rules.specs.declared.BodyAnswer.{BodyAnswer}
use Rattle.rules.specs.declared.BodyAnswer.TheVariants.{Clear as BodyClear, Least, Refused}
use Rattle.rules.specs.declared.Terms.{Terms}
use Rattle.rules.specs.Refusals.{search_refusal}
use Rattle.rules.specs.Answers.{told}
use Rattle.rules.specs.Gap.{place, sided}
use Rattle.rules.specs.Search.{query, origin, least, greatest, over_corners, survives, search}
use Rattle.rules.specs.Bodies.{Asked, sum_of, counted, heard, cap_of, capped, is_over, hear_next, hear_all, fifteen, ask_of, asked_from, each_from, pair_queries}
use Rattle.gap.specs.Prepared.{misses_any}
use Rattle.search.specs.Whole.{search_clear}
use Rattle.triangles.specs.Members.{All, parts}
use Rattle.triangles.specs.InOrder.{capped_none, hear_all_append}
use Rattle.bounds.specs.Reach.{reach_at}
use Rattle.bodies.specs.Between.{Further}
use Rattle.bodies.specs.Walk.{positions, row_queries}
use Rattle.bodies.specs.Apart.{separation_in, Distant, distant, ask, Misses, corners, all_miss}

-- ---- all are clear

-- each of a list of queries
abbrev Each : (Ask → Type 0) → List Ask → Type 0
Each P [] = Unit
Each P (k ∷ ks) = P k × Each P ks

-- whatever the cap is: the whole cube has no part in it
abbrev pub ClearUpTo : ℕ → Record → Type 0
ClearUpTo words r = (cap : ℕ) → cap ≤ 1048576 → search (capped cap r) words ≡ Clear 1

capped_lost : (cap words : ℕ) (r : Record) → survives (query (capped cap r) words) origin origin ≡ survives (query r words) origin origin
unfolding capped sided survives least greatest over_corners
capped_lost cap words r = refl

capped_clear : (r : Record) (words : ℕ) → search_refusal r words ≡ 0 → survives (query r words) origin origin ≡ false → ClearUpTo words r
capped_clear r words e f cap h = search_clear (capped cap r) words (capped_none cap words r h e) (capped_lost cap words r ∙ f)

module _ (w : Terms) (a0 a1 b0 b1 : List ℤ) (i j words : ℕ) where
  one_clear : (axis : Axis) (k : Ask) → Misses w a0 a1 b0 b1 i j axis (corners w a0 a1 b0 b1 i j axis) (separation_in w axis) k → search_refusal (ask w a0 a1 b0 b1 i j axis k) words ≡ 0
      → ClearUpTo words (ask w a0 a1 b0 b1 i j axis k)
  unfolding ask_of
  one_clear X k m e = capped_clear (ask w a0 a1 b0 b1 i j X k) words e (misses_any (ask w a0 a1 b0 b1 i j X k) words X m)
  one_clear Y k m e = capped_clear (ask w a0 a1 b0 b1 i j Y k) words e (misses_any (ask w a0 a1 b0 b1 i j Y k) words Y m)
  one_clear Z k m e = capped_clear (ask w a0 a1 b0 b1 i j Z k) words e (misses_any (ask w a0 a1 b0 b1 i j Z k) words Z m)

  each_clear : (axis : Axis) (n : ℕ) (ks : List Ask) → Each (Misses w a0 a1 b0 b1 i j axis (corners w a0 a1 b0 b1 i j axis) (separation_in w axis)) ks
      → All (λ q. search_refusal q.ask words ≡ 0) (asked_from w (positions a0 a1) (positions b0 b1) i j n ks)
      → All (λ q. ClearUpTo words q.ask) (asked_from w (positions a0 a1) (positions b0 b1) i j n ks)
  unfolding All asked_from
  each_clear axis n [] m h = tt
  each_clear axis n (k ∷ ks) m h = (one_clear axis k m.0 h.0, each_clear axis (n + 1) ks m.1 h.1)

  pub pair_clear : (axis : Axis) → Further (reach_at a0 a1 (9 * i + place axis)) (reach_at b0 b1 (9 * j + place axis)) (separation_in w axis)
      → All (λ q. search_refusal q.ask words ≡ 0) (pair_queries w (positions a0 a1) (positions b0 b1) i j)
      → All (λ q. ClearUpTo words q.ask) (pair_queries w (positions a0 a1) (positions b0 b1) i j)
  pair_clear axis f h =
      let m = all_miss w a0 a1 b0 b1 i j axis (corners w a0 a1 b0 b1 i j axis) (separation_in w axis) f in
      each_clear axis 1 fifteen
      (m 0 (lit< tt), (m 1 (lit< tt), (m 2 (lit< tt), (m 3 (lit< tt), (m 4 (lit< tt), (m 5 (lit< tt), (m 6 (lit< tt), (m 7 (lit< tt), (m 8 (lit< tt), (m 9 (lit< tt), (m 10 (lit< tt), (m 11 (lit< tt), (m 12 (lit< tt), (m 13 (lit< tt), (m 14 (lit< tt), tt)))))))))))))))
      h

-- ---- counted

pub counted_none : (a : BodyAnswer) → counted 0 a ≡ a
unfolding counted
counted_none (BodyClear sum) = let e : sum + 0 ≡ sum = omega arith in ap BodyClear e
counted_none (Least t a b query word excess sum) = let e : sum + 0 ≡ sum = omega arith in ap (Least t a b query word excess) e
counted_none (Refused n) = refl

pub counted_twice : (m n : ℕ) (a : BodyAnswer) → counted n (counted m a) ≡ counted (m + n) a
unfolding counted
counted_twice m n (BodyClear sum) = let e : sum + m + n ≡ sum + (m + n) = omega arith in ap BodyClear e
counted_twice m n (Least t a b query word excess sum) = let e : sum + m + n ≡ sum + (m + n) = omega arith in ap (Least t a b query word excess) e
counted_twice m n (Refused number) = refl

pub counted_sum : (n : ℕ) (a : BodyAnswer) → sum_of (counted n a) ≤ sum_of a + n
unfolding counted sum_of
counted_sum n (BodyClear sum) = omega arith
counted_sum n (Least t a b query word excess sum) = omega arith
counted_sum n (Refused number) = omega arith

heard_clear : (sofar : BodyAnswer) (q : Asked) → heard sofar q (told (Clear 1)) ≡ counted 1 sofar
unfolding heard
heard_clear sofar q = refl

-- the count has no part in the cap
pub counted_over : (n : ℕ) (a : BodyAnswer) → is_over (counted n a) ≡ is_over a
unfolding counted is_over
counted_over n (BodyClear sum) = refl
counted_over n (Least t a b query word excess sum) = refl
counted_over n (Refused number) = refl

counted_cap : (n : ℕ) (a : BodyAnswer) → cap_of (counted n a) ≡ cap_of a
unfolding counted cap_of
counted_cap n (BodyClear sum) = refl
counted_cap n (Least t a b query word excess sum) = refl
counted_cap n (Refused number) = refl

next_clear : (words : ℕ) (sofar : BodyAnswer) (q : Asked) → is_over sofar ≡ false → cap_of sofar ≤ 1048576 → ClearUpTo words q.ask → hear_next words sofar q ≡ counted 1 sofar
unfolding hear_next
next_clear words sofar q o l h =
    ap (λ (x : Bool). cond x sofar (heard sofar q (told (search (capped (cap_of sofar) q.ask) words)))) o
    ∙ ap (λ (a : Answer). heard sofar q (told a)) (h (cap_of sofar) l)
    ∙ heard_clear sofar q

pub hear_clear : (words : ℕ) (sofar : BodyAnswer) (qs : List Asked) → is_over sofar ≡ false → cap_of sofar ≤ 1048576 → All (λ q. ClearUpTo words q.ask) qs
    → hear_all words sofar qs ≡ counted (length qs) sofar
unfolding All hear_all
hear_clear words sofar [] o l h = sym (counted_none sofar)
hear_clear words sofar (q ∷ qs) o l h =
    ap (λ (x : BodyAnswer). hear_all words x qs) (next_clear words sofar q o l h.0)
    ∙ hear_clear words (counted 1 sofar) qs (counted_over 1 sofar ∙ o) (subst (λ (n : ℕ). n ≤ 1048576) (sym (counted_cap 1 sofar)) l) h.1
    ∙ counted_twice 1 (length qs) sofar
    ∙ (let e : 1 + length qs ≡ suc (length qs) = omega arith in ap (λ (n : ℕ). counted n sofar) e)

-- a walk that is over hears no more
pub hear_over : (words : ℕ) (sofar : BodyAnswer) (qs : List Asked) → is_over sofar ≡ true → sofar ≡ hear_all words sofar qs
unfolding hear_all hear_next
hear_over words sofar [] o = refl
hear_over words sofar (q ∷ qs) o =
    hear_over words sofar qs o
    ∙ ap (λ (x : Bool). hear_all words (cond x sofar (heard sofar q (told (search (capped (cap_of sofar) q.ask) words)))) qs) (sym o)

-- ---- parts that are apart

-- heard, they are counted, whatever was heard before
abbrev pub Counts : ℕ → ℕ → List Asked → Type 0
Counts words k qs = (sofar : BodyAnswer) → is_over sofar ≡ false → cap_of sofar ≤ 1048576 → counted k sofar ≡ hear_all words sofar qs

-- none of a list is refused
abbrev pub None : ℕ → List Asked → Type 0
None words qs = All (λ q. search_refusal q.ask words ≡ 0) qs

pub pair_counts : (w : Terms) (a0 a1 b0 b1 : List ℤ) (i j words : ℕ) → Distant w a0 a1 b0 b1 i j → None words (pair_queries w (positions a0 a1) (positions b0 b1) i j)
    → Counts words 15 (pair_queries w (positions a0 a1) (positions b0 b1) i j)
unfolding asked_from
pair_counts w a0 a1 b0 b1 i j words (distant axis f) h sofar o l = sym (hear_clear words sofar (pair_queries w (positions a0 a1) (positions b0 b1) i j) o l (pair_clear w a0 a1 b0 b1 i j words axis f h))

-- n parts that count k each
pub each_counts : (words k : ℕ) (f : ℕ → List Asked) (i n : ℕ) → ((x : ℕ) → i ≤ x → x < i + n → None words (f x) → Counts words k (f x)) → None words (each_from i n f) → Counts words (k * n) (each_from i n f)
unfolding each_from hear_all
each_counts words k f i zero c h sofar o l = (let e : k * 0 ≡ 0 = omega arith in ap (λ (n : ℕ). counted n sofar) e) ∙ counted_none sofar
each_counts words k f i (suc n) c h sofar o l =
    let p = parts (λ q. search_refusal q.ask words ≡ 0) (f i) (each_from (i + 1) n f) h in
    let first = c i (omega arith) (omega arith) p.0 sofar o l in
    let e : k + k * n ≡ k * suc n = omega arith in
    ap (λ (m : ℕ). counted m sofar) (sym e)
    ∙ sym (counted_twice k (k * n) sofar)
    ∙ each_counts words k f (i + 1) n (λ x a b. c x (omega arith) (omega arith)) p.1 (counted k sofar) (counted_over k sofar ∙ o) (subst (λ (m : ℕ). m ≤ 1048576) (sym (counted_cap k sofar)) l)
    ∙ ap (λ (x : BodyAnswer). hear_all words x (each_from (i + 1) n f)) first
    ∙ sym (hear_all_append words sofar (f i) (each_from (i + 1) n f))

-- a triangle of A that is apart from each of B
pub row_counts : (w : Terms) (a0 a1 b0 b1 : List ℤ) (i n words : ℕ) → ((j : ℕ) → j < n → Distant w a0 a1 b0 b1 i j) → None words (row_queries w (positions a0 a1) (positions b0 b1) i n)
    → Counts words (15 * n) (row_queries w (positions a0 a1) (positions b0 b1) i n)
row_counts w a0 a1 b0 b1 i n words h = each_counts words 15 (λ j. pair_queries w (positions a0 a1) (positions b0 b1) i j) 0 n (λ j f g none. pair_counts w a0 a1 b0 b1 i j words (h j (omega arith)) none)
