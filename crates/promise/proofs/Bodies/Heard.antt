-- What is kept through all that is heard of a list of queries: the answer is the least time, its first holder's own, and no refusal.
use Prim.Native.Nat.{ℕ, zero, suc, ◌+◌, ◌-◌, ◌≤◌}
use mathlib.Core.Path.{◌≡◌, refl, sym, ap, ◌∙◌, subst}
use mathlib.Core.Bool.{Bool, true, false, cond, ◌&&◌}
use mathlib.Core.List.{List, [], ◌∷◌, ◌++◌}
use native.Mathlib.Nat.{le_refl}
use native.Mathlib.Omega.{arith}
use lib.ListN.{take, drop}
use lib.Dec.{T, ltb, ltb→lt, nltb→le, not_T}
use Rattle.rules.specs.declared.Record.{Record}
use Rattle.rules.specs.declared.Terms.{Terms}
use Rattle.rules.specs.declared.Told.{Told}
use Rattle.rules.specs.declared.BodyAnswer.{BodyAnswer}
use Rattle.rules.specs.declared.BodyAnswer.TheVariants.{Clear, Least, Refused}
use Rattle.rules.specs.Answers.{told, has_moment}
use Rattle.rules.specs.Search.{search}
use Rattle.rules.specs.Bodies.{Body, Asked, queries_of, counted, is_less, sum_of, heard, cap_of, capped, is_over, hear_next, hear_all}
use Rattle.triangles.specs.Members.{All}
use Rattle.triangles.specs.InOrder.{hear_all_append}
use Rattle.promise.specs.Bodies.{Named, numbered, place_of, before, walked, IsAsked, Own}
use Rattle.promise.proofs.Bodies.Queries.{Listed, listed, Ranked, ranked}
use Rattle.promise.proofs.Demands.{demand_3}

-- ---- one query more

-- what is heard is the query's own time, or what was before
pub heard_by : (P : BodyAnswer → Type 0) (sofar : BodyAnswer) (q : Asked) (r : Told)
    → (T (has_moment r) → T (is_less r.t sofar) → P (Least r.t q.a q.b q.query r.word r.excess (sum_of sofar + r.count)))
    → ((T (has_moment r) → T (is_less r.t sofar) → ⊥) → P (counted r.count sofar))
    → P (heard sofar q r)
unfolding heard counted
heard_by P sofar q r own kept = by (has_moment r) (is_less r.t sofar) own kept
  where
    now : BodyAnswer
    now = Least r.t q.a q.b q.query r.word r.excess (sum_of sofar)

    by : (h l : Bool) → (T h → T l → P (counted r.count now)) → ((T h → T l → ⊥) → P (counted r.count sofar)) → P (counted r.count (cond (h && l) now sofar))
    by true true f g = f tt tt
    by true false f g = g (λ _ x. x)
    by false l f g = g (λ x _. x)

-- what the walk hears of a query, with the least time so far as its cap
abbrev pub said : ℕ → BodyAnswer → Asked → Told
said words sofar q = told (search (capped (cap_of sofar) q.ask) words)

-- a walk that is over hears no more
pub next_by : (P : BodyAnswer → Type 0) (words : ℕ) (sofar : BodyAnswer) (q : Asked)
    → (is_over sofar ≡ true → P sofar)
    → (is_over sofar ≡ false → P (heard sofar q (said words sofar q)))
    → P (hear_next words sofar q)
unfolding hear_next
next_by P words sofar q over on = by (is_over sofar) over on
  where
    by : (x : Bool) → (x ≡ true → P sofar) → (x ≡ false → P (heard sofar q (said words sofar q))) → P (cond x sofar (heard sofar q (said words sofar q)))
    by true f g = f refl
    by false f g = g refl

next_on : (words : ℕ) (sofar : BodyAnswer) (q : Asked) → is_over sofar ≡ false → heard sofar q (said words sofar q) ≡ hear_next words sofar q
unfolding hear_next
next_on words sofar q o = ap (λ (x : Bool). cond x sofar (heard sofar q (said words sofar q))) (sym o)

-- ---- where the walk stands: so many of all queries are heard, and these are left
record Stands (words n : ℕ) (all : List Asked) (sofar : BodyAnswer) (qs : List Asked) : Type 0 where
  pub so_far : hear_all words (Clear 0) (take n all) ≡ sofar
  pub rest : drop n all ≡ qs

take_next : (n : ℕ) (all : List Asked) (q : Asked) (qs : List Asked) → drop n all ≡ q ∷ qs → (take (suc n) all ≡ take n all ++ (q ∷ [])) × (drop (suc n) all ≡ qs)
take_next zero all q qs e = (ap (λ (l : List Asked). take 1 l) e, ap (λ (l : List Asked). drop 1 l) e)
take_next (suc n) [] q qs e = let z : ◌≡◌ {A = ℕ} 0 1 = cc in absurd (omega arith)
take_next (suc n) (x ∷ xs) q qs e = let h = take_next n xs q qs e in (ap (λ (l : List Asked). x ∷ l) h.0, h.1)

stands_next : (words n : ℕ) (all : List Asked) (sofar : BodyAnswer) (q : Asked) (qs : List Asked) → Stands words n all sofar (q ∷ qs) → Stands words (suc n) all (hear_next words sofar q) qs
unfolding hear_all
stands_next words n all sofar q qs h =
    let t = take_next n all q qs h.rest in
    record {
      so_far =
          ap (λ (l : List Asked). hear_all words (Clear 0) l) t.0
          ∙ hear_all_append words (Clear 0) (take n all) (q ∷ [])
          ∙ ap (λ (x : BodyAnswer). hear_next words x q) h.so_far;
      rest = t.1;
    }

stands_at : (words n place : ℕ) (all : List Asked) (sofar : BodyAnswer) (qs : List Asked) → Stands words n all sofar qs → place ≡ n + 1 → hear_all words (Clear 0) (take (place - 1) all) ≡ sofar
stands_at words n place all sofar qs h e =
    let at : place - 1 ≡ n = omega (arith, e) in
    ap (λ (k : ℕ). hear_all words (Clear 0) (take k all)) at ∙ h.so_far

-- ---- the least time

module _ (b : Body) where
  -- a time is answered, and none at t and this place is less, or stands before it
  abbrev pub UpTo : BodyAnswer → ℕ → ℕ → Type 0
  UpTo (Clear sum) t at = ⊥
  UpTo (Least t' i j query word excess sum) t at = (t' ≤ t) × (t ≤ t' → place_of b i j query ≤ at)
  UpTo (Refused number) t at = Unit {0}

  -- the holder's place is not past n
  abbrev Passed : BodyAnswer → ℕ → Type 0
  Passed (Clear sum) n = Unit {0}
  Passed (Least t i j query word excess sum) n = place_of b i j query ≤ n
  Passed (Refused number) n = Unit {0}

  -- the count has no part in these
  up_to_counted : (n t at : ℕ) (x : BodyAnswer) → UpTo x t at → UpTo (counted n x) t at
  unfolding counted
  up_to_counted n t at (Clear sum) h = h
  up_to_counted n t at (Least t' i j query word excess sum) h = h
  up_to_counted n t at (Refused number) h = h

  passed_counted : (n m : ℕ) (x : BodyAnswer) → Passed x m → Passed (counted n x) (m + 1)
  unfolding counted
  passed_counted n m (Clear sum) h = h
  passed_counted n m (Least t i j query word excess sum) h = omega arith
  passed_counted n m (Refused number) h = h

  passed_more : (m : ℕ) (x : BodyAnswer) → Passed x m → Passed x (m + 1)
  passed_more m (Clear sum) h = h
  passed_more m (Least t i j query word excess sum) h = omega arith
  passed_more m (Refused number) h = h

  -- a time that is less takes its place
  less : (t t' at at' : ℕ) (x : BodyAnswer) → T (is_less t x) → UpTo x t' at' → (t ≤ t') × (t' ≤ t → at ≤ at')
  unfolding is_less
  less t t' at at' (Clear sum) l h = absurd h
  less t t' at at' (Least t'' i j query word excess sum) l h = let g = ltb→lt t t'' l in (omega arith, λ k. absurd (omega arith))
  less t t' at at' (Refused number) l h = absurd l

  -- one that is not less does not
  not_less : (t at : ℕ) (x : BodyAnswer) → (T (is_less t x) → ⊥) → Passed x at → UpTo x t at
  unfolding is_less
  not_less t at (Clear sum) l h = l tt
  not_less t at (Least t' i j query word excess sum) l h = (nltb→le t t' (not_T (ltb t t') l), λ _. h)
  not_less t at (Refused number) l h = tt

  module _ (words : ℕ) where
    kept : (t at : ℕ) (qs : List Asked) (sofar : BodyAnswer) → UpTo sofar t at → UpTo (hear_all words sofar qs) t at
    unfolding hear_all
    kept t at [] sofar h = h
    kept t at (q ∷ qs) sofar h =
        kept t at qs (hear_next words sofar q)
        (next_by (λ x. UpTo x t at) words sofar q (λ _. h) (λ _.
        heard_by (λ x. UpTo x t at) sofar q (said words sofar q) (λ _ l. less (said words sofar q).t t _ at sofar l h) (λ _. up_to_counted (said words sofar q).count t at sofar h)))

    module _ (w : Terms) (a : Body) where
      -- what a query that is asked answers
      abbrev pub LeastOf : BodyAnswer → Asked → Type 0
      LeastOf final q =
          let place : ℕ = place_of b q.a q.b q.query in
          let then : BodyAnswer = before w a b words place in
          is_over then ≡ false → T (has_moment (said words then q)) → UpTo final (said words then q).t place

      each : (qs : List Asked) (sofar : BodyAnswer) (n : ℕ) → Stands words n (queries_of w a b) sofar qs → Ranked b (n + 1) qs → Passed sofar (n + 1)
          → All (LeastOf (hear_all words sofar qs)) qs
      unfolding hear_all All Ranked
      each [] sofar n h r p = tt
      each (q ∷ qs) sofar n h r p = (
        subst (λ (x : BodyAnswer). is_over x ≡ false → T (has_moment (said words x q)) → UpTo (hear_all words (hear_next words sofar q) qs) (said words x q).t at)
            (sym (stands_at words n at (queries_of w a b) sofar (q ∷ qs) h r.0))
            (λ o moment. kept _ _ qs (hear_next words sofar q) (own o moment)),
        each qs (hear_next words sofar q) (suc n) (stands_next words n (queries_of w a b) sofar q qs h) (subst (λ (k : ℕ). Ranked b k qs) (one_more n) r.1) (subst (Passed (hear_next words sofar q)) (one_more n) passed),
      )
        where
          at : ℕ
          at = place_of b q.a q.b q.query

          one_more : (k : ℕ) → k + 1 + 1 ≡ suc k + 1
          one_more k = omega arith

          own : is_over sofar ≡ false → T (has_moment (said words sofar q)) → UpTo (hear_next words sofar q) (said words sofar q).t at
          own o moment =
              subst (λ (x : BodyAnswer). UpTo x (said words sofar q).t at) (next_on words sofar q o)
              (heard_by (λ x. UpTo x (said words sofar q).t at) sofar q (said words sofar q)
              (λ _ _. (le_refl (said words sofar q).t, λ _. le_refl at))
              (λ f. up_to_counted (said words sofar q).count (said words sofar q).t at sofar (not_less (said words sofar q).t at sofar (f moment) (subst (Passed sofar) (sym r.0) p))))

          passed : Passed (hear_next words sofar q) (n + 1 + 1)
          passed =
              next_by (λ x. Passed x (n + 1 + 1)) words sofar q (λ _. passed_more (n + 1) sofar p)
              (λ _. heard_by (λ x. Passed x (n + 1 + 1)) sofar q (said words sofar q) (λ _ _. omega (arith, r.0)) (λ _. passed_counted (said words sofar q).count (n + 1) sofar p))

      pub least : All (LeastOf (hear_all words (Clear 0) (queries_of w a b))) (queries_of w a b)
      unfolding hear_all
      least = each (queries_of w a b) (Clear 0) 0 (record { so_far = refl; rest = refl }) (ranked w a b) tt

-- ---- its holder

-- by demand 3
own_of : (r : Record) (words : ℕ) → T (has_moment (told (search r words))) → Own r words (told (search r words)).t (told (search r words)).word (told (search r words)).excess
own_of r words moment =
    let p = demand_3 r words in
    record {
      a_moment = moment;
      its_t = refl;
      its_word = refl;
      its_excess = refl;
      u = (told (search r words)).u;
      v = (told (search r words)).v;
      on_bodies = (p.there moment).0;
      within = (p.there moment).1;
      within_tolerance = p.within_tolerance;
    }

module _ (w : Terms) (a b : Body) (words : ℕ) where
  -- a least time is a query's own; and there is no refusal
  abbrev pub Known : BodyAnswer → Type 0
  Known (Clear sum) = Unit {0}
  Known (Least t i j query word excess sum) = Named a b i j query × IsAsked w a b words i j query × Own (walked w a b words i j query) words t word excess
  Known (Refused number) = ⊥

  known_counted : (n : ℕ) (x : BodyAnswer) → Known x → Known (counted n x)
  unfolding counted
  known_counted n (Clear sum) h = h
  known_counted n (Least t i j query word excess sum) h = h
  known_counted n (Refused number) h = h

  all_known : (qs : List Asked) (sofar : BodyAnswer) (n : ℕ) → Stands words n (queries_of w a b) sofar qs → Ranked b (n + 1) qs → All (Listed w a b) qs → Known sofar → Known (hear_all words sofar qs)
  unfolding hear_all All Ranked
  all_known [] sofar n s r h k = k
  all_known (q ∷ qs) sofar n s r h k =
      all_known qs (hear_next words sofar q) (suc n) (stands_next words n (queries_of w a b) sofar q qs s) (subst (λ (k : ℕ). Ranked b k qs) (one_more n) r.1) h.1
      (next_by Known words sofar q (λ _. k) (λ o.
      heard_by Known sofar q (said words sofar q)
      (λ moment _. (h.0.named, subst (λ (x : BodyAnswer). is_over x ≡ false) (sym then) o, own moment))
      (λ _. known_counted (said words sofar q).count sofar k)))
    where
      one_more : (k : ℕ) → k + 1 + 1 ≡ suc k + 1
      one_more k = omega arith

      then : before w a b words (place_of b q.a q.b q.query) ≡ sofar
      then = stands_at words n (place_of b q.a q.b q.query) (queries_of w a b) sofar (q ∷ qs) s r.0

      own : T (has_moment (said words sofar q)) → Own (walked w a b words q.a q.b q.query) words (said words sofar q).t (said words sofar q).word (said words sofar q).excess
      own moment =
          subst (λ (x : BodyAnswer). Own (capped (cap_of x) (numbered w a b q.a q.b q.query)) words (said words sofar q).t (said words sofar q).word (said words sofar q).excess) (sym then)
          (subst (λ (r : Record). Own (capped (cap_of sofar) r) words (said words sofar q).t (said words sofar q).word (said words sofar q).excess) h.0.asks
          (own_of (capped (cap_of sofar) q.ask) words moment))

  pub known : Known (hear_all words (Clear 0) (queries_of w a b))
  unfolding hear_all
  known = all_known (queries_of w a b) (Clear 0) 0 (record { so_far = refl; rest = refl }) (ranked w a b) (listed w a b) tt
