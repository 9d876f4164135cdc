-- The promises of two bodies: what specs/Bodies.antt states, from demand 3 of each query.
use Prim.Native.Nat.{ℕ, zero, suc, ◌+◌, ◌*◌, ◌-◌, ◌≤◌, ◌<◌}
use mathlib.Core.Path.{◌≡◌, refl, sym, ap, ◌∙◌, subst}
use mathlib.Core.Bool.{Bool, true, false, not, cond}
use mathlib.Core.List.{List, [], ◌∷◌}
use native.Mathlib.Nat.{le_trans, le_of_lt, mul_comm, mul-le-mul_right}
use native.Mathlib.Omega.{arith}
use borrow.Author.Tests.{eqb-true}
use lib.Dec.{T, leb, ltb, leb→le, nleb→lt, ltb→lt, nltb→le, not_T}
use Rattle.rules.specs.declared.Record.{Record}
use Rattle.rules.specs.declared.Terms.{Terms}
use Rattle.rules.specs.declared.Ask.{Ask}
use Rattle.rules.specs.declared.Answer.{Answer}
use Rattle.rules.specs.declared.Answer.TheVariants.{Met, Clear as NoneFound, Spent, Room, Floor, Refused as NotSearched}
use Rattle.rules.specs.declared.BodyAnswer.{BodyAnswer}
use Rattle.rules.specs.declared.BodyAnswer.TheVariants.{Clear, Least, Refused}
use Rattle.rules.specs.Numbers.{parts, last_moment}
use Rattle.rules.specs.declared.Axis.TheVariants.{X, Y, Z}
use Rattle.rules.specs.Gap.{Place, OnBodies, Contact, sided}
use Rattle.rules.specs.Answers.{told, has_moment}
use Rattle.rules.specs.Refusals.{search_refusal}
use Rattle.rules.specs.Search.{query, search}
use Rattle.rules.specs.declared.Told.{Told}
use Rattle.rules.specs.Bodies.{Body, Asked, ask_of, queries_of, body_refusal, counted, is_less, cap_of, capped, is_over, hear_next, hear_all, body_unless, body_search}
use Rattle.triangles.specs.Members.{All, ask_at, member}
use Rattle.triangles.specs.InOrder.{none_refused, capped_none, accepted}
use Rattle.promise.specs.Promise.{NearContact, UpToCap}
use Rattle.promise.specs.Bodies.{way, Named, numbered, place_of, before, walked, IsAsked, First, NotBefore, NoContact, Holder, BodiesPromised, DemandBodies, BodiesRefusedExactly}
use Rattle.promise.proofs.Survive.{touch_close}
use Rattle.promise.proofs.Bodies.Queries.{found}
use Rattle.promise.proofs.Bodies.Heard.{heard_by, said, next_by, UpTo, LeastOf, least, Known, known}
use Rattle.promise.proofs.Demands.{demand_3, refused_exactly}

-- a query that is not refused answers CLEAR or a moment
answers : (r : Record) (words : ℕ) (x : Answer) → search_refusal r words ≡ 0 → search r words ≡ x → ((told x).word ≡ 2 → ⊥) → T (has_moment (told x))
answers r words (Met t u v excess n) e f not-clear = tt
answers r words (NoneFound n) e f not-clear = not-clear refl
answers r words (Spent t u v excess n) e f not-clear = tt
answers r words (Room t u v excess n) e f not-clear = tt
answers r words (Floor t u v excess n) e f not-clear = tt
answers r words (NotSearched n) e f not-clear = let h = (refused_exactly r words n).0 f in absurd (omega arith)

-- ---- no contact: one query more

-- the time so far is one of the step
abbrev InStep : BodyAnswer → Type 0
InStep (Clear sum) = Unit {0}
InStep (Least t i j k word excess sum) = t ≤ parts
InStep (Refused number) = Unit {0}

in_step_counted : (n : ℕ) (x : BodyAnswer) → InStep x → InStep (counted n x)
unfolding counted
in_step_counted n (Clear sum) h = h
in_step_counted n (Least t i j k word excess sum) h = h
in_step_counted n (Refused number) h = h

in_step_next : (words : ℕ) (sofar : BodyAnswer) (q : Asked) → InStep sofar → InStep (hear_next words sofar q)
in_step_next words sofar q h =
    next_by InStep words sofar q (λ _. h) (λ _.
    heard_by InStep sofar q (said words sofar q) (λ moment _. ((demand_3 (capped (cap_of sofar) q.ask) words).there moment).0.t) (λ _. in_step_counted (said words sofar q).count sofar h))

-- for the code, whose next cap is the time so far
pub caps_in_step : (words : ℕ) (qs : List Asked) (sofar : BodyAnswer) → cap_of sofar ≤ parts → cap_of (hear_all words sofar qs) ≤ parts
unfolding cap_of hear_all
caps_in_step words qs sofar h = from_step (hear_all words sofar qs) (all_in_step qs sofar (to_step sofar h))
  where
    to_step : (x : BodyAnswer) → cap_of x ≤ parts → InStep x
    to_step (Clear sum) h = tt
    to_step (Least t i j k word excess sum) h = h
    to_step (Refused number) h = tt

    from_step : (x : BodyAnswer) → InStep x → cap_of x ≤ parts
    from_step (Clear sum) h = omega arith
    from_step (Least t i j k word excess sum) h = h
    from_step (Refused number) h = omega arith

    all_in_step : (qs : List Asked) (sofar : BodyAnswer) → InStep sofar → InStep (hear_all words sofar qs)
    all_in_step [] sofar h = h
    all_in_step (q ∷ qs) sofar h = all_in_step qs (hear_next words sofar q) (in_step_next words sofar q h)

module _ (m : Place) where
  not_before_counted : (n : ℕ) (x : BodyAnswer) → NotBefore x m → NotBefore (counted n x) m
  unfolding counted
  not_before_counted n (Clear sum) h = h
  not_before_counted n (Least t i j k word excess sum) h = h
  not_before_counted n (Refused number) h = h

  -- a time that is less does not lose it
  not_before_less : (t : ℕ) (x : BodyAnswer) → T (is_less t x) → NotBefore x m → t * m.q ≤ m.a * parts
  unfolding is_less
  not_before_less t (Clear sum) l h = absurd h
  not_before_less t (Least t' i j k word excess sum) l h = le_trans (mul-le-mul_right m.q (le_of_lt (ltb→lt t t' l))) h
  not_before_less t (Refused number) l h = absurd l

  not_before_next : (words : ℕ) (sofar : BodyAnswer) (q : Asked) → NotBefore sofar m → NotBefore (hear_next words sofar q) m
  not_before_next words sofar q h =
      next_by (λ x. NotBefore x m) words sofar q (λ _. h) (λ _.
      heard_by (λ x. NotBefore x m) sofar q (said words sofar q) (λ _ l. not_before_less (said words sofar q).t sofar l h) (λ _. not_before_counted (said words sofar q).count sofar h))

  not_before_all : (words : ℕ) (sofar : BodyAnswer) (qs : List Asked) → NotBefore sofar m → NotBefore (hear_all words sofar qs) m
  unfolding hear_all
  not_before_all words sofar [] h = h
  not_before_all words sofar (q ∷ qs) h = not_before_all words (hear_next words sofar q) qs (not_before_next words sofar q h)

  -- time 0: nothing comes before it
  over : (x : BodyAnswer) → is_over x ≡ true → NotBefore x m
  unfolding is_over
  over (Clear sum) e = let z : ◌≡◌ {A = ℕ} 0 1 = cc in absurd (omega arith)
  over (Least t i j k word excess sum) e = subst (λ (n : ℕ). n * m.q ≤ m.a * parts) (sym (eqb-true t 0 e)) (omega arith)
  over (Refused number) e = tt

  -- a query that is asked up to the least time so far: a contact is not before its own time, or is after the cap
  module _ (words : ℕ) (r : Record) (none : search_refusal r words ≡ 0) (on : OnBodies r m) (near : NearContact r m) where
    abbrev answer_to : ℕ → Told
    answer_to cap = told (search (capped cap r) words)

    on_capped : (cap : ℕ) → OnBodies (capped cap r) m
    unfolding capped
    on_capped cap = record { positive = on.positive; t = on.t; u = on.u; v = on.v; face = on.face }

    near_capped : (cap : ℕ) → NearContact (capped cap r) m
    unfolding capped sided
    near_capped cap X = near X
    near_capped cap Y = near Y
    near_capped cap Z = near Z

    up_to : (cap : ℕ) → m.a * parts ≤ last_moment cap * m.q → UpToCap (capped cap r) m
    unfolding capped
    up_to cap h = h

    asked_moment : (cap : ℕ) → cap ≤ parts → m.a * parts ≤ last_moment cap * m.q → T (has_moment (answer_to cap)) × ((answer_to cap).t * m.q ≤ m.a * parts)
    asked_moment cap c h =
        let p = (demand_3 (capped cap r) words).by_a_margin m (on_capped cap) (near_capped cap) in
        let moment = answers (capped cap r) words (search (capped cap r) words) (capped_none cap words r c none) refl (λ e. p.0 e (up_to cap h)) in
        (moment, p.1 moment)

    own_time : (cap : ℕ) → T (has_moment (answer_to cap)) → (answer_to cap).t * m.q ≤ m.a * parts
    own_time cap moment = ((demand_3 (capped cap r) words).by_a_margin m (on_capped cap) (near_capped cap)).1 moment

    not_taken : (x : BodyAnswer) → InStep x → is_over x ≡ false → (T (has_moment (answer_to (cap_of x))) → T (is_less (answer_to (cap_of x)).t x) → ⊥) → NotBefore x m
    unfolding is_over is_less cap_of
    not_taken (Clear sum) h o f = f (asked_moment 0 (omega arith) (omega (arith, mul-le-mul_right parts on.t, mul_comm parts m.q))).0 tt
    not_taken (Least t i j k word excess sum) h o f = by (leb (m.a * parts) (t * m.q)) (λ x. leb→le _ _ x) (λ x. le_of_lt (nleb→lt _ _ x))
      where
        last : last_moment t ≡ t
        last = ap (λ (e : Bool). cond e parts t) o

        by : (c : Bool) → (T c → m.a * parts ≤ t * m.q) → (T (not c) → t * m.q ≤ m.a * parts) → t * m.q ≤ m.a * parts
        by true g k =
            let p = asked_moment t h (subst (λ (n : ℕ). m.a * parts ≤ n * m.q) (sym last) (g tt)) in
            le_trans (mul-le-mul_right m.q (nltb→le (answer_to t).t t (not_T (ltb (answer_to t).t t) (f p.0)))) p.1
        by false g k = k tt
    not_taken (Refused number) h o f = tt

  not_before_own : (words : ℕ) (sofar : BodyAnswer) (q : Asked) → InStep sofar → search_refusal q.ask words ≡ 0 → OnBodies q.ask m → NearContact q.ask m
      → NotBefore (hear_next words sofar q) m
  not_before_own words sofar q h none on near =
      next_by (λ x. NotBefore x m) words sofar q (over sofar) (λ o.
      heard_by (λ x. NotBefore x m) sofar q (said words sofar q) (λ moment _. own_time words q.ask none on near (cap_of sofar) moment)
      (λ f. not_before_counted (said words sofar q).count sofar (not_taken words q.ask none on near sofar h o f)))

-- of all of them
abbrev Nears : BodyAnswer → Asked → Type 0
Nears final q = (m : Place) → OnBodies q.ask m → NearContact q.ask m → NotBefore final m

all_near : (words : ℕ) (qs : List Asked) (sofar : BodyAnswer) → InStep sofar → All (λ q. search_refusal q.ask words ≡ 0) qs → All (Nears (hear_all words sofar qs)) qs
unfolding hear_all All
all_near words [] sofar h none = tt
all_near words (q ∷ qs) sofar h none = (
  λ m on near. not_before_all m words (hear_next words sofar q) qs (not_before_own m words sofar q h none.0 on near),
  all_near words qs (hear_next words sofar q) (in_step_next words sofar q h) none.1,
)

module _ (w : Terms) (a b : Body) (words : ℕ) where
  abbrev answer : BodyAnswer
  answer = hear_all words (Clear 0) (queries_of w a b)

  -- ---- no contact
  module _ (none : All (λ q. search_refusal q.ask words ≡ 0) (queries_of w a b)) where
    at_query : (i j n : ℕ) → i < a.count → j < b.count → n < 15 → (m : Place)
        → OnBodies (ask_of w a b i j (ask_at n)) m → NearContact (ask_of w a b i j (ask_at n)) m → NotBefore answer m
    at_query i j n li lj ln = member (Nears answer) w a b i j n li lj ln (all_near words (queries_of w a b) (Clear 0) tt none)

    near : NoContact NearContact w a b answer
    near i j li lj k m =
        subst (λ (c : Ask). OnBodies (ask_of w a b i j c) m → NearContact (ask_of w a b i j c) m → NotBefore answer m) (found k).asks
        (at_query i j (found k).at li lj (found k).is_one m)

  touching : (x : BodyAnswer) → NoContact NearContact w a b x → NoContact Contact w a b x
  touching x f i j li lj k m on touch = f i j li lj k m on (touch_close (query (ask_of w a b i j (way k)) words) m on.positive touch)

  -- ---- the holder
  first : (t i j k word excess sum : ℕ) → answer ≡ Least t i j k word excess sum → (i' j' k' : ℕ) → Named a b i' j' k' → IsAsked w a b words i' j' k'
      → First t (place_of b i j k) (told (search (walked w a b words i' j' k') words)) (place_of b i' j' k')
  first t i j k word excess sum e i' j' k' n =
      let at : 1 + (k' - 1) ≡ k' = omega arith in
      let u = member (LeastOf b words w a answer) w a b i' j' (k' - 1) n.triangle_of_a n.triangle_of_b (omega arith) (least b words w a) in
      subst (λ (x : BodyAnswer). IsAsked w a b words i' j' k' → T (has_moment (told (search (walked w a b words i' j' k') words)))
      → UpTo b x (told (search (walked w a b words i' j' k') words)).t (place_of b i' j' k')) e
      (subst (λ (y : ℕ). is_over (before w a b words (place_of b i' j' y)) ≡ false
      → T (has_moment (told (search (capped (cap_of (before w a b words (place_of b i' j' y))) (numbered w a b i' j' k')) words)))
      → UpTo b answer (told (search (capped (cap_of (before w a b words (place_of b i' j' y))) (numbered w a b i' j' k')) words)).t (place_of b i' j' y)) at u)

  holder : (x : BodyAnswer) → answer ≡ x → Known w a b words x → Holder w a b words x
  holder (Clear sum) e h = tt
  holder (Least t i j k word excess sum) e h = record { named = h.0; is_asked = h.1; own = h.2; first = first t i j k word excess sum e }
  holder (Refused number) e h = tt

  -- ---- refusals
  promised : (n : ℕ) → body_refusal w a b words ≡ n → BodiesPromised w a b words (body_unless n answer)
  unfolding body_unless
  promised zero e =
      let f = near (none_refused words (queries_of w a b) (accepted w a b words e).1) in
      record { no_contact = touching answer f; by_a_margin = f; holder = holder answer refl (known w a b words) }
  promised (suc n) e = record { no_contact = λ _ _ _ _ _ _ _ _. tt; by_a_margin = λ _ _ _ _ _ _ _ _. tt; holder = tt }

pub demand_bodies : DemandBodies
unfolding body_search
demand_bodies w a b words = promised w a b words (body_refusal w a b words) refl

-- for a caller of the code, whose contract says that what it answers is what the written search does
pub bodies_promised : (w : Terms) (a b : Body) (words : ℕ) (x : BodyAnswer) → x ≡ body_search w a b words → BodiesPromised w a b words x
bodies_promised w a b words x e = subst (BodiesPromised w a b words) (sym e) (demand_bodies w a b words)

pub bodies_refused_exactly : BodiesRefusedExactly
unfolding body_search body_unless
bodies_refused_exactly w a b words n = (λ e. there (body_refusal w a b words) refl e, λ p. ap (λ (k : ℕ). body_unless k (answer w a b words)) p.1 ∙ back n p.0)
  where
    there : (k : ℕ) → body_refusal w a b words ≡ k → body_unless k (answer w a b words) ≡ Refused n → (0 < n) × (body_refusal w a b words ≡ n)
    there zero e f = absurd (subst (Known w a b words) f (known w a b words))
    there (suc k) e f =
        let g : suc k ≡ n = cc in
        (omega arith, e ∙ g)

    back : (k : ℕ) → 0 < k → body_unless k (answer w a b words) ≡ Refused k
    back zero h = absurd (omega arith)
    back (suc k) h = refl
