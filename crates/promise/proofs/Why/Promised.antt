-- What specs/Why.antt states, of every record, number of words and point.
use mathlib.Core.Path.{◌≡◌, refl, sym, ap, ◌∙◌, subst}
use mathlib.Core.Logic.{◌⊎◌, inl, inr, ⊎_map}
use mathlib.Core.Bool.{Bool, true, false, not, cond, ◌&&◌, ◌||◌}
use Prim.Native.Nat.{ℕ, zero, suc, ◌+◌, ◌<◌}
use native.Mathlib.Nat.{mul-le-mul_right, le_of_mul-le-mul_right}
use native.Mathlib.Omega.{arith}
use lib.ListN.{length}
use lib.Dec.{T, leb, ltb, eqb, leb→le, le→leb, ltb→lt, lt→ltb, eqb→eq}
use Rattle.rules.specs.declared.Record.{Record}
use Rattle.rules.specs.declared.Three.{Three}
use Rattle.rules.specs.declared.Corner.{Corner}
use Rattle.rules.specs.declared.Answer.{Answer}
use Rattle.rules.specs.declared.Reason.{Reason}
use Rattle.rules.specs.declared.Ruling.{Ruling}
use Rattle.rules.specs.declared.Ruling.TheVariants.{Discarded, Refused}
use Rattle.rules.specs.Numbers.{parts, last_moment}
use Rattle.rules.specs.Gap.{OnBodies, is_vertex_face}
use Rattle.rules.specs.Answers.{told, has_moment}
use Rattle.rules.specs.Refusals.{first, or_else, search_refusal}
use Rattle.rules.specs.Search.{Query, query, Checked, after_level, if_room, levels, run, search, unless}
use Rattle.rules.specs.Why.{in_domain, is_before, whole_domain, from_whole, why_refusal, unless_why, why_search}
use Rattle.kernel.specs.Ranges.{editions_deep}
use Rattle.promise.specs.Promise.{UpToCap}
use Rattle.promise.specs.Why.{pointed, down, whole, next, OwnLevels, WasDiscarded, Named, NamesDiscarded, First, NamesTheFirst, NotYet, NamedExactly, WhyRefusedExactly}
use Rattle.promise.proofs.Survive.{and_both, and_intro}
use Rattle.promise.proofs.Domain.{Domain, on_bodies}
use Rattle.promise.proofs.Accepted.{record_kernel}
use Rattle.promise.proofs.Why.Way.{whole_holds, named_first}
use Rattle.promise.proofs.Why.Down.{Rules, run_rules}

-- ---- the levels that a search comes to are its own
own_room : (x : Bool) (c : Corner) (n : ℕ) (go : Corner → ℕ → Answer) → T x → go c n ≡ if_room x c n go
unfolding if_room
own_room true c n go t = refl
own_room false c n go t = absurd t

pub own_levels : OwnLevels
unfolding levels after_level run
own_levels q m k boxes c n whole = refl
own_levels q m' k' new d' i' (next m k boxes c n i d box rest w e t) =
    own_room (leb (length new) q.room) d i (levels m q k' new) t
    ∙ sym (ap (λ (r : Checked). after_level q k (levels m q) r) e)
    ∙ own_levels q (suc m) k boxes c n w

-- ---- where nothing is refused
module _ (r : Record) (words : ℕ) (at : Three) where
  ruled : search_refusal r words ≡ 0 → Domain (query r words) (pointed at) → T (is_before (search r words) at.t) → Rules (query r words) at (from_whole r words at)
  unfolding search unless
  ruled e d t =
      run_rules (query r words) at (record_kernel r words) (editions_deep (eqb r.edition 3)) d
      (subst (λ (n : ℕ). T (is_before (unless n (run (query r words))) at.t)) e t)

  -- the tests of the point
  abbrev ft : Bool
  ft = leb at.t parts

  abbrev fc : Bool
  fc = leb at.t (last_moment r.cap)

  abbrev fu : Bool
  fu = leb at.u parts

  abbrev fv : Bool
  fv = leb at.v parts

  abbrev fs : Bool
  fs = leb (at.u + at.v) parts

  to_domain : T (in_domain r at) → Domain (query r words) (pointed at)
  unfolding in_domain
  to_domain t =
      let a = and_both (ft && fc && fu && fv) (not (is_vertex_face r) || fs) t in
      let b = and_both (ft && fc && fu) fv a.0 in
      let c = and_both (ft && fc) fu b.0 in
      let d = and_both ft fc c.0 in
      record {
        positive = omega arith;
        t = leb→le _ _ d.0;
        u = leb→le _ _ c.1;
        v = leb→le _ _ b.1;
        face = λ f. leb→le _ _ (face (is_vertex_face r) fs f a.1);
        until = mul-le-mul_right parts (leb→le _ _ d.1);
      }
    where
      face : (f x : Bool) → T f → T (not f || x) → T x
      face true x p t = t
      face false x p t = absurd p

  from_domain : OnBodies r (pointed at) → UpToCap r (pointed at) → T (in_domain r at)
  unfolding in_domain
  from_domain d h =
      and_intro (ft && fc && fu && fv) (not (is_vertex_face r) || fs)
      (and_intro (ft && fc && fu) fv (and_intro (ft && fc) fu (and_intro ft fc (le→leb _ _ d.t) (le→leb _ _ (le_of_mul-le-mul_right h (omega arith)))) (le→leb _ _ d.u)) (le→leb _ _ d.v))
      (face (is_vertex_face r) (λ f. le→leb _ _ (d.face f)))
    where
      face : (f : Bool) → (T f → T fs) → T (not f || fs)
      face true g = g tt
      face false g = tt

  to_before : (a : Answer) → NotYet (told a) at → T (is_before a at.t)
  unfolding is_before
  to_before a w = or_intro (eqb (told a).word 2) (has_moment (told a) && ltb at.t (told a).t) (⊎_map (λ e. rw e tt) (λ h. and_intro (has_moment (told a)) _ h.0 (lt→ltb _ _ h.1)) w)
    where
      or_intro : (x y : Bool) → T x ⊎ T y → T (x || y)
      or_intro true y w = tt
      or_intro false y (inl t) = absurd t
      or_intro false y (inr t) = t

  from_before : (a : Answer) → T (is_before a at.t) → NotYet (told a) at
  unfolding is_before
  from_before a t = ⊎_map (eqb→eq _ _) late (or_either (eqb (told a).word 2) (has_moment (told a) && ltb at.t (told a).t) t)
    where
      or_either : (x y : Bool) → T (x || y) → T x ⊎ T y
      or_either true y t = inl tt
      or_either false y t = inr t

      late : T (has_moment (told a) && ltb at.t (told a).t) → T (has_moment (told a)) × (at.t < (told a).t)
      late h = let b = and_both (has_moment (told a)) (ltb at.t (told a).t) h in (b.0, ltb→lt _ _ b.1)

  -- ---- the refusals, by the three tests
  abbrev refusal : ℕ → Bool → Bool → ℕ
  refusal n x y = or_else n (cond (not x) 23 (cond (not y) 24 0))

  refusal_is : why_refusal r words at ≡ refusal (search_refusal r words) (in_domain r at) (is_before (search r words) at.t)
  unfolding why_refusal first
  refusal_is = refl

  pub none_due : why_refusal r words at ≡ 0 → (search_refusal r words ≡ 0) × T (in_domain r at) × T (is_before (search r words) at.t)
  none_due e = go (search_refusal r words) (in_domain r at) (is_before (search r words) at.t) (sym refusal_is ∙ e)
    where
      go : (n : ℕ) (x y : Bool) → refusal n x y ≡ 0 → (n ≡ 0) × T x × T y
      go zero true true e = (refl, tt, tt)
      go zero true false e = absurd (omega arith)
      go zero false y e = absurd (omega arith)
      go (suc n) x y e = absurd (omega arith)

  due_none : search_refusal r words ≡ 0 → T (in_domain r at) → T (is_before (search r words) at.t) → why_refusal r words at ≡ 0
  due_none e s t = refusal_is ∙ go (search_refusal r words) (in_domain r at) (is_before (search r words) at.t) e s t
    where
      go : (n : ℕ) (x y : Bool) → n ≡ 0 → T x → T y → refusal n x y ≡ 0
      go zero true true e s t = refl
      go zero true false e s t = absurd t
      go zero false y e s t = absurd s
      go (suc n) x y e s t = absurd (omega arith)

  -- so what is not refused has its box
  rules : why_refusal r words at ≡ 0 → Rules (query r words) at (from_whole r words at)
  rules e = let n = none_due e in ruled n.0 (to_domain n.1) n.2

-- ---- the promises
pub names_discarded : NamesDiscarded
unfolding why_search unless_why
names_discarded r words at x e = go (why_refusal r words at) refl e
  where
    go : (n : ℕ) → why_refusal r words at ≡ n → unless_why n (from_whole r words at) ≡ Discarded x → Named (query r words) at x
    go zero f e = subst (Rules (query r words) at) e (rules r words at f)
    go (suc n) f e = let z : ◌≡◌ {A = ℕ} 0 1 = cc in absurd (omega arith)

pub names_the_first : NamesTheFirst
unfolding why_search unless_why
names_the_first r words at x e = go (why_refusal r words at) refl e
  where
    go : (n : ℕ) → why_refusal r words at ≡ n → unless_why n (from_whole r words at) ≡ Discarded x → First (query r words) at x
    go zero f e = let d = to_domain r words at (none_due r words at f).1 in named_first at (query r words) x (editions_deep (eqb r.edition 3)) (whole_holds at d.t d.u d.v) e
    go (suc n) f e = let z : ◌≡◌ {A = ℕ} 0 1 = cc in absurd (omega arith)

-- so the search discarded none of the boxes before it
pub none_before : (q : Query) (at : Three) (x : Reason) → First q at x → (n : ℕ) → n < x.level → WasDiscarded q (down q at n whole_domain).depths (down q at n whole_domain).index → ⊥
none_before q at x f n h w = subst T w.lost (f.survived n h)

-- what is not refused has its box
pub has_box : (r : Record) (words : ℕ) (at : Three) → why_refusal r words at ≡ 0 → (x : Reason) × (why_search r words at ≡ Discarded x)
unfolding why_search unless_why
has_box r words at free = go (why_refusal r words at) free (from_whole r words at) (rules r words at free)
  where
    go : (n : ℕ) → n ≡ 0 → (y : Ruling) → Rules (query r words) at y → (x : Reason) × (unless_why n y ≡ Discarded x)
    go zero f (Discarded x) g = (x, refl)
    go zero f (Refused m) g = absurd g
    go (suc n) f y g = absurd (omega arith)

pub named_exactly : NamedExactly
unfolding why_search unless_why
named_exactly r words at =
    (λ p. given (why_refusal r words at) refl p.0 p.1, λ p. has_box r words at (due_none r words at p.0 (from_domain r words at p.1 p.2) (to_before r words at (search r words) p.3)))
  where
    given : (n : ℕ) → why_refusal r words at ≡ n → (x : Reason) → unless_why n (from_whole r words at) ≡ Discarded x
        → (search_refusal r words ≡ 0) × OnBodies r (pointed at) × UpToCap r (pointed at) × NotYet (told (search r words)) at
    given zero e x f = let h = none_due r words at e in (h.0, on_bodies r words (to_domain r words at h.1), (to_domain r words at h.1).until, from_before r words at (search r words) h.2)
    given (suc n) e x f = let z : ◌≡◌ {A = ℕ} 0 1 = cc in absurd (omega arith)

pub why_refused_exactly : WhyRefusedExactly
unfolding why_search unless_why
why_refused_exactly r words at n =
    (λ e. there (why_refusal r words at) refl e, λ p. ap (λ (k : ℕ). unless_why k (from_whole r words at)) p.1 ∙ back n p.0)
  where
    never : (y : Ruling) → Rules (query r words) at y → y ≡ Refused n → ⊥
    never y g f = subst (Rules (query r words) at) f g

    there : (k : ℕ) → why_refusal r words at ≡ k → unless_why k (from_whole r words at) ≡ Refused n → (0 < n) × (why_refusal r words at ≡ n)
    there zero e f = absurd (never (from_whole r words at) (rules r words at e) f)
    there (suc k) e f =
        let g : suc k ≡ n = cc in
        (omega arith, e ∙ g)

    back : (k : ℕ) → 0 < k → unless_why k (from_whole r words at) ≡ Refused k
    back zero h = absurd (omega arith)
    back (suc k) h = refl
