-- The descent: the half that holds the point is a box of the search's next level, so that it ends at a box that the search discarded.
use mathlib.Core.Path.{◌≡◌, refl, sym, ap, subst}
use mathlib.Core.Logic.{inl, inr}
use mathlib.Core.Bool.{Bool, true, false, cond}
use mathlib.Core.List.{List, [], ◌∷◌, map}
use Prim.Native.Nat.{ℕ, zero, suc, ◌+◌, ◌*◌, ◌≤◌, ◌<◌}
use native.Mathlib.Nat.{le_trans}
use native.Mathlib.Omega.{arith}
use lib.ListN.{length}
use lib.Dec.{T, leb, ltb→lt}
use Rattle.std.specs.Prelude.{Option, None, Some as Missed}
use Rattle.rules.specs.declared.Three.{Three}
use Rattle.rules.specs.declared.Corner.{Corner}
use Rattle.rules.specs.declared.Answer.{Answer}
use Rattle.rules.specs.declared.Parameter.{Parameter}
use Rattle.rules.specs.declared.Miss.{Miss}
use Rattle.rules.specs.declared.Ruling.{Ruling}
use Rattle.rules.specs.declared.Ruling.TheVariants.{Discarded, Refused}
use Rattle.rules.specs.Search.{Query, Box, Depths, survives, Checked, check, those, split, deeper, low_half, high_half, inside, halves, if_room, after_level, levels, origin, run}
use Rattle.rules.specs.Why.{is_before, goes_up, holding, missed, whole_domain, half_of, name_or, descend}
use Rattle.promise.specs.Why.{pointed, Some, Comes, whole, next, Holds, Named}
use Rattle.promise.proofs.Box.{HasKernel}
use Rattle.promise.proofs.Lists.{Ascending, those_some, those_ascending, merge_some}
use Rattle.promise.proofs.Split.{Shallow, at as of, split_open, deeper_shallow, sum, deeper_sum}
use Rattle.promise.proofs.Domain.{Domain, in_inside}
use Rattle.promise.proofs.Halves.{halves_ascending}
use Rattle.promise.proofs.First.{check_first}
use Rattle.promise.proofs.Why.Beyond.{Says, says, fails_lost, fails_beyond}
use Rattle.promise.proofs.Why.Way.{stop, holding_holds, holds_in, whole_holds}
use Rattle.promise.proofs.Why.Reached.{Among, Ahead, ahead_of, reached, Goes, goes}

module _ (S : Query) (at : Three) where
  -- ---- the half that holds the point is a box of the next level
  map_among : (g : Box → Box) (keeps : Box → Bool) (b : Box) (l : List Box) → T (keeps (g b)) → Among b l → Some (λ x. (x ≡ g b) × T (keeps x)) (map g l)
  map_among g keeps b [] t x'' = elim x'' [ ]
  map_among g keeps b (x ∷ xs) t (inl e) = inl (ap g e, subst (λ (y : Box). T (keeps (g y))) (sym e) t)
  map_among g keeps b (x ∷ xs) t (inr w) = inr (map_among g keeps b xs t w)

  pub holding_among : (p : Parameter) (k : Depths) (b : Box) (l : List Box) → Among b l → T (inside S (deeper p k) (holding p k b at))
      → Among (holding p k b at) (halves S (deeper p k) p l)
  unfolding holding halves
  holding_among p k b l w t = go (goes_up p k b at) t
    where
      keeps : Box → Bool
      keeps = inside S (deeper p k)

      go : (c : Bool) → T (keeps (cond c (high_half p b) (low_half p b))) → Among (cond c (high_half p b) (low_half p b)) (halves S (deeper p k) p l)
      go true t = merge_some (λ x. x ≡ high_half p b) _ _ (inr (those_some (λ x. x ≡ high_half p b) keeps (map (high_half p) l) (map_among (high_half p) keeps b l t w)))
      go false t = merge_some (λ x. x ≡ low_half p b) _ _ (inl (those_some (λ x. x ≡ low_half p b) keeps (map (low_half p) l) (map_among (low_half p) keeps b l t w)))

  -- ---- what is known on the way, with `left` levels of the descent and `more` of the search: the level is one that the search comes to, the box
  -- is one of its boxes, and holds the point
  pub record Way (left more : ℕ) (k : Depths) (b : Box) (boxes : List Box) (c : Corner) (n : ℕ) : Type 0 where
    pub comes : Comes S (suc more) k boxes c n
    pub shallow : Shallow S k
    pub ascending : Ascending boxes
    pub among : Among b boxes
    pub holds : Holds at (stop k b)
    pub recorded : c.t ≤ at.t
    pub fuel : 3 * S.deepest ≤ sum k + left
    pub enough : left ≤ more
    pub ahead : T (is_before (levels (suc more) S k boxes c n) at.t)

  abbrev pub Rules : Ruling → Type 0
  Rules (Discarded x) = Named S at x
  Rules (Refused n) = ⊥

  module _ (H : HasKernel S) (deep : S.deepest ≤ 20) (domain : Domain S (pointed at)) where
    module _ (left more : ℕ) (k : Depths) (b : Box) (boxes : List Box) (c : Corner) (n : ℕ) (W : Way left more k b boxes c n) where
      in_time : Ahead S at (check S k boxes false c n)
      unfolding levels
      in_time = ahead_of S at k (levels more S) (check S k boxes false c n) W.ahead

      -- it is discarded
      ends : (m : Option Miss) → Says S k b m → (rest : Ruling) → (T (survives S k b) → Rules rest) → Rules (name_or m (stop k b) rest)
      ends None e rest f = f e
      ends (Missed m) e rest f =
          record {
            holds = holds_in at W.holds;
            discarded =
                record {
                  more = more;
                  boxes = boxes;
                  corner = c;
                  count = n;
                  comes = W.comes;
                  checked = reached S at k b W.holds.t.from boxes false c n W.ascending W.among W.recorded in_time;
                  lost = fails_lost S k b m.axis m.side e;
                };
            beyond = fails_beyond S k b H m.axis m.side e;
          }

      -- or it survives, and the level goes on
      module _ (alive : T (survives S k b)) where
        on : Goes S at k b W.holds.t.from (check S k boxes false c n)
        on =
            goes S at k b W.holds.t.from c n (length boxes) (those (survives S k) boxes) (check S k boxes false c n) (check_first S k boxes c n)
            (those_ascending (survives S k) boxes W.ascending)
            (those_some (λ x. x ≡ b) (survives S k) boxes (alive_too boxes W.among))
            W.recorded in_time
          where
            alive_too : (l : List Box) → Among b l → Some (λ x. (x ≡ b) × T (survives S k x)) l
            alive_too [] x' = elim x' [ ]
            alive_too (x ∷ xs) (inl e) = inl (e, subst (λ (y : Box). T (survives S k y)) (sym e) alive)
            alive_too (x ∷ xs) (inr w) = inr (alive_too xs w)

        abbrev p : Parameter
        p = split S k

        abbrev new : List Box
        new = halves S (deeper p k) p (on.first ∷ on.rest)

        open' : of p k < S.deepest
        open' = split_open S k W.shallow on.not_full

        deeper_still : Shallow S (deeper p k)
        deeper_still = deeper_shallow S k W.shallow on.not_full p open'

        not_last : left ≡ 0 → ⊥
        not_last e = omega (arith, W.fuel, deeper_sum p k, deeper_still.t, deeper_still.u, deeper_still.v)

        -- there is room for the next level, and its answer is the answer
        roomy : (x : Bool) (go : Corner → ℕ → Answer) → T (is_before (if_room x on.corner on.count go) at.t) → T x × T (is_before (go on.corner on.count) at.t)
        unfolding if_room is_before
        roomy true go t = (tt, t)
        roomy false go t = absurd (omega (arith, ltb→lt at.t on.corner.t t, on.recorded))

        after : (less : ℕ) → more ≡ suc less → T (leb (length new) S.room) × T (is_before (levels (suc less) S (deeper p k) new on.corner on.count) at.t)
        unfolding levels after_level
        after less e =
            roomy (leb (length new) S.room) (levels (suc less) S (deeper p k) new)
            (subst (λ (r : Checked). T (is_before (after_level S k (levels (suc less) S) r) at.t)) on.is
            (subst (λ (m : ℕ). T (is_before (after_level S k (levels m S) (check S k boxes false c n)) at.t)) e W.ahead))

        below : (fewer less : ℕ) → left ≡ suc fewer → more ≡ suc less → Way fewer less (deeper p k) (holding p k b at) new on.corner on.count
        below fewer less f e =
            record {
              comes =
                  next (suc less) k boxes c n on.count on.corner on.first on.rest
                  (subst (λ (m : ℕ). Comes S (suc m) k boxes c n) e W.comes) on.is (after less e).0;
              shallow = deeper_still;
              ascending = halves_ascending S k p (on.first ∷ on.rest) on.ascending;
              among = holding_among p k b (on.first ∷ on.rest) on.among (in_inside S (deeper p k) (holding p k b at) (pointed at) domain (holds_in at held));
              holds = held;
              recorded = on.recorded;
              fuel = omega (arith, W.fuel, deeper_sum p k);
              enough = omega (arith, W.enough);
              ahead = (after less e).1;
            }
          where
            held : Holds at (stop (deeper p k) (holding p k b at))
            held = holding_holds at p k b (le_trans open' deep) W.holds

    pub descend_rules : (left more : ℕ) (k : Depths) (b : Box) (boxes : List Box) (c : Corner) (n : ℕ) → Way left more k b boxes c n → Rules (descend left S at (stop k b))
    unfolding descend
    descend_rules zero more k b boxes c n W = ends zero more k b boxes c n W (missed S k b) (says S k b) (Refused 0) (λ t. absurd (not_last zero more k b boxes c n W t refl))
    descend_rules (suc left) zero k b boxes c n W = absurd (omega (arith, W.enough))
    descend_rules (suc left) (suc more) k b boxes c n W =
        ends (suc left) (suc more) k b boxes c n W (missed S k b) (says S k b) (descend left S at (half_of S at (stop k b)))
        (λ t. descend_rules left more (deeper (split S k) k) (holding (split S k) k b at) (new (suc left) (suc more) k b boxes c n W t) (on (suc left) (suc more) k b boxes c n W t).corner
        (on (suc left) (suc more) k b boxes c n W t).count (below (suc left) (suc more) k b boxes c n W t left more refl refl))

    -- ---- from the whole domain
    pub run_rules : T (is_before (run S) at.t) → Rules (descend (3 * S.deepest) S at whole_domain)
    unfolding run
    run_rules t =
        descend_rules (3 * S.deepest) 60 origin origin (origin ∷ []) (record { t = 0; u = 0; v = 0; excess = 0 }) 0
        (record {
          comes = whole;
          shallow = record { t = omega arith; u = omega arith; v = omega arith };
          ascending = (tt, tt);
          among = inl refl;
          holds = whole_holds at domain.t domain.u domain.v;
          recorded = omega arith;
          fuel = omega arith;
          enough = omega (arith, deep);
          ahead = t;
        })
