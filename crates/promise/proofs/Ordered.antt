-- What specs/Order.antt states, of every level that a search comes to.
use mathlib.Core.Path.{ap, subst}
use mathlib.Core.Bool.{false}
use mathlib.Core.List.{List, [], ◌∷◌}
use Prim.Native.Nat.{ℕ, suc}
use lib.ListN.{length}
use Rattle.rules.specs.declared.Corner.{Corner}
use Rattle.rules.specs.Search.{Query, Box, Depths, survives, Checked, answered, through, check, those, split}
use Rattle.promise.specs.Why.{Comes, whole, next}
use Rattle.promise.specs.Order.{Before, Ascending, Once, CheckedInOrder}
use Rattle.promise.proofs.Before.{before_itself}
use Rattle.promise.proofs.Lists.{every_weaken, those_ascending}
use Rattle.promise.proofs.Halves.{halves_ascending}
use Rattle.promise.proofs.First.{Outcome, early, none, met, floor, spent, some, check_first}

-- the survivors of a level that goes on
abbrev left : Checked → List Box
left (answered a) = []
left (through n c boxes) = boxes

left_ascending : (S : Query) (k : Depths) (c : Corner) (n size : ℕ) (l : List Box) (r : Checked) → Outcome S k c n size l r → Ascending l → Ascending (left r)
left_ascending S k c n size l r (early i f e) h = tt
left_ascending S k c n size l r (none i) h = tt
left_ascending S k c n size l r (met x xs i f) h = tt
left_ascending S k c n size l r (floor x xs i f) h = tt
left_ascending S k c n size l r (spent x xs i) h = tt
left_ascending S k c n size l r (some x xs i f) h = h

level_ascending : (S : Query) (m : ℕ) (k : Depths) (boxes : List Box) (c : Corner) (n : ℕ) → Comes S m k boxes c n → Ascending boxes
level_ascending S m k boxes c n whole = (tt, tt)
level_ascending S m' k' new d' i' (next m k boxes c n i d box rest w e t) =
    halves_ascending S k (split S k) (box ∷ rest) (subst Ascending (ap left e) (survivors (level_ascending S (suc m) k boxes c n w)))
  where
    survivors : Ascending boxes → Ascending (left (check S k boxes false c n))
    survivors h =
        left_ascending S k c n (length boxes) (those (survives S k) boxes) (check S k boxes false c n) (check_first S k boxes c n) (those_ascending (survives S k) boxes h)

once : (l : List Box) → Ascending l → Once l
once [] h = tt
once (b ∷ bs) h = (every_weaken (λ x w e. before_itself b (subst (Before b) e w)) bs h.0, once bs h.1)

pub checked_in_order : CheckedInOrder
checked_in_order q m k boxes c n w = let h = level_ascending q m k boxes c n w in (h, once boxes h)
