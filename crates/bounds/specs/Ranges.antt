-- Coordinates that are not refused leave room for the fourth corner, in every edition.
-- Assumes nothing.
use Rattle.std.specs.Prelude.{◌≡◌, refl, Bool, true, List, [], ◌∷◌, ℕ, zero, suc, ◌+◌, ◌-◌, ◌*◌, ◌<◌, ℤ, pos, nat_abs, eqb, get_or, take, drop}
use Rattle.std.proofs.Common.{ap, subst, ◌∙◌, arith, leb-true, get_or-take, get_or-drop}
use Rattle.std.proofs.Math.Bool.{and-eq-true_iff}
use Rattle.rules.specs.Numbers.{limits_of, is_coordinate}
use Rattle.rules.specs.Refusals.{every}
use Rattle.rules.specs.Bodies.{Body}
use Rattle.rules.specs.Bounds.{first_of, size_of, in_block, are_coordinates, are_in_block}
use Rattle.kernel.specs.Ranges.{editions_held}
use Rattle.refusals.specs.Accepted.{zero_in}
use Rattle.refusals.specs.Every.{every_at}
use Rattle.bounds.specs.Block.{Small, SmallFrom, HasBlock}
use Rattle.bounds.specs.Keeping.{Known, InRange}

pub every_take : (f : ℤ → Bool) (n : ℕ) (l : List ℤ) → every f l ≡ true → every f (take n l) ≡ true
unfolding every
every_take f zero l e = refl
every_take f (suc n) [] e = refl
every_take f (suc n) (x ∷ l) e = let h = (and-eq-true_iff (f x) (every f l)).0 e in (and-eq-true_iff (f x) (every f (take n l))).1 (h.0, every_take f n l h.1)

pub every_drop : (f : ℤ → Bool) (n : ℕ) (l : List ℤ) → every f l ≡ true → every f (drop n l) ≡ true
unfolding every
every_drop f zero l e = e
every_drop f (suc n) [] e = refl
every_drop f (suc n) (x ∷ l) e = every_drop f n l ((and-eq-true_iff (f x) (every f l)).0 e).1

-- where all of a body's are right, each block's are
pub block_right : (d : ℕ) (m : Body) (block : ℕ) → are_coordinates d m.start m.end ≡ true → are_in_block d m block ≡ true
block_right d m block e =
    let h = (and-eq-true_iff (every (is_coordinate (limits_of d)) m.start) (every (is_coordinate (limits_of d)) m.end)).0 e in
    (and-eq-true_iff (every (is_coordinate (limits_of d)) (in_block m.count block m.start)) (every (is_coordinate (limits_of d)) (in_block m.count block m.end))).1 (part m.start h.0, part m.end h.1)
  where
    part : (l : List ℤ) → every (is_coordinate (limits_of d)) l ≡ true → every (is_coordinate (limits_of d)) (in_block m.count block l) ≡ true
    part l e = every_take (is_coordinate (limits_of d)) (9 * size_of m.count block) (drop (9 * first_of block) l) (every_drop (is_coordinate (limits_of d)) (9 * first_of block) l e)

-- and a block's coordinates are small
coordinate_small : (d : ℕ) (z : ℤ) → is_coordinate (limits_of d) z ≡ true → Small z
coordinate_small d z e = record { most = omega (arith, leb-true (nat_abs z) (limits_of d).coordinate e, (editions_held (eqb d 3)).coordinate_most) }

block_small : (d count block : ℕ) (l : List ℤ) → every (is_coordinate (limits_of d)) (in_block count block l) ≡ true → SmallFrom l (9 * first_of block) (9 * (first_of block + size_of count block))
block_small d count block l e p f g =
    let k = p - 9 * first_of block in
    let at : 9 * first_of block + k ≡ p = omega (arith, f) in
    let h = every_at (is_coordinate (limits_of d)) (in_block count block l) e (zero_in (eqb d 3)) k in
    let same = get_or-take (9 * size_of count block) (drop (9 * first_of block) l) k (pos 0) (omega (arith, f, g)) ∙ get_or-drop (9 * first_of block) l k (pos 0) ∙ ap (λ (x : ℕ). get_or l x (pos 0)) at in
    coordinate_small d _ (subst (λ (z : ℤ). is_coordinate (limits_of d) z ≡ true) same h)

pub has_block : (d : ℕ) (m : Body) (block : ℕ) → Known m → 32 * block < m.count → are_in_block d m block ≡ true → HasBlock m.count m.start m.end block
has_block d m block k there right =
    let h = (and-eq-true_iff (every (is_coordinate (limits_of d)) (in_block m.count block m.start)) (every (is_coordinate (limits_of d)) (in_block m.count block m.end))).0 right in
    record {
      there = there;
      few = k.few;
      start_there = omega (arith, k.start);
      end_there = omega (arith, k.end);
      start = block_small d m.count block m.start h.0;
      end = block_small d m.count block m.end h.1;
    }

pub in_range : (d : ℕ) (m : Body) → Known m → are_coordinates d m.start m.end ≡ true → InRange m
in_range d m k right = record { known = k; each = λ block l. has_block d m block k l (block_right d m block right) }
