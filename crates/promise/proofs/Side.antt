-- The two sides of a number, so that what is said of the least and of the greatest is said once.
use mathlib.Core.Path.{◌≡◌, refl, sym, ap, ◌∙◌, subst}
use mathlib.Core.Logic.{⊎_elim}
use Prim.Native.Nat.{ℕ, zero, suc, ◌+◌, ◌*◌, ◌≤◌, ◌<◌}
use native.Mathlib.Nat.{mul-zero}
use lib.IntN.{ℤ, pos, neg_ℤ, nat_abs, ◌*ℤ◌}
use lib.Signed.{◌≤ℤ◌, ◌<ℤ◌}
use Rattle.whole.specs.Defs.{min_z, max_z}
use Rattle.whole.specs.View.{zed, abs_view, neg_up, neg_dn}
use Rattle.whole.specs.Order.{≤ℤ_trans, ≤ℤ_or-<, min_le, le_max}
use Rattle.rules.specs.Search.{lesser, greater}
use Rattle.promise.proofs.Line.{Convex, ≤ℤ_times, at_least, at_most}

-- `bounds m g`: g is on this side of m. `pick` takes of two the one that bounds both; `limit n` is what bounds every g of size n
pub record Side : Type 1 where
  pub pick : ℤ → ℤ → ℤ
  pub bounds : ℤ → ℤ → Type 0
  pub limit : ℕ → ℤ
  pub first : (x y : ℤ) → bounds (pick x y) x
  pub second : (x y : ℤ) → bounds (pick x y) y
  pub trans : {x y z : ℤ} → bounds x y → bounds y z → bounds x z
  pub times : (n : ℕ) {x y : ℤ} → bounds x y → bounds (pos n *ℤ x) (pos n *ℤ y)
  pub convex : (m : ℤ) → Convex (bounds m)
  pub within : (g : ℤ) (n : ℕ) → nat_abs g ≤ n → bounds g (limit n)
  pub cancel_limit : (n d N : ℕ) → N < n * (d + 1) → (x : ℤ) → bounds (pos n *ℤ x) (limit N) → bounds x (limit d)

pub lesser_bounds : (x y : ℤ) → (lesser x y ≤ℤ x) × (lesser x y ≤ℤ y)
unfolding min_z
lesser_bounds = min_le

pub greater_bounds : (x y : ℤ) → (x ≤ℤ greater x y) × (y ≤ℤ greater x y)
unfolding max_z
greater_bounds = le_max

-- n times x is below n times d + 1: x is at most d
pub at_most_limit : (n d N : ℕ) → N < n * (d + 1) → (x : ℤ) → (pos n *ℤ x) ≤ℤ pos N → x ≤ℤ pos d
at_most_limit n d N h x g = ⊎_elim (λ y. y) (λ y. absurd (over (≤ℤ_trans (≤ℤ_times n (more y)) g))) (≤ℤ_or-< x (pos d))
  where
    more : pos d <ℤ x → pos (d + 1) ≤ℤ x
    more y = omega zed

    over : pos (n * (d + 1)) ≤ℤ pos N → ⊥
    over y = omega zed

pub times_minus : (a n : ℕ) → pos a *ℤ neg_ℤ (pos n) ≡ neg_ℤ (pos (a * n))
times_minus a zero = ap pos (mul-zero a) ∙ sym (ap (λ (n : ℕ). neg_ℤ (pos n)) (mul-zero a))
times_minus a (suc n) = refl

pub at_least_limit : (n d N : ℕ) → N < n * (d + 1) → (x : ℤ) → neg_ℤ (pos N) ≤ℤ (pos n *ℤ x) → neg_ℤ (pos d) ≤ℤ x
at_least_limit n d N h x g =
    ⊎_elim (λ y. y) (λ y. absurd (over (≤ℤ_trans g (subst (λ z. (pos n *ℤ x) ≤ℤ z) (times_minus n (d + 1)) (≤ℤ_times n (less y)))))) (≤ℤ_or-< (neg_ℤ (pos d)) x)
  where
    less : x <ℤ neg_ℤ (pos d) → x ≤ℤ neg_ℤ (pos (d + 1))
    less y = omega (zed, neg_up (pos d), neg_dn (pos d), neg_up (pos (d + 1)), neg_dn (pos (d + 1)))

    over : neg_ℤ (pos N) ≤ℤ neg_ℤ (pos (n * (d + 1))) → ⊥
    over y = omega (zed, neg_up (pos N), neg_dn (pos N), neg_up (pos (n * (d + 1))), neg_dn (pos (n * (d + 1))))

abbrev pub from_least : Side
from_least =
    record {
      pick = lesser;
      bounds = λ m g. m ≤ℤ g;
      limit = pos;
      first = λ x y. (lesser_bounds x y).0;
      second = λ x y. (lesser_bounds x y).1;
      trans = ≤ℤ_trans;
      times = ≤ℤ_times;
      convex = at_least;
      within = λ g n h. omega (zed, abs_view g);
      cancel_limit = at_most_limit;
    }

abbrev pub to_greatest : Side
to_greatest =
    record {
      pick = greater;
      bounds = λ m g. g ≤ℤ m;
      limit = λ n. neg_ℤ (pos n);
      first = λ x y. (greater_bounds x y).0;
      second = λ x y. (greater_bounds x y).1;
      trans = λ h g. ≤ℤ_trans g h;
      times = λ n h. ≤ℤ_times n h;
      convex = at_most;
      within = λ g n h. omega (zed, abs_view g, neg_up (pos n), neg_dn (pos n));
      cancel_limit = at_least_limit;
    }
