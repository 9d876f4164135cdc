-- Lists of boxes: picked, changed one by one and merged they keep what holds of every box, what holds of some box, and the ascending order.
use mathlib.Core.Logic.{◌⊎◌, inl, inr, ⊎_map}
use mathlib.Core.Bool.{Bool, true, false, cond, not}
use mathlib.Core.List.{List, [], ◌∷◌, map}
use Prim.Native.Nat.{ℕ, ◌≤◌}
use lib.Dec.{T}
pub use Rattle.promise.specs.Why.{Some}
pub use Rattle.promise.specs.Order.{Every, Before, Ascending}
use Rattle.rules.specs.Search.{Box, those, not_after, take_in, merge}
use Rattle.promise.proofs.Before.{Apart, before_trans, before_t, not_after_before, after_before}

-- every t index is n or more
abbrev pub From : ℕ → List Box → Type 0
From n = Every (λ b. n ≤ b.t)

pub every_weaken : {P Q : Box → Type 0} → ((b : Box) → P b → Q b) → (l : List Box) → Every P l → Every Q l
every_weaken f [] h = tt
every_weaken f (b ∷ bs) h = (f b h.0, every_weaken f bs h.1)

pub some_weaken : {P Q : Box → Type 0} → ((b : Box) → P b → Q b) → (l : List Box) → Some P l → Some Q l
some_weaken {P = P} {Q = Q} f [] x' = elim x' [ ]
some_weaken f (b ∷ bs) (inl w) = inl (f b w)
some_weaken f (b ∷ bs) (inr w) = inr (some_weaken f bs w)

-- ---- those of a list that are such

pub those_every : (P : Box → Type 0) (f : Box → Bool) (l : List Box) → Every P l → Every (λ b. P b × T (f b)) (those f l)
unfolding those
those_every P f [] h = tt
those_every P f (b ∷ bs) h = go (f b) (λ t. t) (those_every P f bs h.1)
  where
    go : (c : Bool) → (T c → T (f b)) → Every (λ b. P b × T (f b)) (those f bs) → Every (λ b. P b × T (f b)) (cond c (b ∷ those f bs) (those f bs))
    go true t s = ((h.0, t tt), s)
    go false t s = s

pub those_some : (P : Box → Type 0) (f : Box → Bool) (l : List Box) → Some (λ b. P b × T (f b)) l → Some P (those f l)
unfolding those
those_some P f [] x' = elim x' [ ]
those_some P f (b ∷ bs) (inl w) = here (f b) w.1
  where
    here : (c : Bool) → T c → Some P (cond c (b ∷ those f bs) (those f bs))
    here true t = inl w.0
    here false t = absurd t
those_some P f (b ∷ bs) (inr w) = later (f b) (those_some P f bs w)
  where
    later : (c : Bool) → Some P (those f bs) → Some P (cond c (b ∷ those f bs) (those f bs))
    later true s = inr s
    later false s = s

pub those_ascending : (f : Box → Bool) (l : List Box) → Ascending l → Ascending (those f l)
unfolding those
those_ascending f [] h = tt
those_ascending f (b ∷ bs) h = go (f b) (those_ascending f bs h.1)
  where
    go : (c : Bool) → Ascending (those f bs) → Ascending (cond c (b ∷ those f bs) (those f bs))
    go true s = (every_weaken (λ x g. g.0) (those f bs) (those_every (Before b) f bs h.0), s)
    go false s = s

-- ---- each changed

pub map_every : (P Q : Box → Type 0) (g : Box → Box) → ((b : Box) → P b → Q (g b)) → (l : List Box) → Every P l → Every Q (map g l)
map_every P Q g f [] h = tt
map_every P Q g f (b ∷ bs) h = (f b h.0, map_every P Q g f bs h.1)

pub map_all : (Q : Box → Type 0) (g : Box → Box) → ((b : Box) → Q (g b)) → (l : List Box) → Every Q (map g l)
map_all Q g f [] = tt
map_all Q g f (b ∷ bs) = (f b, map_all Q g f bs)

pub map_ascending : (g : Box → Box) → ((a b : Box) → Before a b → Before (g a) (g b)) → (l : List Box) → Ascending l → Ascending (map g l)
map_ascending g up [] h = tt
map_ascending g up (b ∷ bs) h = (map_every (Before b) (Before (g b)) g (λ x. up b x) bs h.0, map_ascending g up bs h.1)

-- some box has one of two changed that is such
pub map_some : (P Q : Box → Type 0) (f g : Box → Box) → ((b : Box) → P b → Q (f b) ⊎ Q (g b)) → (l : List Box) → Some P l → Some Q (map f l) ⊎ Some Q (map g l)
unfolding ⊎_map
map_some P Q f g h [] x' = elim x' [ ]
map_some P Q f g h (b ∷ bs) (inl w) = ⊎_map inl inl (h b w)
map_some P Q f g h (b ∷ bs) (inr w) = ⊎_map inr inr (map_some P Q f g h bs w)

-- ---- two lists as one

take_every : (P : Box → Type 0) (x : Box) (rest : List Box → List Box)
    → P x
    → ((zs : List Box) → Every P zs → Every P (rest zs))
    → (ys : List Box) → Every P ys → Every P (take_in x rest ys)
unfolding take_in
take_every P x rest h f [] g = (h, f [] tt)
take_every P x rest h f (y ∷ ys) g = go (not_after x y) (take_every P x rest h f ys g.1)
  where
    go : (c : Bool) → Every P (take_in x rest ys) → Every P (cond c (x ∷ rest (y ∷ ys)) (y ∷ take_in x rest ys))
    go true s = (h, f (y ∷ ys) g)
    go false s = (g.0, s)

pub merge_every : (P : Box → Type 0) (xs ys : List Box) → Every P xs → Every P ys → Every P (merge xs ys)
unfolding merge
merge_every P [] ys f g = g
merge_every P (x ∷ xs) ys f g = take_every P x (merge xs) f.0 (λ zs h. merge_every P xs zs f.1 h) ys g

-- it is x, or in what `rest` has of its own, or in ys
take_some : (P : Box → Type 0) (x : Box) (rest : List Box → List Box) (ys : List Box)
    → ((zs : List Box) → Some P zs → Some P (rest zs))
    → P x ⊎ (((zs : List Box) → Some P (rest zs)) ⊎ Some P ys)
    → Some P (take_in x rest ys)
unfolding take_in
take_some P x rest [] f (inl p) = inl p
take_some P x rest [] f (inr (inl r)) = inr (r [])
take_some P x rest [] f (inr (inr y)) = absurd y
take_some P x rest (y ∷ ys) f w = go (not_after x y) w (take_some P x rest ys f)
  where
    go : (c : Bool)
        → P x ⊎ (((zs : List Box) → Some P (rest zs)) ⊎ (P y ⊎ Some P ys))
        → (P x ⊎ (((zs : List Box) → Some P (rest zs)) ⊎ Some P ys) → Some P (take_in x rest ys))
        → Some P (cond c (x ∷ rest (y ∷ ys)) (y ∷ take_in x rest ys))
    go true (inl p) r = inl p
    go true (inr (inl q)) r = inr (q (y ∷ ys))
    go true (inr (inr q)) r = inr (f (y ∷ ys) q)
    go false (inl p) r = inr (r (inl p))
    go false (inr (inl q)) r = inr (r (inr (inl q)))
    go false (inr (inr (inl q))) r = inl q
    go false (inr (inr (inr q))) r = inr (r (inr (inr q)))

pub merge_some : (P : Box → Type 0) (xs ys : List Box) → Some P xs ⊎ Some P ys → Some P (merge xs ys)
unfolding merge
merge_some P [] ys (inl w) = absurd w
merge_some P [] ys (inr w) = w
merge_some P (x ∷ xs) ys (inl (inl p)) = take_some P x (merge xs) ys (λ zs h. merge_some P xs zs (inr h)) (inl p)
merge_some P (x ∷ xs) ys (inl (inr q)) = take_some P x (merge xs) ys (λ zs h. merge_some P xs zs (inr h)) (inr (inl (λ zs. merge_some P xs zs (inl q))))
merge_some P (x ∷ xs) ys (inr w) = take_some P x (merge xs) ys (λ zs h. merge_some P xs zs (inr h)) (inr (inr w))

-- from the box b on, no t index is less
pub later_t : (b : Box) (l : List Box) → Every (Before b) l → From b.t l
later_t b = every_weaken (λ x h. before_t b x h)

before_every : {a b : Box} (l : List Box) → Before a b → Every (Before b) l → Every (Before a) l
before_every l w = every_weaken (λ x. before_trans w) l

-- two ascending lists, such that no box of the one is a box of the other
module _ (P Q : Box → Type 0) (apart : (x y : Box) → P x → Q y → Apart x y) where
  take_ascending : (x : Box) (xs : List Box)
      → P x
      → Every (Before x) xs
      → ((zs : List Box) → Every Q zs → Ascending zs → Ascending (merge xs zs))
      → (ys : List Box) → Every Q ys → Ascending ys → Ascending (take_in x (merge xs) ys)
  unfolding take_in
  take_ascending x xs p h s [] o g = (merge_every (Before x) xs [] h tt, s [] tt tt)
  take_ascending x xs p h s (y ∷ ys) o g =
      go (not_after x y) (not_after_before x y (apart x y p o.0)) (after_before x y) (take_ascending x xs p h s ys o.1 g.1)
    where
      go : (c : Bool) → (T c → Before x y) → (T (not c) → Before y x)
          → Ascending (take_in x (merge xs) ys)
          → Ascending (cond c (x ∷ merge xs (y ∷ ys)) (y ∷ take_in x (merge xs) ys))
      go true a b r = (merge_every (Before x) xs (y ∷ ys) h (a tt, before_every ys (a tt) g.0), s (y ∷ ys) o g)
      go false a b r = (take_every (Before y) x (merge xs) (b tt) (λ zs. merge_every (Before y) xs zs (before_every xs (b tt) h)) ys g.0, r)

  pub merge_ascending : (xs ys : List Box) → Every P xs → Every Q ys → Ascending xs → Ascending ys → Ascending (merge xs ys)
  unfolding merge
  merge_ascending [] ys p o f g = g
  merge_ascending (x ∷ xs) ys p o f g = take_ascending x xs p.0 f.0 (λ zs w. merge_ascending xs zs p.1 w f.1) ys o g
