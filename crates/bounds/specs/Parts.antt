-- Parts of a list in which a run takes the place of some numbers.
--     every_put     a test of a part that holds the run: of what stands before it, of the run, and of what stands behind
--     second_nine   a triangle's coordinates at the end are the second nine of eighteen
--     right_block   whether a block's coordinates are in range once a triangle of it is replaced
-- Assumes nothing.
use Rattle.std.specs.Prelude.{◌≡◌, refl, Bool, ◌&&◌, ℕ, ◌+◌, ◌-◌, ◌*◌, ◌/◌, ◌≤◌, ℤ, drop}
use Rattle.std.proofs.Common.{sym, ap₂, ◌∙◌, arith, drop_at, take_all}
use Rattle.std.proofs.Math.Path.{ap}
use Rattle.std.proofs.Math.Bool.{and_assoc}
use mathlib.Core.List.{List, [], ◌∷◌, ◌++◌, append_assoc}
use Rattle.std.proofs.Math.ListN.{length, take, length-append, length-drop}
use Rattle.std.proofs.Math.Seq.{length-take-le, take-add, take-append-add}
use Rattle.rules.specs.QueryFile.{put}
use Rattle.rules.specs.Refusals.{every}
use Rattle.rules.specs.Numbers.{limits_of, is_coordinate}
use Rattle.rules.specs.Bounds.{first_of, size_of, block_of, in_block, are_in_block, replaced}
use Rattle.bounds.specs.Reach.{body}

every_append : (f : ℤ → Bool) (xs ys : List ℤ) → every f (xs ++ ys) ≡ (every f xs && every f ys)
unfolding every
every_append f [] ys = refl
every_append f (x ∷ xs) ys = ap (λ (b : Bool). f x && b) (every_append f xs ys) ∙ sym (and_assoc (f x) (every f xs) (every f ys))

module _ (s : List ℤ) (low high at : ℕ) (run : List ℤ) (from : low ≤ at) (fits : at + length run ≤ high) (until : high ≤ length s) where
  abbrev before : List ℤ
  before = take (at - low) (drop low s)

  abbrev behind : List ℤ
  behind = drop (at + length run) s

  part_put : take (high - low) (drop low (put s at run)) ≡ before ++ run ++ take (high - (at + length run)) behind
  unfolding put
  part_put =
      let split : at ≡ low + (at - low) = omega (arith, from) in
      let first : length (take low s) ≡ low = length-take-le low s (omega (arith, from, fits, until)) in
      let long : length (before ++ run) ≡ at - low + length run =
      length-append before run ∙ ap (λ (n : ℕ). n + length run) (length-take-le (at - low) (drop low s) (omega (arith, length-drop low s, from, fits, until))) in
      let size : high - low ≡ length (before ++ run) + (high - (at + length run)) = omega (arith, long, from, fits) in
      ap (λ (l : List ℤ). take (high - low) (drop low (l ++ run ++ behind))) (ap (λ (n : ℕ). take n s) split ∙ take-add low (at - low) s)
      ∙ ap (λ (l : List ℤ). take (high - low) (drop low (l ++ behind))) (append_assoc (take low s) before run)
      ∙ ap (λ (l : List ℤ). take (high - low) (drop low l)) (append_assoc (take low s) (before ++ run) behind)
      ∙ ap (take (high - low)) (drop_at (take low s) (before ++ run ++ behind) low first)
      ∙ ap (λ (n : ℕ). take n (before ++ run ++ behind)) size
      ∙ take-append-add (before ++ run) behind (high - (at + length run))

  pub every_put : (f : ℤ → Bool) → (every f before && every f run && every f (take (high - (at + length run)) behind)) ≡ every f (take (high - low) (drop low (put s at run)))
  every_put f =
      let last = take (high - (at + length run)) behind in
      sym (ap (every f) part_put ∙ every_append f (before ++ run) last ∙ ap (λ (b : Bool). b && every f last) (every_append f before run))

-- a block's coordinates, from where its triangles begin to where they end
part_block : (count block : ℕ) (l : List ℤ) (high : ℕ) → high ≡ first_of block + size_of count block → take (9 * high - 288 * block) (drop (288 * block) l) ≡ in_block count block l
part_block count block l high e =
    let low : 288 * block ≡ 9 * first_of block = omega arith in
    let size : 9 * high - 288 * block ≡ 9 * size_of count block = omega (arith, e) in
    ap₂ (λ (n k : ℕ). take n (drop k l)) size low

pub second_nine : (corners : List ℤ) → length corners ≡ 18 → take 9 (drop 9 corners) ≡ drop 9 corners
second_nine corners e = take_all 9 (drop 9 corners) (omega (arith, length-drop 9 corners, e))

module _ (edition count : ℕ) (s e : List ℤ) (n : ℕ) (corners : List ℤ) (given : length corners ≡ 18) (high : ℕ) (ends : high ≡ first_of (block_of n) + size_of count (block_of n)) where
  abbrev right : List ℤ → List ℤ → Bool
  right l run = every (is_coordinate (limits_of edition)) (take (9 * high - 288 * (n / 32)) (drop (288 * (n / 32)) (put l (9 * n) run)))

  pub right_block : {r q : Bool} → r ≡ right s (take 9 corners) → q ≡ right e (take 9 (drop 9 corners)) → (r && q) ≡ are_in_block edition (replaced (body count s e) n corners) (block_of n)
  right_block f g =
      ap₂ ◌&&◌ (f ∙ whole (put s (9 * n) (take 9 corners))) (g ∙ ap (right e) (second_nine corners given) ∙ whole (put e (9 * n) (drop 9 corners)))
    where
      whole : (l : List ℤ)
          → every (is_coordinate (limits_of edition)) (take (9 * high - 288 * (n / 32)) (drop (288 * (n / 32)) l))
          ≡ every (is_coordinate (limits_of edition)) (in_block count (block_of n) l)
      whole l = ap (every (is_coordinate (limits_of edition))) (part_block count (block_of n) l high ends)
