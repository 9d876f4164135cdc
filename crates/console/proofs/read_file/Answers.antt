-- A turn puts what it read behind what was there.
use Rattle.std.proofs.Common.{◌≡◌, ℕ, ◌+◌, ◌-◌, ◌≤◌, List, ◌++◌, arith, length, take, drop, slice_range, sym, ap, ◌∙◌, subst, le_refl, drop_at, length-take-le}
use Rattle.std.proofs.lemmas.Slice.{take-put_mid_below}
use Rattle.std.proofs.lemmas.List.{take-append-le}
use Rattle.std.proofs.Math.Seq.{take-add}
use Rattle.std.proofs.KnownBytes.{Consumes-trans}
use Rattle.std.specs.Io.KnownBytes.{Consumes}
use borrow.Rule.Slice.PartMut.{put_mid, post_of}
use Rattle.console.proofs.read_file.Goals as goal

-- the first a bytes, which stay, and the next k make the first a + k
split : (a k : ℕ) (old new : List ℕ) → take a new ≡ take a old → take a old ++ slice_range new a (a + k) ≡ take (a + k) new
split a k old new front =
    let same : (a + k) - a ≡ k = omega arith in
    ap (λ l. l ++ slice_range new a (a + k)) (sym front) ∙ ap (λ m. take a new ++ take m (drop a new)) same ∙ sym (take-add a k new)

-- the bytes from a on are what was put there
put : (a k n : ℕ) (xs ys : List ℕ) → a ≤ length xs → n ≤ length ys → slice_range (put_mid a k xs ys) a (a + n) ≡ take n ys
put a k n xs ys within fits =
    let same : (a + n) - a ≡ n = omega arith in
    let after = post_of a k xs in
    ap (take ((a + n) - a)) (drop_at (take a xs) (ys ++ after) a (length-take-le a xs within)) ∙ ap (λ m. take m (ys ++ after)) same ∙ take-append-le n ys after fits

pub loop-n-preserved : goal.loop-n-preserved
loop-n-preserved g c =
    let n = c.loop-n.n in
    let old = c.loop-n.buffer in
    let room = length old - n in
    let part = c.read.new.buf in
    let within = c.loop-n.invariant.0 in
    let came = put n room c.in_ok-more.more old part within c.in_ok-more.ensures.bound.0 in
    let joined = split n c.in_ok-more.more old (put_mid n room old part) (take-put_mid_below _ _ _ _ _ (le_refl _) within) in
    (grind arith, subst (Consumes _ _) (ap (λ l. take n old ++ l) (sym came) ∙ joined) (Consumes-trans _ _ _ _ _ c.loop-n.invariant.1 c.in_ok-more.ensures.bytes.0))
