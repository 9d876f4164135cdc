-- The invariant of the loop that copies m words from h on to the front, and its turn.
use mathlib.Core.Path.{◌≡◌, sym, ◌∙◌}
use mathlib.Core.List.{List, ◌++◌}
use Prim.Native.Nat.{ℕ, ◌+◌, ◌≤◌, ◌<◌}
use native.Mathlib.Nat.{add_comm}
use native.Mathlib.Numerals.{add-one}
use native.Mathlib.Omega.{arith}
use lib.ListN.{length, get_or, set, take, drop, length-set, length-drop, take-append-drop}
use lib.Seq.{take-suc, take-suc-set, get_or-drop, drop-set-lt}
use Rattle.queue.specs.Walk.{same_later, same_after}

pub record Copied (q₀ : List ℕ) (h m : ℕ) (q : List ℕ) (i : ℕ) : Type 0 where
  pub i_le : i ≤ m
  pub len : length q ≡ length q₀
  pub front : take i q ≡ take i (drop h q₀)
  pub rest : drop i q ≡ drop i q₀

module _ (q₀ : List ℕ) (h m : ℕ) (fits : h + m ≤ length q₀) (q : List ℕ) (i : ℕ) (c : Copied q₀ h m q i) where
  pub copied_more : i < m → Copied q₀ h m (set q i (get_or q (h + i) 0)) (i + 1)
  copied_more l = record {
    i_le = omega arith;
    len = length-set q i _ ∙ c.len;
    front = rw (add-one, take-suc-set q i (get_or q (h + i) 0) (omega arith), take-suc (drop h q₀) i 0 (rw (length-drop h q₀) (omega arith)), c.front, get_or-drop h q₀ i 0, add_comm h i, same_later i h q q₀ c.rest);
    rest = drop-set-lt (i + 1) q i _ (omega arith) ∙ same_after i q q₀ c.rest;
  }

  pub copied_all : m ≤ i → q ≡ take m (drop h q₀) ++ drop m q₀
  copied_all l =
      let e : i ≡ m = omega arith in
      sym (take-append-drop i q) ∙ rw (c.front, c.rest, e)
