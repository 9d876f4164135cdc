-- The layout of the answer file.
--     Held            what every answer of a program is: each number has 32 bits
--     answer_layout    how an answer stands in bytes: so what `queries` says of every layout holds of the answer file
-- Assumes nothing.
use Rattle.std.specs.Prelude.{ℕ, ◌+◌, ◌≤◌, ◌<◌, ◌≡◌, refl, List, ◌++◌, length, take, drop}
use Rattle.std.proofs.Common.{sym, ap, ◌∙◌, add-zero, arith, take-add, drop-drop}
use Rattle.rules.specs.QueryFile.{word, word_bytes}
use Rattle.rules.specs.AnswerFile.{Entry, told_at, entry_at, entry_bytes, answer_form}
use Rattle.little.specs.Word.{Bytes, word_drop, word_at, word_lt, word_same}
use Rattle.queries.specs.Layout.{Layout}

-- each number has 32 bits
pub record Held (e : Entry) : Type 0 where
  pub id : e.id < 4294967296
  pub word : e.told.word < 4294967296
  pub t : e.told.t < 4294967296
  pub u : e.told.u < 4294967296
  pub v : e.told.v < 4294967296
  pub excess : e.told.excess < 4294967296
  pub count : e.told.count < 4294967296
  pub number : e.told.number < 4294967296

pub length_entry : (e : Entry) → Held e → length (entry_bytes e) ≡ 32
unfolding entry_bytes word_bytes
length_entry e h = refl

pub entry_drop : (s : List ℕ) (at : ℕ) → entry_at (drop at s) 0 ≡ entry_at s at
unfolding told_at
entry_drop s at = simp (word_drop, add-zero)

pub entry_front : (e : Entry) (t : List ℕ) → Held e → entry_at (entry_bytes e ++ t) 0 ≡ e
unfolding told_at entry_bytes word_bytes
entry_front e t h =
    let l = entry_bytes e ++ t in
    let e0 : word l 0 ≡ e.id = word_at l _ 0 e.id refl h.id in
    let e1 : word l 4 ≡ e.told.word = word_at l _ 4 e.told.word refl h.word in
    let e2 : word l 8 ≡ e.told.t = word_at l _ 8 e.told.t refl h.t in
    let e3 : word l 12 ≡ e.told.u = word_at l _ 12 e.told.u refl h.u in
    let e4 : word l 16 ≡ e.told.v = word_at l _ 16 e.told.v refl h.v in
    let e5 : word l 20 ≡ e.told.excess = word_at l _ 20 e.told.excess refl h.excess in
    let e6 : word l 24 ≡ e.told.count = word_at l _ 24 e.told.count refl h.count in
    let e7 : word l 28 ≡ e.told.number = word_at l _ 28 e.told.number refl h.number in
    λ i. record { id = e0 i; told = record { word = e1 i; t = e2 i; u = e3 i; v = e4 i; excess = e5 i; count = e6 i; number = e7 i } }

eight_parts : (s : List ℕ)
    → take 4 s ++ take 4 (drop 4 s) ++ take 4 (drop 8 s) ++ take 4 (drop 12 s) ++ take 4 (drop 16 s) ++ take 4 (drop 20 s) ++ take 4 (drop 24 s) ++ take 4 (drop 28 s) ≡ take 32 s
eight_parts s =
    rw (← take-add 4 4 s, ← take-add 8 4 s, ← take-add 12 4 s, ← take-add 16 4 s, ← take-add 20 4 s, ← take-add 24 4 s, ← take-add 28 4 s)

pub entry_same : (s : List ℕ) (at : ℕ) → Bytes s → at + 32 ≤ length s → entry_bytes (entry_at s at) ≡ take 32 (drop at s)
unfolding told_at entry_bytes
entry_same s at b h =
    let l = drop at s in
    let part : (k : ℕ) → at + k + 4 ≤ length s → word_bytes (word s (at + k)) ≡ take 4 (drop k l) = λ k room. word_same s b (at + k) room ∙ ap (take 4) (sym (drop-drop k at s)) in
    let w0 : word_bytes (word s at) ≡ take 4 l = word_same s b at (omega arith) in
    let w1 = part 4 (omega arith) in
    let w2 = part 8 (omega arith) in
    let w3 = part 12 (omega arith) in
    let w4 = part 16 (omega arith) in
    let w5 = part 20 (omega arith) in
    let w6 = part 24 (omega arith) in
    let w7 = part 28 (omega arith) in
    (λ i. w0 i ++ w1 i ++ w2 i ++ w3 i ++ w4 i ++ w5 i ++ w6 i ++ w7 i) ∙ eight_parts l

pub entry_held : (s : List ℕ) (at : ℕ) → Bytes s → Held (entry_at s at)
unfolding told_at
entry_held s at b =
    record {
      id = word_lt s b at;
      word = word_lt s b (at + 4);
      t = word_lt s b (at + 8);
      u = word_lt s b (at + 12);
      v = word_lt s b (at + 16);
      excess = word_lt s b (at + 20);
      count = word_lt s b (at + 24);
      number = word_lt s b (at + 28);
    }

abbrev pub answer_layout : Layout answer_form Entry
answer_layout =
    record {
      bytes = entry_bytes;
      read = entry_at;
      Held = Held;
      four_long = refl;
      small = omega arith;
      long = length_entry;
      read_drop = entry_drop;
      front = entry_front;
      same = entry_same;
      read_held = entry_held;
    }
