-- What is printed is the text of the input, by how it is refused or opens. Assumes nothing.
use Prim.Native.Nat.{ℕ, zero, suc, ◌+◌, ◌*◌, ◌≤◌, ◌<◌}
use mathlib.Core.Path.{◌≡◌, refl, sym, ap, ◌∙◌}
use mathlib.Core.Bool.{Bool, true}
use mathlib.Core.List.{List, [], ◌∷◌, ◌++◌}
use native.Mathlib.Omega.{arith}
use borrow.Author.Tests.{le-leb, lt-leb}
use lib.Dec.{leb}
use lib.ListN.{length, drop}
use Rattle.std.specs.Prelude.{Option, None}
use Rattle.rules.specs.declared.Record.{Record}
use Rattle.rules.specs.declared.Told.{Told}
use Rattle.rules.specs.Answers.{told}
use Rattle.rules.specs.Search.{search}
use Rattle.rules.specs.QueryFile.{joined, read_from, record_size, file_form, open_refusal, record_at, record_count, put}
use Rattle.queries.specs.Layout.{length_read}
use Rattle.answers.specs.Eight.{eight}
use Rattle.answers.specs.Walk.{tells_by, tells_from}
use Rattle.text.specs.declared.Row.{Row}
use Rattle.text.specs.Text.{row_of, rows, file_text, refused_text}
use Rattle.text.specs.Writers.{written_if, buffer_if, Printed, room_for, room_for_refusal}
use Rattle.page.specs.Page.{sweep_refusal, sweep_told, page_unless, sweep_text}
use Rattle.page.specs.Laws.{long, short}

-- what stands behind the numbers told is not printed
module _ {R : Type 0} (id : R → ℕ) (answer : R → Told) where
  abbrev numbers : R → List ℕ
  numbers r = eight (id r) (answer r)

  rows_told : (rs : List R) (more : List ℕ) → rows (length rs) (joined numbers rs ++ more) ≡ rows (length rs) (joined numbers rs)
  unfolding rows row_of joined
  rows_told [] more = refl
  rows_told (r ∷ rs) more = ap (λ (l : List Row). row_of (numbers r) ∷ l) (rows_told rs more)

  pub rows_front : (n : ℕ) (rs : List R) (out : List ℕ) → length rs ≡ n → rows n (put out 0 (joined (λ (r : R). eight (id r) (answer r)) rs)) ≡ rows n (joined (λ (r : R). eight (id r) (answer r)) rs)
  unfolding put
  rows_front n rs out e =
      let all = joined numbers rs in
      ap (λ (k : ℕ). rows k (all ++ drop (0 + length all) out)) (sym e) ∙ rows_told rs (drop (0 + length all) out) ∙ ap (λ (k : ℕ). rows k all) e

pub rows_put : (edition : ℕ) (s : List ℕ) (words n at : ℕ) (out : List ℕ) → rows n (put out 0 (tells_from edition s words n at)) ≡ rows n (tells_from edition s words n at)
unfolding tells_by
rows_put edition s words n at out =
    rows_front (λ (r : Record). r.id) (λ (r : Record). told (search r words)) n (read_from (record_at edition) (record_size edition) s at n) out (length_read (record_at edition) (record_size edition) s n at)

-- ---- the text of the input
pub refused_page : (k : ℕ) (text : List ℕ) → (k ≡ 0 → ⊥) → page_unless k text ≡ refused_text k
unfolding page_unless
refused_page zero text h = absurd (h refl)
refused_page (suc k) text h = refl

module _ (s : List ℕ) where
  page_of : {k : ℕ} → sweep_refusal s ≡ k → sweep_text s ≡ page_unless k (file_text (rows (record_count s) (sweep_told s)))
  unfolding sweep_text
  page_of e = ap (λ (k : ℕ). page_unless k (file_text (rows (record_count s) (sweep_told s)))) e

  pub long_text : 65536 < length s → refused_text 15 ≡ sweep_text s
  long_text h = sym (page_of (long s h) ∙ refused_page 15 _ (λ z. omega arith))

  pub refused_text_lem : (k : ℕ) → length s ≤ 65536 → open_refusal (file_form s) s ≡ k → (k ≡ 0 → ⊥) → refused_text k ≡ sweep_text s
  refused_text_lem k h e n = sym (page_of (short s h ∙ e) ∙ refused_page k _ n)

  pub file_text_lem : length s ≤ 65536 → open_refusal (file_form s) s ≡ 0 → file_text (rows (record_count s) (sweep_told s)) ≡ sweep_text s
  unfolding page_unless
  file_text_lem h e = sym (page_of (short s h ∙ e))

-- ---- what the writers leave
pub printed_as : {room room' : Bool} {text text' out out' : List ℕ} {w : Option ℕ} → room ≡ room' → text ≡ text' → Printed room text out out' w → Printed room' text' out out' w
printed_as {room} {room'} {text} {text'} {out} {out'} {w} e f p =
    record { said = p.said ∙ (λ i. written_if (e i) (f i)); bytes = p.bytes ∙ (λ i. buffer_if (e i) (f i) out) }

-- room for so many bytes
pub no_room : (most : ℕ) (out text : List ℕ) → length out < most → Printed (leb most (length out)) text out out None
unfolding written_if buffer_if
no_room most out text h = rw (lt-leb most (length out) h) (record { said = refl; bytes = refl })

pub page_room : (most : ℕ) (out : List ℕ) → most ≤ length out → true ≡ leb most (length out)
page_room most out h = sym (le-leb most (length out) h)

pub refusal_room : (most : ℕ) (out : List ℕ) → 16 ≤ most → most ≤ length out → room_for_refusal out ≡ leb most (length out)
unfolding room_for_refusal
refusal_room most out l h = le-leb 16 (length out) (omega arith) ∙ page_room most out h

pub answers_room : (n : ℕ) (told out : List ℕ) → 8 * n ≤ length told → 80 * n + 160 ≤ length out → room_for n told out ≡ true
unfolding room_for
answers_room n told out h k = rw (le-leb (8 * n) (length told) h, le-leb (80 * n + 160) (length out) k)
