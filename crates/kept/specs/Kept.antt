-- What `taperhive_answer`, `taperhive_answers`, `taperhive_pair`, `taperhive_bodies` and `taperhive_walk` tell and what `sweep` prints keeps the promises
-- (promise/specs), by their own contracts alone: so demand 3 is a theorem of what is shipped. That of `taperhive_log` is `log_kept` in Log.antt, that of
-- `taperhive_why` `told_kept` in reasons/specs/Laws.antt.
use Rattle.std.specs.Prelude.{ℕ, zero, suc, ◌+◌, ◌≡◌, refl, List, Some, ℤ, length, take, drop}
use Rattle.std.proofs.Common.{ap, ◌∙◌}
use Rattle.rules.specs.declared.Record.{Record}
use Rattle.rules.specs.declared.Terms.{Terms}
use Rattle.rules.specs.Answers.{told}
use Rattle.rules.specs.Search.{search}
use Rattle.rules.specs.Bodies.{Body, body_search}
use Rattle.rules.specs.QueryFile.{joined, read_from, record_size, record_at, record_count, edition_of, place_of, put_unless, put}
use Rattle.answers.specs.Eight.{eight}
use Rattle.answers.specs.Walk.{One, Every, tells_by, tells_from}
use Rattle.answers.specs.Pair.{Pair}
use Rattle.bodies.specs.Telling.{Tells, TellsWith, body_told}
use Rattle.text.specs.Text.{rows, file_text}
use Rattle.page.specs.Page.{sweep_refusal, sweep_told, page_unless, sweep_text, Paged}
use Rattle.page.specs.Laws.{text_put}
use Rattle.promise.specs.Promise.{Promised}
use Rattle.promise.specs.Bodies.{BodiesPromised}
use Rattle.promise.proofs.Demands.{demand_3}
use Rattle.promise.proofs.Bodies.Promised.{demand_bodies}

-- of n records of an edition, the first at a place: eight numbers each, which are those of the written search and keep demand 3
unfoldable pub EachKept : ℕ → List ℕ → ℕ → ℕ → ℕ → List ℕ → Type 0
EachKept edition s words zero at numbers = Unit
EachKept edition s words (suc n) at numbers =
    let r : Record = record_at edition s at in
    (take 8 numbers ≡ eight r.id (told (search r words))) × (Promised r (told (search r words)) × EachKept edition s words n (at + record_size edition) (drop 8 numbers))

pub each_kept : (edition : ℕ) (s : List ℕ) (words n at : ℕ) → EachKept edition s words n at (tells_from edition s words n at)
unfolding EachKept joined read_from tells_by
each_kept edition s words zero at = tt
each_kept edition s words (suc n) at = (refl, (demand_3 (record_at edition s at) words, each_kept edition s words n (at + record_size edition)))

-- `taperhive_answer`, where it returns 0
pub answer_kept : (s : List ℕ) (n : ℕ) (queue queue' out out' : List ℕ) → One s n queue queue' out out' 0
    → let r : Record = record_at (edition_of s) s (place_of s n) in
    (out' ≡ put out 0 (eight r.id (told (search r (length queue))))) × Promised r (told (search r (length queue)))
unfolding put_unless tells_by
answer_kept s n queue queue' out out' h = (h.told, demand_3 (record_at (edition_of s) s (place_of s n)) (length queue))

-- `taperhive_answers`, where it returns 0
pub answers_kept : (s queue queue' out out' : List ℕ) → Every s queue queue' out out' 0
    → let numbers : List ℕ = tells_from (edition_of s) s (length queue) (record_count s) (place_of s 0) in
    (out' ≡ put out 0 numbers) × EachKept (edition_of s) s (length queue) (record_count s) (place_of s 0) numbers
unfolding put_unless
answers_kept s queue queue' out out' h = (h.told, each_kept (edition_of s) s (length queue) (record_count s) (place_of s 0))

-- `taperhive_pair`, where it returns 0; r is the record that its numbers make
pub pair_kept : (edition : ℕ) (points : List ℤ) (r : Record) (queue queue' out out' : List ℕ) → Pair edition points r queue queue' out out' 0
    → (out' ≡ put out 0 (eight r.id (told (search r (length queue))))) × Promised r (told (search r (length queue)))
unfolding put_unless tells_by
pair_kept edition points r queue queue' out out' h = (h.told, demand_3 r (length queue))

-- `taperhive_bodies`, where it returns 0
pub bodies_kept : (w : Terms) (a b : Body) (queue queue' out out' : List ℕ) → Tells w a b queue queue' out out' 0
    → (out' ≡ put out 0 (body_told (body_search w a b (length queue)))) × BodiesPromised w a b (length queue) (body_search w a b (length queue))
unfolding put_unless
bodies_kept w a b queue queue' out out' h = (h.told, demand_bodies w a b (length queue))

-- `taperhive_walk`, where it returns 0: as `taperhive_bodies`, whatever was passed over
pub walk_kept : (w : Terms) (a : Body) (of_a : List ℤ) (b : Body) (of_b : List ℤ) (queue queue' out out' : List ℕ) → TellsWith w a of_a b of_b queue queue' out out' 0
    → (out' ≡ put out 0 (body_told (body_search w a b (length queue)))) × BodiesPromised w a b (length queue) (body_search w a b (length queue))
unfolding put_unless
walk_kept w a of_a b of_b queue queue' out out' h = (h.told, demand_bodies w a b (length queue))

-- `page::write_page`, where it writes a text and the file is not refused: the lines of answers that each keep demand 3
pub page_kept : (s out out' : List ℕ) (n : ℕ) → Paged s out out' (Some n) → sweep_refusal s ≡ 0
    → let text : List ℕ = file_text (rows (record_count s) (sweep_told s)) in
    (out' ≡ put out 0 text) × ((n ≡ length text) × EachKept (edition_of s) s 4096 (record_count s) (place_of s 0) (sweep_told s))
unfolding sweep_text page_unless
page_kept s out out' n p e =
    let text : List ℕ = file_text (rows (record_count s) (sweep_told s)) in
    let h = text_put p refl in
    let same : sweep_text s ≡ text = ap (λ (k : ℕ). page_unless k text) e in
    (h.0 ∙ ap (λ (l : List ℕ). put out 0 l) same, (h.1 ∙ ap length same, each_kept (edition_of s) s 4096 (record_count s) (place_of s 0)))
