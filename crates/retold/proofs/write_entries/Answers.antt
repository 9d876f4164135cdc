use mathlib.Core.Path.{ap, ◌∙◌}
use Prim.Native.Nat.{ℕ}
use mathlib.Core.List.{List}
use native.Mathlib.Omega.{arith}
use Rattle.rules.specs.QueryFile.{read_from}
use Rattle.rules.specs.AnswerFile.{Entry, entry_at}
use Rattle.queries.specs.Layout.{length_read}
use Rattle.text.specs.Text.{rows, file_text}
use Rattle.page.proofs.Paging.{rows_front, answers_room, printed_as}
use Rattle.retold.proofs.write_entries.Goals as goal

pub returns : goal.returns
returns c =
    printed_as (answers_room c.args.count c.tell_entries.new.out c.args.out.now (omega (arith, c.tell_entries.auto.out)) (omega arith))
    (ap (λ (l : List ℕ). file_text (rows c.args.count l)) c.tell_entries.ensures
    ∙ ap file_text (rows_front (λ (e : Entry). e.id) (λ (e : Entry). e.told) c.args.count (read_from entry_at 32 c.args.log.now c.args.first c.args.count) _ (length_read entry_at 32 c.args.log.now c.args.count c.args.first)))
    c.write_answers.ensures
