use mathlib.Core.Path.{ap, ◌∙◌}
use Prim.Native.Nat.{ℕ}
use mathlib.Core.List.{List}
use native.Mathlib.Omega.{arith}
use Rattle.text.specs.Text.{rows, file_text}
use Rattle.page.proofs.Paging.{rows_put, answers_room, printed_as}
use Rattle.page.proofs.write_records.Goals as goal

pub returns : goal.returns
returns c =
    printed_as (answers_room c.args.records.count c.answer_records.new.out c.args.out.now (omega (arith, c.answer_records.auto.out)) (omega arith))
    (ap (λ (l : List ℕ). file_text (rows c.args.records.count l)) c.answer_records.ensures.out_after
    ∙ ap file_text (rows_put c.args.records.edition c.args.file.now 4096 c.args.records.count c.args.records.first _))
    c.write_answers.ensures
