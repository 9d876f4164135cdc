use Rattle.std.proofs.Common.{sym, arith}
use Rattle.std.proofs.lemmas.Result.{err_from_is_err_and}
use Rattle.rules.specs.QueryFile.{record_size, file_form}
use Rattle.queries.specs.Sizes.{size_one}
use Rattle.queries.specs.Opening.{Holds, record_fits, opened_records, opened_refused}
use Rattle.answers.specs.Doing.{refuses, answers}
use Rattle.answers.proofs.Refusing.{one_refused, one_index, one_short, one_good}
use Rattle.answers.specs.Eight.{eight}
use Rattle.answers.specs.Walking.{alone, at_place}
use Rattle.answers.proofs.answer_one.Goals as goal
use Rattle.answers.proofs.answer_one.Goals.{In_ok-records}

holds : (c : In_ok-records) → Holds (file_form c.args.file.now) c.args.file.now c.in_ok-records.records.edition c.in_ok-records.records.first c.in_ok-records.records.count
holds c = opened_records (file_form c.args.file.now) c.args.file.now c.in_ok-records.records (sym c.in_ok-records.ensures)

pub returns-in_err-records : goal.returns-in_err-records
returns-in_err-records c =
    let p = err_from_is_err_and c.from_residual.result c.from_residual.ensures.1 in
    let h = opened_refused (file_form c.args.file.now) c.args.file.now _ (sym c.in_err-records.ensures) in
    rw (p.1, p.2) (refuses _ _ _ c.args.queue.now c.args.out.now (one_refused c.args.file.now c.args.out.now _ h.0 h.1 c.args.n) h.1)

pub returns-then-records-n : goal.returns-then-records-n
returns-then-records-n c =
    let h = holds ((goal.at.returns-then-records-n c).In_ok-records) in
    refuses 13 _ _ c.args.queue.now c.args.out.now (one_index c.args.file.now c.args.out.now h.none c.args.n (omega (arith, h.counts, c.if-records-n.true))) (λ z. omega arith)

pub returns-then-out-lt8 : goal.returns-then-out-lt8
returns-then-out-lt8 c =
    let h = holds ((goal.at.returns-then-out-lt8 c).In_ok-records) in
    refuses 14 _ _ c.args.queue.now c.args.out.now
    (one_short c.args.file.now c.args.out.now h.none c.args.n (omega (arith, h.counts, c.if-records-n.false)) (omega (arith, c.if-out-lt8.true)))
    (λ z. omega arith)

pub place_of-requires : goal.place_of-requires
place_of-requires c = omega (arith, record_fits (holds ((goal.at.place_of-requires c).In_ok-records)) c.args.n c.if-records-n.false)

pub answer_records-requires : goal.answer_records-requires
answer_records-requires c =
    let fits = record_fits (holds ((goal.at.answer_records-requires c).In_ok-records)) c.args.n c.if-records-n.false in
    (omega (arith, size_one (record_size c.in_ok-records.records.edition), c.place_of.ensures, fits), omega (arith, c.if-out-lt8.false))

pub returns : goal.returns
returns c =
    let h = holds ((goal.at.returns c).In_ok-records) in
    let d = at_place eight c.args.file.now c.args.n h.names h.starts c.place_of.ensures (alone eight c.answer_records.ensures.out_after c.answer_records.ensures.queue_after) in
    answers (one_good c.args.file.now c.args.out.now h.none c.args.n (omega (arith, h.counts, c.if-records-n.false)) (omega (arith, c.if-out-lt8.false))) d.told d.left
