use Rattle.std.proofs.Common.{sym, arith}
use Rattle.rules.specs.QueryFile.{file_form, fetch_unless, fetched}
use Rattle.queries.specs.Opening.{Holds, opened_records, opened_refused, record_fits, reach_refused, reach_index, reach_good, refused_fetch}
use Rattle.queries.proofs.fetch.Goals as goal
use Rattle.queries.proofs.fetch.Goals.{In-Ok}

holds : (c : In-Ok) → Holds (file_form c.args.s.now) c.args.s.now c.in-Ok.records.edition c.in-Ok.records.first c.in-Ok.records.count
holds c = opened_records (file_form c.args.s.now) c.args.s.now c.in-Ok.records (sym c.in-Ok.ensures)

pub returns-then-records-n : goal.returns-then-records-n
unfolding fetched fetch_unless
returns-then-records-n c =
    let h = holds ((goal.at.returns-then-records-n c).In-Ok) in
    simp (c.no_fetch-then-records-n.ensures, reach_index (file_form c.args.s.now) c.args.s.now c.args.n h.none (omega (arith, h.counts, c.if-records-n.true)))

pub place_of-requires : goal.place_of-requires
place_of-requires c = omega (arith, record_fits (holds ((goal.at.place_of-requires c).In-Ok)) c.args.n c.if-records-n.false)

pub decode-query-requires : goal.decode-query-requires
decode-query-requires c = omega (arith, c.place_of.ensures, record_fits (holds ((goal.at.decode-query-requires c).In-Ok)) c.args.n c.if-records-n.false)

pub returns-in-Err : goal.returns-in-Err
unfolding fetched
returns-in-Err c =
    let h = opened_refused (file_form c.args.s.now) c.args.s.now _ (sym c.in-Err.ensures) in
    rw (c.no_fetch.ensures, reach_refused (file_form c.args.s.now) c.args.s.now c.args.n _ h.0 h.1) (refused_fetch _ _ h.1)

pub returns-else-records-n : goal.returns-else-records-n
unfolding fetched fetch_unless
returns-else-records-n c =
    let h = holds ((goal.at.returns-else-records-n c).In-Ok) in
    simp (
      reach_good (file_form c.args.s.now) c.args.s.now c.args.n h.none (omega (arith, h.counts, c.if-records-n.false)),
      c.number_in-refusal.ensures,
      c.check_record.ensures,
      c.decode-query.ensures,
      c.place_of.ensures,
      h.starts,
      h.names,
    )
