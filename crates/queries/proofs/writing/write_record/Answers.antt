-- The record's own rows first, then 10, then 14.
use Rattle.std.proofs.Common.{rules, ◌≡◌, sym, ap, ◌∙◌, List, [], ◌∷◌, ℕ, lt-ltb, le-ltb}
use Rattle.std.proofs.lemmas.Result.{err_from_is_err_and}
use Rattle.rules.specs.declared.Record.{Record}
use Rattle.rules.specs.declared.Refusal.TheVariants.{Edition, Space}
use Rattle.rules.specs.Refusals.{Case, first, cases_with}
use Rattle.rules.specs.QueryFile.{record_bytes, record_size, is_edition, no_edition, space, has_room, has_cap_room, in_edition, write_refusal}
use Rattle.refusals.specs.Cases.{refused_before, refused_behind, due_here}
use Rattle.queries.specs.Writing.{refused_write, done_write, write_room}
use Rattle.queries.proofs.writing.write_record.Goals as goal
use Rattle.queries.proofs.writing.write_record.Goals.{Else-left_from-size}

-- the rows of the record itself, and those behind them
abbrev own : ℕ → Record → List Case
own edition r = cases_with (has_room edition r) (has_cap_room edition r) (in_edition edition r)

abbrev behind : ℕ → List ℕ → ℕ → List Case
behind edition s at = no_edition edition ∷ space s at (record_size edition) ∷ []

pub returns-in_err-check_with : goal.returns-in_err-check_with
unfolding write_refusal
returns-in_err-check_with c =
    let p = err_from_is_err_and c.from_residual.result c.from_residual.ensures.1 in
    let e = simp (c.has_room.ensures, c.has_cap_room.ensures, c.in_edition-q.ensures) at c.in_err-check_with.ensures in
    rw (p.1, p.2) (refused_write _ c.args.s.now c.args.at (record_bytes c.args.edition c.args.r) c.in_err-check_with.field-0.0
    (refused_before _ (own c.args.edition c.args.r) (behind c.args.edition c.args.s.now c.args.at) tt e))

pub returns-then-not-is_edition : goal.returns-then-not-is_edition
unfolding write_refusal
returns-then-not-is_edition c =
    let e = simp (c.has_room.ensures, c.has_cap_room.ensures, c.in_edition-q.ensures) at c.in_ok-check_with.ensures in
    refused_write _ c.args.s.now c.args.at (record_bytes c.args.edition c.args.r) Edition
    (due_here 10 (is_edition c.args.edition) _ (search rules)
    ∙ refused_behind (own c.args.edition c.args.r) (behind c.args.edition c.args.s.now c.args.at) tt e)

pub returns-then-left_from-size : goal.returns-then-left_from-size
unfolding write_refusal first
returns-then-left_from-size c =
    let e = simp (c.has_room.ensures, c.has_cap_room.ensures, c.in_edition-q.ensures) at c.in_ok-check_with.ensures in
    let due : 14 ≡ first (behind c.args.edition c.args.s.now c.args.at) =
    simp (sym (c.is_edition.ensures ∙ ap (λ (q : Record). is_edition q.edition) c.in_edition-q.ensures), c.if-not-is_edition.false, lt-ltb _ _ (rw (c.left_from.ensures, c.record_size-size.ensures) at c.if-left_from-size.true)) in
    refused_write _ c.args.s.now c.args.at (record_bytes c.args.edition c.args.r) Space (due ∙ refused_behind (own c.args.edition c.args.r) (behind c.args.edition c.args.s.now c.args.at) tt e)

none : (c : Else-left_from-size) → 0 ≡ write_refusal c.args.edition c.args.s.now c.args.at c.args.r
unfolding write_refusal first
none c =
    let e = simp (c.has_room.ensures, c.has_cap_room.ensures, c.in_edition-q.ensures) at c.in_ok-check_with.ensures in
    let passed : 0 ≡ first (behind c.args.edition c.args.s.now c.args.at) =
    simp (sym (c.is_edition.ensures ∙ ap (λ (q : Record). is_edition q.edition) c.in_edition-q.ensures), c.if-not-is_edition.false, le-ltb _ _ (rw (c.left_from.ensures, c.record_size-size.ensures) at c.if-left_from-size.false)) in
    passed ∙ refused_behind (own c.args.edition c.args.r) (behind c.args.edition c.args.s.now c.args.at) tt e

pub encode-requires : goal.encode-requires
encode-requires c = (write_room c.args.edition c.args.s.now c.args.at c.args.r (sym (none ((goal.at.encode-requires c).Else-left_from-size)))).room

pub returns : goal.returns
returns c =
    done_write _ c.args.s.now c.args.at (record_bytes c.args.edition c.args.r) c.encode.new.s (none ((goal.at.returns c).Else-left_from-size)) c.encode.ensures
