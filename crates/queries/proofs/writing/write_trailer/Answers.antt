use Rattle.std.proofs.Common.{sym, ◌∙◌}
use Rattle.rules.specs.declared.Refusal.TheVariants.{Edition}
use Rattle.rules.specs.QueryFile.{query_form, trailer_bytes, query_trailer_refusal}
use Rattle.queries.specs.Writing.{refused_write, trailer_none, trailer_edition}
use Rattle.queries.proofs.writing.write_trailer.Goals as goal

pub returns-then-not-is_edition : goal.returns-then-not-is_edition
returns-then-not-is_edition c =
    refused_write (query_trailer_refusal c.args.edition c.args.s.now c.args.at c.args.count) c.args.s.now c.args.at (trailer_bytes (query_form c.args.edition) c.args.count) Edition
    (sym (trailer_none c.args.edition c.args.s.now c.args.at c.args.count (sym c.is_edition.ensures ∙ c.if-not-is_edition.true)))

pub returns : goal.returns
returns c =
    rw (c.query_form.ensures, ← trailer_edition c.args.edition c.args.s.now c.args.at c.args.count (sym c.is_edition.ensures ∙ c.if-not-is_edition.false)) at c.write_trailer_form.ensures
