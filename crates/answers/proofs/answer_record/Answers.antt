use Prim.Native.Nat.{ℕ, ◌≤◌}
use mathlib.Core.Path.{◌≡◌, sym, ap, ◌∙◌, subst}
use mathlib.Core.Bool.{Bool, true}
use mathlib.Core.List.{List}
use native.Mathlib.Omega.{arith}
use lib.ListN.{length}
use Rattle.rules.specs.declared.Record.{Record}
use Rattle.rules.specs.QueryFile.{is_wide, size_by, record_size, record_at, record_bytes, put}
use Rattle.queries.specs.Held.{Held}
use Rattle.queries.specs.RoundTrip.{read_back}
use Rattle.answers.specs.Eight.{eight}
use Rattle.answers.specs.Walking.{alone, known}
use Rattle.answers.proofs.answer_record.Goals as goal

-- `answers::answer_record` meets its contract: what is put into the bytes is the record that is read there. Assumes nothing.
-- a wide record takes 128 bytes, and is read back as it was put
size : (r : Record) → is_wide r.edition ≡ true → record_size r.edition ≡ 128
size r wide = ap size_by wide

back : (r : Record) (s s' : List ℕ) → Held true r → is_wide r.edition ≡ true → 128 ≤ length s → s' ≡ put s 0 (record_bytes r.edition r) → record_at r.edition s' 0 ≡ r
back r s s' h wide room e =
    ap (λ (l : List ℕ). record_at r.edition l 0) e ∙ read_back r.edition s 0 r (subst (λ (w : Bool). Held w r) (sym wide) h) (omega (arith, size r wide))

pub encode-requires : goal.encode-requires
encode-requires c = omega (arith, size c.args.r c.requires.1)

pub answer_records-requires : goal.answer_records-requires
answer_records-requires c =
    (omega (arith, size c.args.r c.requires.1), omega (arith, c.requires.2))

pub returns : goal.returns
returns c =
    let asked = known eight (back c.args.r _ _ c.requires.0 c.requires.1 (omega arith) c.encode.ensures) (alone eight c.answer_records.ensures.out_after c.answer_records.ensures.queue_after) in
    record { out_after = asked.0; queue_after = asked.1 }
