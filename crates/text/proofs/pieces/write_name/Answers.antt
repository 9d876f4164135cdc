use native.Mathlib.Omega.{arith}
use mathlib.Core.Path.{◌≡◌}
use Rattle.text.specs.Text.{named, kind_of}
use Rattle.text.proofs.Writing.{roomier}
use Rattle.text.proofs.Words.{named_other}
use Rattle.text.proofs.pieces.write_name.Goals as goal

pub returns-in-1 : goal.returns-in-1
unfolding named kind_of
returns-in-1 c =
    let e : c.args.word ≡ 1 = omega arith in
    rw e (roomier c.write_text.ensures (omega (arith, c.write_text.ensures.few)))

pub returns-in-2 : goal.returns-in-2
unfolding named kind_of
returns-in-2 c =
    let e : c.args.word ≡ 2 = omega arith in
    rw e (roomier c.write_text-in-2.ensures (omega (arith, c.write_text-in-2.ensures.few)))

pub returns-in-3 : goal.returns-in-3
unfolding named kind_of
returns-in-3 c =
    let e : c.args.word ≡ 3 = omega arith in
    rw e (roomier c.write_text-in-3.ensures (omega (arith, c.write_text-in-3.ensures.few)))

pub returns-in-4 : goal.returns-in-4
unfolding named kind_of
returns-in-4 c =
    let e : c.args.word ≡ 4 = omega arith in
    rw e (roomier c.write_text-in-4.ensures (omega (arith, c.write_text-in-4.ensures.few)))

pub returns-in-5 : goal.returns-in-5
unfolding named kind_of
returns-in-5 c =
    let e : c.args.word ≡ 5 = omega arith in
    rw e (roomier c.write_text-in-5.ensures (omega (arith, c.write_text-in-5.ensures.few)))

pub returns-in_default : goal.returns-in_default
returns-in_default c =
    let no = named_other c.args.word (λ e. omega arith) (λ e. omega arith) (λ e. omega arith) (λ e. omega arith) (λ e. omega arith) in
    rw (← no) (roomier c.write_text-in_default.ensures (omega (arith, c.write_text-in_default.ensures.few)))
