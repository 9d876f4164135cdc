use mathlib.Core.Path.{refl, sym, ap, ◌∙◌}
use mathlib.Core.List.{[], ◌∷◌}
use Prim.Native.Nat.{ℕ}
use native.Mathlib.Omega.{arith}
use Rattle.rules.specs.declared.BodyAnswer.{BodyAnswer}
use Rattle.rules.specs.QueryFile.{put}
use Rattle.little.specs.Put.{one_more}
use Rattle.bodies.specs.Telling.{low, body_told}
use Rattle.bodies.proofs.telling.write_told.Goals as goal

pub returns-in-Clear : goal.returns-in-Clear
unfolding body_told
returns-in-Clear c =
    one_more c.args.out.now c.write_four.new.out c.write_four-in-Clear.new.out 0 4
    (2 ∷ 0 ∷ 0 ∷ 0 ∷ [])
    (0 ∷ 0 ∷ c.low.result ∷ c.high.result ∷ [])
    c.write_four.ensures
    c.write_four-in-Clear.ensures
    refl
    (omega arith)
    ∙ ap (λ (x : ℕ). put c.args.out.now 0 (2 ∷ 0 ∷ 0 ∷ 0 ∷ 0 ∷ 0 ∷ x ∷ c.high.result ∷ [])) c.low.ensures
    ∙ ap (λ (x : ℕ). put c.args.out.now 0 (2 ∷ 0 ∷ 0 ∷ 0 ∷ 0 ∷ 0 ∷ low c.in-Clear.sum ∷ x ∷ [])) c.high.ensures
    ∙ sym (ap (λ (x : BodyAnswer). put c.args.out.now 0 (body_told x)) c.in-Clear.is)

pub returns-in-Least : goal.returns-in-Least
unfolding body_told
returns-in-Least c =
    one_more c.args.out.now c.write_four-in-Least.new.out c.write_four-in-Least-2.new.out 0 4
    (c.in-Least.word ∷ c.in-Least.t ∷ c.in-Least.a ∷ c.in-Least.b ∷ [])
    (c.in-Least.query ∷ c.in-Least.excess ∷ c.low-in-Least.result ∷ c.high-in-Least.result ∷ [])
    c.write_four-in-Least.ensures
    c.write_four-in-Least-2.ensures
    refl
    (omega arith)
    ∙ ap (λ (x : ℕ). put c.args.out.now 0 (c.in-Least.word ∷ c.in-Least.t ∷ c.in-Least.a ∷ c.in-Least.b ∷ c.in-Least.query ∷ c.in-Least.excess ∷ x ∷ c.high-in-Least.result ∷ [])) c.low-in-Least.ensures
    ∙ ap (λ (x : ℕ). put c.args.out.now 0 (c.in-Least.word ∷ c.in-Least.t ∷ c.in-Least.a ∷ c.in-Least.b ∷ c.in-Least.query ∷ c.in-Least.excess ∷ low c.in-Least.count ∷ x ∷ [])) c.high-in-Least.ensures
    ∙ sym (ap (λ (x : BodyAnswer). put c.args.out.now 0 (body_told x)) c.in-Least.is)

pub returns-in-Refused : goal.returns-in-Refused
unfolding put body_told
returns-in-Refused c = sym (ap (λ (x : BodyAnswer). put c.args.out.now 0 (body_told x)) c.in-Refused.is)
