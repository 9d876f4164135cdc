use mathlib.Core.Path.{sym, ◌∙◌}
use native.Mathlib.Omega.{arith}
use Rattle.queue.proofs.Growing.{takes, in_grid, written_pass, written_put, grown_room, grown_level}
use Rattle.queue.proofs.grow.Goals as goal

pub returns-then-word-c : goal.returns-then-word-c
returns-then-word-c c =
    grown_level c.requires c.halving_of-c.ensures c.loop-p.invariant c.min-word.ensures c.if-word-c.true

pub take_half-requires : goal.take_half-requires
take_half-requires c =
    takes c.requires c.halving_of-c.ensures c.loop-p.invariant c.min-word.ensures (omega (arith, c.if-word-c.false))

pub in_face-requires : goal.in_face-requires
in_face-requires c =
    (c.requires.shallow, rw c.unpack-b.ensures (in_grid c.requires c.halving_of-c.ensures c.loop-p.invariant c.min-word.ensures (omega (arith, c.if-word-c.false)) c.take_half.result c.take_half.ensures))

pub returns-then-m-h : goal.returns-then-m-h
returns-then-m-h c =
    grown_room c.requires c.halving_of-c.ensures c.loop-p.invariant c.min-word.ensures (omega (arith, c.if-word-c.false)) c.take_half.result c.take_half.ensures (rw c.unpack-b.ensures at (sym c.in_face.ensures ∙ c.if-in_face.true)) c.if-m-h.true

pub loop-p-preserved-then-in_face : goal.loop-p-preserved-then-in_face
loop-p-preserved-then-in_face c =
    written_put c.requires c.halving_of-c.ensures c.loop-p.invariant c.min-word.ensures (omega (arith, c.if-word-c.false)) c.take_half.result c.take_half.ensures (rw c.unpack-b.ensures at (sym c.in_face.ensures ∙ c.if-in_face.true)) (omega (arith, c.loop-p.invariant.room, c.if-m-h.false))

pub loop-p-preserved : goal.loop-p-preserved
loop-p-preserved c =
    written_pass c.requires c.halving_of-c.ensures c.loop-p.invariant c.min-word.ensures (omega (arith, c.if-word-c.false)) c.take_half.result c.take_half.ensures (rw c.unpack-b.ensures at (sym c.in_face.ensures ∙ c.if-in_face.false))
