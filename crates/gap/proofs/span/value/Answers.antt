use native.Mathlib.Nat.{le_trans}
use mir.Facts.{to_z-of_z}
use Rattle.whole.specs.Within.{fits}
use Rattle.gap.specs.Steps.{read_part}
use Rattle.gap.specs.Bounds.{values}
use Rattle.gap.proofs.span.value.Goals as goal

pub overflow_mul-result : goal.overflow_mul-result
overflow_mul-result c =
    let f = values c.requires.0 c.requires.1.1.0 c.requires.1.1.1 in
    let u = read_part (le_trans c.requires.1.1.0 c.requires.1.0) in
    let v = read_part (le_trans c.requires.1.1.1 c.requires.1.0) in
    rw (read_part c.requires.1.0, to_z-of_z (fits tt c.requires.0.itself.a)) f.a

pub overflow_mul-result-2 : goal.overflow_mul-result-2
overflow_mul-result-2 c =
    let f = values c.requires.0 c.requires.1.1.0 c.requires.1.1.1 in
    let u = read_part (le_trans c.requires.1.1.0 c.requires.1.0) in
    let v = read_part (le_trans c.requires.1.1.1 c.requires.1.0) in
    rw (u, to_z-of_z (fits tt c.requires.0.itself.b)) f.b

pub overflow_add-result : goal.overflow_add-result
overflow_add-result c =
    let f = values c.requires.0 c.requires.1.1.0 c.requires.1.1.1 in
    let u = read_part (le_trans c.requires.1.1.0 c.requires.1.0) in
    let v = read_part (le_trans c.requires.1.1.1 c.requires.1.0) in
    rw (read_part c.requires.1.0, to_z-of_z (fits tt c.requires.0.itself.a), to_z-of_z f.a, u, to_z-of_z (fits tt c.requires.0.itself.b), to_z-of_z f.b) f.ab

pub overflow_mul-result-3 : goal.overflow_mul-result-3
overflow_mul-result-3 c =
    let f = values c.requires.0 c.requires.1.1.0 c.requires.1.1.1 in
    let u = read_part (le_trans c.requires.1.1.0 c.requires.1.0) in
    let v = read_part (le_trans c.requires.1.1.1 c.requires.1.0) in
    rw (v, to_z-of_z (fits tt c.requires.0.itself.c)) f.c

pub overflow_add-result-2 : goal.overflow_add-result-2
overflow_add-result-2 c =
    let f = values c.requires.0 c.requires.1.1.0 c.requires.1.1.1 in
    let u = read_part (le_trans c.requires.1.1.0 c.requires.1.0) in
    let v = read_part (le_trans c.requires.1.1.1 c.requires.1.0) in
    rw (read_part c.requires.1.0, to_z-of_z (fits tt c.requires.0.itself.a), to_z-of_z f.a, u, to_z-of_z (fits tt c.requires.0.itself.b), to_z-of_z f.b, to_z-of_z f.ab, v, to_z-of_z (fits tt c.requires.0.itself.c), to_z-of_z f.c) f.abc

pub returns : goal.returns
returns c =
    let f = values c.requires.0 c.requires.1.1.0 c.requires.1.1.1 in
    let u = read_part (le_trans c.requires.1.1.0 c.requires.1.0) in
    let v = read_part (le_trans c.requires.1.1.1 c.requires.1.0) in
    rw (read_part c.requires.1.0, to_z-of_z (fits tt c.requires.0.itself.a), to_z-of_z f.a, u, to_z-of_z (fits tt c.requires.0.itself.b), to_z-of_z f.b, to_z-of_z f.ab, v, to_z-of_z (fits tt c.requires.0.itself.c), to_z-of_z f.c, to_z-of_z f.abc)
