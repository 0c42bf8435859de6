-- The frame whose header was read lies before the end. Assumes nothing.
use native.Mathlib.Omega.{arith}
use Rattle.walk.proofs.Onwards.{head_within}
use Rattle.walk.proofs.steps.step_at.Goals as goal

pub overflow_add-start : goal.overflow_add-start
overflow_add-start c =
    let a = c.args in
    let w = head_within a.version a.depth a.at a.end a.s.now c.in-Some.head c.requires (rw c.in-Some.is at c.in_ok-head.ensures) in
    omega (arith, w, c.ranges)

pub overflow_add-result : goal.overflow_add-result
overflow_add-result c =
    let a = c.args in
    let w = head_within a.version a.depth a.at a.end a.s.now c.in-Some.head c.requires (rw c.in-Some.is at c.in_ok-head.ensures) in
    omega (arith, w, c.ranges)
