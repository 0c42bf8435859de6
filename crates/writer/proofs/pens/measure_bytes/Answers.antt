-- Bytes as many as the limit are past it. Assumes nothing.
use mathlib.Core.Logic.{inr}
use native.Mathlib.Omega.{arith}
use Rattle.format.specs.Unsynch.{guards}
use Rattle.format.proofs.Unsynch.{unsync_longer}
use Rattle.writer.proofs.Puts.{count_all}
use Rattle.writer.proofs.pens.measure_bytes.Goals as goal
use Rattle.writer.proofs.pens.measure_bytes.Goals.{then-pen-ge-LIMIT-via-then-pen-ge-LIMIT, then-pen-ge-LIMIT-via-else-pen-ge-LIMIT+then-s-ge-LIMIT}

pub returns-then-pen-ge-LIMIT : goal.returns-then-pen-ge-LIMIT
returns-then-pen-ge-LIMIT c =
    let a = c.args in
    let longer = unsync_longer (guards a.mode) a.pen.prev a.s.now in
    elim c.then-pen-ge-LIMIT.branch [
      | then-pen-ge-LIMIT-via-then-pen-ge-LIMIT w ↦ inr (omega arith)
      | then-pen-ge-LIMIT-via-else-pen-ge-LIMIT+then-s-ge-LIMIT w ↦ inr (omega arith)
    ]

pub overflow_add-result : goal.overflow_add-result
overflow_add-result c = let a = c.args in omega (arith, (count_all a.mode a.pen.prev a.s.now c.unsync_len.ensures).1)
