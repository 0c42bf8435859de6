-- What is left to show of `unsynch::loops::edit_chunk`. Assumes nothing.
use Rattle.std.proofs.Common.{◌-◌, List, ℕ, length, replicate, ap, ◌∙◌}
use native.Mathlib.Omega.{arith}
use Rattle.laws.proofs.Stores.{part_copied}
use Rattle.unsynch.specs.Edits.{stored}
use Rattle.unsynch.proofs.Edits.{in_copy}
use Rattle.unsynch.proofs.loops.edit_chunk.Goals as goal

pub edit_after-requires-clause-to_in_bounds : goal.edit_after-requires-clause-to_in_bounds
edit_after-requires-clause-to_in_bounds c =
    let a = c.args in
    let bytes = part_copied (replicate 1025 0) a.area.now a.from a.to 0 (a.to - a.from) (omega arith) (omega arith) (omega arith) c.copy_from_slice.ensures.after in
    let e = in_copy a.how a.area.now (replicate 1025 0) _ a.from a.to (omega arith) (omega arith) (omega arith) bytes in
    omega (arith, ap length e.1)

pub returns : goal.returns
returns c =
    let a = c.args in
    let bytes = part_copied (replicate 1025 0) a.area.now a.from a.to 0 (a.to - a.from) (omega arith) (omega arith) (omega arith) c.copy_from_slice.ensures.after in
    let e = in_copy a.how a.area.now (replicate 1025 0) _ a.from a.to (omega arith) (omega arith) (omega arith) bytes in
    c.edit_after.ensures ∙ ap (λ (l : List ℕ). stored l a.at a.area.now) e.1
