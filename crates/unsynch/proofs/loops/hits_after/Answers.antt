-- What is left to show of `unsynch::loops::hits_after`. Assumes nothing.
use Rattle.std.proofs.Common.{◌≡◌, ◌+◌, ◌-◌, ◌/◌, ◌*◌, ℕ, ap}
use native.Mathlib.Omega.{arith}
use Rattle.unsynch.specs.Edits.{hits_after}
use Rattle.unsynch.proofs.Edits.{few_after, hits_parted}
use Rattle.unsynch.proofs.loops.hits_after.Goals as goal

pub overflow_add-n : goal.overflow_add-n
overflow_add-n c =
    let a = c.args in
    let i = a.from + c.loop-k.k * 64 in
    omega (arith, few_after a.how a.s.now i (i + 64 + 1) (omega arith) (omega arith))

pub loop-k-preserved : goal.loop-k-preserved
loop-k-preserved c =
    let a = c.args in
    let i = a.from + c.loop-k.k * 64 in
    let next : i + 64 ≡ a.from + (c.loop-k.k + 1) * 64 = omega arith in
    let few = few_after a.how a.s.now i (i + 64 + 1) (omega arith) (omega arith) in
    let both = hits_parted a.how a.s.now 64 i (i + 64) a.to (omega arith) (omega arith) (omega arith) in
    let same = ap (λ (j : ℕ). hits_after a.how a.s.now j a.to) next in
    record { few = omega (arith, few); same = omega (arith, both, same) }

pub overflow_add-result : goal.overflow_add-result
overflow_add-result c =
    let a = c.args in
    let i = a.from + (a.to - a.from - 1) / 64 * 64 in
    omega (arith, few_after a.how a.s.now i a.to (omega arith) (omega arith))
