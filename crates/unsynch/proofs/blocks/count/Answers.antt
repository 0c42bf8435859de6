-- What is left to show of `unsynch::blocks::count`. Assumes nothing.
use Rattle.std.proofs.Common.{◌≡◌, ◌+◌, ℕ, ap}
use native.Mathlib.Omega.{arith}
use Rattle.unsynch.specs.Edits.{hits_after}
use Rattle.unsynch.proofs.Edits.{number_of, hits_end, counts}
use Rattle.unsynch.proofs.blocks.count.Goals as goal

pub loop-k-preserved : goal.loop-k-preserved
loop-k-preserved c =
    let a = c.args in
    let L = c.loop-k in
    let here : a.i + L.k + 1 ≡ a.i + (L.k + 1) = omega arith in
    let one = counts a.how a.s.now (a.i + L.k) (a.i + 64 + 1) (omega arith) (omega arith) c.hit.result c.hit.ensures in
    let same = ap (λ (j : ℕ). hits_after a.how a.s.now j (a.i + 64 + 1)) here in
    record { few = omega (arith, number_of c.hit.result); same = omega (arith, number_of c.hit.result, one, same) }

pub returns : goal.returns
returns c =
    let a = c.args in
    omega (arith, hits_end a.how a.s.now (a.i + c.loop-k.k) (a.i + 64 + 1) (omega arith))
