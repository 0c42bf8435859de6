-- What is left to show of `unsynch::loops::hits_by_byte`. Assumes nothing.
use native.Mathlib.Omega.{arith}
use Rattle.unsynch.proofs.Edits.{number_of, hits_end, counts}
use Rattle.unsynch.proofs.loops.hits_by_byte.Goals as goal

pub overflow_add-n : goal.overflow_add-n
overflow_add-n c = omega (arith, number_of c.hit.result)

pub loop-k-preserved : goal.loop-k-preserved
loop-k-preserved c =
    let a = c.args in
    let one = counts a.how a.s.now c.loop-k.k a.to (omega arith) (omega arith) c.hit.result c.hit.ensures in
    record { few = omega (arith, number_of c.hit.result); same = omega (arith, number_of c.hit.result, one) }

pub returns : goal.returns
returns c = let a = c.args in omega (arith, hits_end a.how a.s.now c.loop-k.k a.to (omega arith))
