-- What is left to show of `unsynch::loops::drop_bytes`. Assumes nothing.
use Rattle.std.proofs.Common.{refl}
use native.Mathlib.Omega.{arith}
use Rattle.unsynch.proofs.Edits.{number_of}
use Rattle.unsynch.proofs.Turns.{drop_byte}
use Rattle.unsynch.proofs.loops.drop_bytes.Goals as goal

pub bounds-buf-o : goal.bounds-buf-o
bounds-buf-o c = let a = c.args in (drop_byte a.s.now c.loop-i.i a.to (omega arith) (omega arith) c.loop-i.invariant _ _ refl refl).0

pub loop-i-preserved : goal.loop-i-preserved
loop-i-preserved c =
    let a = c.args in
    let L = c.loop-i in
    (drop_byte a.s.now L.i a.to (omega arith) (omega arith) L.invariant c.stays.result _ c.stays.ensures (omega (arith, number_of c.stays.result))).1
