-- What is left to show of `moves::move_up`. Assumes nothing.
use Rattle.std.proofs.Common.{◌+◌, ◌*◌, ◌-◌, ◌%◌}
use native.Mathlib.Omega.{arith}
use Rattle.moves.proofs.Moves.{up_turn, up_done}
use Rattle.moves.proofs.move_up.Goals as goal

pub loop-k-preserved : goal.loop-k-preserved
loop-k-preserved c =
    let a = c.args in
    let L = c.loop-k in
    up_turn a.from a.at a.n (omega arith) (omega arith) (a.n % 64 + L.k * 64) L.invariant (a.n % 64 + (L.k - 1) * 64) 64 (omega arith) (omega arith) c.move_block.ensures

pub returns : goal.returns
returns c =
    let a = c.args in
    let L = c.loop-k in
    up_done a.from a.at a.n (omega arith) (omega arith) (a.n % 64 + L.k * 64) L.invariant (a.n % 64) (omega arith) (omega arith) c.move_block-2.ensures
