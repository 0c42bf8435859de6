-- What is left to show of `moves::move_block`. Assumes nothing.
use Rattle.std.proofs.Common.{◌+◌, ◌-◌}
use native.Mathlib.Omega.{arith}
use lib.ListN.{replicate}
use Rattle.laws.proofs.Stores.{by_way}
use Rattle.moves.proofs.move_block.Goals as goal

pub returns : goal.returns
returns c =
    let a = c.args in
    by_way a.s.now a.s.now (replicate 64 0) a.from (a.from + a.n) a.at a.n (a.at + a.n - a.at) (omega arith) (omega arith) (omega arith) (omega arith) c.copy_from_slice.ensures.after c.copy_from_slice-2.ensures.after
