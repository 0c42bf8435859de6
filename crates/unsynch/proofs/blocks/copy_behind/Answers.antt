-- What is left to show of `unsynch::blocks::copy_behind`. Assumes nothing.
use Rattle.std.proofs.Common.{◌≡◌, ◌+◌, ◌-◌, ℕ, List, length, replicate}
use native.Mathlib.Omega.{arith}
use lib.Seq.{slice, length-slice}
use Rattle.laws.proofs.Stores.{by_way}
use Rattle.unsynch.proofs.blocks.copy_behind.Goals as goal

pub returns : goal.returns
returns c =
    let a = c.args in
    let part : List ℕ = slice (a.i + 1) (a.i + a.n + 1) a.s.now in
    let bytes = by_way a.buf.now a.s.now (replicate 64 0) (a.i + 1) (a.i + a.n + 1) a.at a.n (a.at + a.n - a.at) (omega arith) (omega arith) (omega arith) (omega arith)
    c.copy_from_slice.ensures.after c.copy_from_slice-2.ensures.after in
    let n : a.at + a.n ≡ a.at + length part = omega (arith, length-slice (a.i + 1) (a.i + a.n + 1) a.s.now (omega arith)) in
    λ j. (n j, bytes j)
