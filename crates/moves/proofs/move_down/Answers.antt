-- What is left to show of `moves::move_down`. Assumes nothing.
use Rattle.std.proofs.Common.{◌≡◌, ◌+◌, ◌*◌, ◌/◌, ◌%◌, ℕ, subst}
use native.Mathlib.Omega.{arith}
use Rattle.moves.proofs.Moves.{Down, down_turn, down_done}
use Rattle.moves.proofs.move_down.Goals as goal

pub loop-k-preserved : goal.loop-k-preserved
loop-k-preserved c =
    let a = c.args in
    let L = c.loop-k in
    let next : (L.k + 1) * 64 ≡ L.k * 64 + 64 = omega arith in
    rw next (down_turn a.from a.at a.n (omega arith) (omega arith) (L.k * 64) L.invariant 64 (omega arith) c.move_block.ensures)

pub returns : goal.returns
returns c =
    let a = c.args in
    let L = c.loop-k in
    let all : L.k ≡ a.n / 64 = omega arith in
    let there = subst (λ (k : ℕ). Down a.s.now a.from a.at a.n L.s (k * 64)) all L.invariant in
    down_done a.from a.at a.n (omega arith) (omega arith) (a.n / 64 * 64) there (a.n % 64) (omega arith) c.move_block-2.ensures
