-- The three numbers, one after another. Assumes nothing.
use mathlib.Core.Path.{refl}
use Prim.Native.Nat.{◌+◌}
use native.Mathlib.Omega.{arith}
use mathlib.Core.List.{◌++◌}
use Rattle.format.specs.Numbers.{bytes_of}
use Rattle.writer.proofs.Heads.{bytes_put}
use Rattle.writer.proofs.frames.put_long.Goals as goal

pub returns : goal.returns
returns c =
    let a = c.args in
    rw (← c.from.ensures)
    (bytes_put a.buffer.now a.at 4 c.from.result (bytes_of 4 a.size ++ bytes_of 2 a.flags) c.put_digits.ensures
    (bytes_put _ (a.at + 4) 4 a.size (bytes_of 2 a.flags) c.put_digits-2.ensures c.put_digits-3.ensures (omega arith))
    refl)
