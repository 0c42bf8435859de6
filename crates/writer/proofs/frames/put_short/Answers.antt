-- The two numbers, one after the other. Assumes nothing.
use mathlib.Core.Path.{refl}
use Rattle.format.specs.Numbers.{bytes_of}
use Rattle.writer.proofs.Heads.{bytes_put}
use Rattle.writer.proofs.frames.put_short.Goals as goal

pub returns : goal.returns
returns c =
    let a = c.args in
    rw (← c.from.ensures) (bytes_put a.buffer.now a.at 3 c.from.result (bytes_of 3 a.size) c.put_digits.ensures c.put_digits-2.ensures refl)
