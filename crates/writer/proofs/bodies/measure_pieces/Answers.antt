-- One piece after another. Assumes nothing.
use mathlib.Core.List.{◌++◌}
use Rattle.writer.proofs.Puts.{then_paced}
use Rattle.writer.proofs.bodies.measure_pieces.Goals as goal

pub returns : goal.returns
returns c =
    let a = c.args in
    then_paced a.mode a.pen a.a.now (a.b.now ++ (a.c.now ++ a.d.now)) c.measure_bytes-first.ensures
    (then_paced a.mode c.measure_bytes-first.result a.b.now (a.c.now ++ a.d.now) c.measure_bytes-second.ensures
    (then_paced a.mode c.measure_bytes-second.result a.c.now a.d.now c.measure_bytes-third.ensures c.measure_bytes.ensures))
