-- The four pieces, then the references. Assumes nothing.
use mathlib.Core.List.{◌++◌}
use lib.ListN.{take}
use Rattle.writer.specs.Layouts.{packed_of}
use Rattle.writer.proofs.Puts.{then_sized}
use Rattle.writer.proofs.bodies.measure_body.Goals as goal

pub returns : goal.returns
returns c =
    let a = c.args in
    let p = c.plan_of-plan in
    let r = p.result in
    let front = take r.name a.given.now.name.now ++ (take r.len r.bytes ++ (take r.names a.given.now.names.now ++ take r.rest a.given.now.rest.now)) in
    rw (p.ensures.body a.given.now.deviations.now)
    (then_sized a.mode a.pen front (packed_of a.fields a.given.now.deviations.now) c.measure_pieces-next.ensures c.measure_references.ensures)
