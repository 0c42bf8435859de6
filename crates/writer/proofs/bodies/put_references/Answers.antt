-- No other kind than a table has references. Assumes nothing.
use Rattle.format.specs.Unsynch.{unsync}
use Rattle.writer.proofs.Puts.{pen_nil}
use Rattle.writer.proofs.Layouts.{no_references}
use Rattle.writer.proofs.bodies.put_references.Goals as goal

pub returns-in_default : goal.returns-in_default
unfolding unsync
returns-in_default c =
    let a = c.args in
    rw (no_references a.fields a.deviations.now c.in_default.not-Table, pen_nil a.mode a.pen)
