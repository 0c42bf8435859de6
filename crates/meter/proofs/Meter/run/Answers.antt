-- The meter by what stood at its place. Assumes nothing.
use Rattle.std.proofs.Common.{◌∙◌}
use Rattle.meter.proofs.Meets.{goes_end, goes_refused, goes_found, passed_less}
use Rattle.meter.proofs.Meter.run.Goals as goal

pub returns-in-Ok-None : goal.returns-in-Ok-None
returns-in-Ok-None c =
    let m = c.loop-met.self in
    goes_end m c.args.tag.now c.loop-met.work c.meet.new.work c.loop-met.invariant.runs c.meet.ensures (rw c.in-Ok-None.field-0-is at c.in-Ok-None.is)
    ∙ c.loop-met.invariant.same

pub loop-met-smaller : goal.loop-met-smaller
loop-met-smaller c =
    let r = c.loop-met.self.reader in
    let p = c.in-Passed in
    passed_less r.version r.in_work 0 r.at r.end c.args.tag.now c.loop-met.work p.next p.short p.packed (c.meet.ensures 0) (rw (c.in-Ok-Some.field-0-is, p.is) at c.in-Ok-Some.is)

pub returns-in-Popularimeter : goal.returns-in-Popularimeter
returns-in-Popularimeter c =
    let m = c.loop-met.self in
    let p = c.in-Popularimeter in
    rw c.one_more-self.ensures
    (goes_found m c.args.tag.now c.loop-met.work c.meet.new.work c.loop-met.invariant.runs c.meet.ensures (rw (c.in-Ok-Some.field-0-is, p.is) at c.in-Ok-Some.is)
    ∙ c.loop-met.invariant.same)

pub returns-in-Err : goal.returns-in-Err
returns-in-Err c =
    let m = c.loop-met.self in
    goes_refused m c.args.tag.now c.loop-met.work c.meet.new.work c.loop-met.invariant.runs c.meet.ensures c.in-Err.is
    ∙ c.loop-met.invariant.same
