-- What is met, by what a glance tells. Assumes nothing.
use Rattle.std.proofs.Common.{arith}
use Rattle.meter.specs.declared.glance.Glance.{Glance}
use Rattle.meter.proofs.Meets.{says_here, fits_in, meets_end, meets_plain, meets_flagged, meets_meter}
use Rattle.meter.proofs.going.meet.Goals as goal

pub overflow_add-at : goal.overflow_add-at
overflow_add-at c =
    let a = c.args in
    let f = fits_in a.version a.at a.end c.min.result c.in-Plain.size c.source-s.result.now c.min.ensures c.in-Plain.ensures.0 in
    omega (arith, f, c.head_len.ensures.0)

pub overflow_add-at-in-Plain : goal.overflow_add-at-in-Plain
overflow_add-at-in-Plain c =
    let a = c.args in
    let f = fits_in a.version a.at a.end c.min.result c.in-Plain.size c.source-s.result.now c.min.ensures c.in-Plain.ensures.0 in
    omega (arith, f, c.head_len.ensures.0)

pub overflow_add-first : goal.overflow_add-first
overflow_add-first c =
    let a = c.args in
    let f = fits_in a.version a.at a.end c.min.result c.in-Flagged.size c.source-s.result.now c.min.ensures c.in-Flagged.ensures.0 in
    omega (arith, f, c.head_len-in-Flagged.ensures.0)

pub overflow_add-first-in-Flagged : goal.overflow_add-first-in-Flagged
overflow_add-first-in-Flagged c =
    let a = c.args in
    let f = fits_in a.version a.at a.end c.min.result c.in-Flagged.size c.source-s.result.now c.min.ensures c.in-Flagged.ensures.0 in
    omega (arith, f, c.head_len-in-Flagged.ensures.0)

pub overflow_add-first-in-Meter : goal.overflow_add-first-in-Meter
overflow_add-first-in-Meter c =
    let a = c.args in
    let f = fits_in a.version a.at a.end c.min.result c.in-Meter.size c.source-s.result.now c.min.ensures c.in-Meter.ensures.0 in
    omega (arith, f, c.head_len-in-Meter.ensures.0)

pub overflow_add-next : goal.overflow_add-next
overflow_add-next c =
    let a = c.args in
    let f = fits_in a.version a.at a.end c.min.result c.in-Meter.size c.source-s.result.now c.min.ensures c.in-Meter.ensures.0 in
    omega (arith, f, c.head_len-in-Meter.ensures.0)

pub returns-in-End : goal.returns-in-End
returns-in-End c =
    let a = c.args in
    λ begin. meets_end a.version a.in_work begin a.at a.end a.tag.now a.work.now
    (says_here a.version a.in_work a.at a.end c.min.result c.source-s.result.now a.tag.now a.work.now Glance.End c.source-s.ensures c.min.ensures c.in-End.ensures)

pub returns-in-Plain : goal.returns-in-Plain
returns-in-Plain c =
    let a = c.args in
    λ begin. rw (c.passed.ensures, c.head_len.ensures.0)
    (meets_plain a.version a.in_work begin a.at a.end a.tag.now a.work.now c.in-Plain.size
    (says_here a.version a.in_work a.at a.end c.min.result c.source-s.result.now a.tag.now a.work.now (Glance.Plain c.in-Plain.size) c.source-s.ensures c.min.ensures c.in-Plain.ensures))

pub returns-in-Flagged : goal.returns-in-Flagged
returns-in-Flagged c =
    let a = c.args in
    λ begin. meets_flagged a.version a.in_work begin a.at a.end a.tag.now a.work.now c.in-Flagged.size c.if-not-in_work.true
    (says_here a.version a.in_work a.at a.end c.min.result c.source-s.result.now a.tag.now a.work.now (Glance.Flagged c.in-Flagged.size) c.source-s.ensures c.min.ensures c.in-Flagged.ensures)
    (rw c.head_len-in-Flagged.ensures.0 at c.flagged.ensures)

pub returns-in-Meter : goal.returns-in-Meter
returns-in-Meter c =
    let a = c.args in
    λ begin. meets_meter a.version a.in_work begin a.at a.end a.tag.now a.work.now c.in-Meter.size
    (says_here a.version a.in_work a.at a.end c.min.result c.source-s.result.now a.tag.now a.work.now (Glance.Meter c.in-Meter.size) c.source-s.ensures c.min.ensures c.in-Meter.ensures)
    c.head_len-in-Meter.ensures.0 c.source-s.ensures (c.parse.ensures a.version) (c.read_as.ensures a.version)
