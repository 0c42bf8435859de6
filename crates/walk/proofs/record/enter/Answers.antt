-- A stored body by where it lies as it is shown. Assumes nothing.
use mathlib.Core.Path.{◌∙◌}
use Rattle.std.proofs.lemmas.Result.{err_from_is_err_and}
use Rattle.walk.proofs.Sources.{ready_refused, ready_shown, ready_within}
use Rattle.walk.proofs.record.enter.Goals as goal

pub returns-in_err-start : goal.returns-in_err-start
returns-in_err-start c =
    let a = c.args in
    let p = err_from_is_err_and c.from_residual.result c.from_residual.ensures.1 in
    rw (p.1, p.2) (ready_refused a.version a.kind a.from a.to a.tag.now a.work.now a.in_work a.resynced c.ready.new.work c.in_err-start.ensures)

pub shown_body-requires : goal.shown_body-requires
shown_body-requires c =
    let a = c.args in
    ready_within a.version a.kind a.from a.to a.tag.now a.work.now a.in_work a.resynced c.in_ok-start.start c.in_ok-start.stop c.ready.new.work c.in_ok-start.ensures c.requires.0 c.requires.1

pub returns : goal.returns
returns c =
    let a = c.args in
    c.shown_body.ensures
    ∙ ready_shown a.version a.kind a.from a.to a.tag.now a.work.now a.in_work a.resynced c.in_ok-start.start c.in_ok-start.stop c.ready.new.work c.in_ok-start.ensures
