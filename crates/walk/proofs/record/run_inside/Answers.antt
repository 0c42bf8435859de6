-- The run of a body by where the body lies. Assumes nothing.
use mathlib.Core.Path.{ap, ◌∙◌}
use Rattle.format.specs.Refusals.{passed_with}
use Rattle.walk.proofs.Sources.{run_none, run_in_work, run_behind, run_apart}
use Rattle.walk.proofs.record.run_inside.Goals as goal

pub returns-then-to-run : goal.returns-then-to-run
returns-then-to-run c =
    let a = c.args in
    ap passed_with (run_none a.in_work a.resynced a.version a.run a.to a.tag.now a.work.now c.if-to-run.true)

pub returns-then-in_work : goal.returns-then-in_work
returns-then-in_work c =
    let a = c.args in
    run_in_work a.in_work a.resynced a.version a.run a.to a.tag.now a.work.now c.if-in_work.true c.walk.ensures

pub returns-then-resynced : goal.returns-then-resynced
returns-then-resynced c =
    let a = c.args in
    c.walk_in.ensures ∙ ap passed_with (run_behind a.in_work a.resynced a.version a.run a.to a.tag.now a.work.now c.if-in_work.false c.if-resynced.true)

pub returns : goal.returns
returns c =
    let a = c.args in
    c.walk-2.ensures ∙ ap passed_with (run_apart a.in_work a.resynced a.version a.run a.to a.tag.now a.work.now c.if-in_work.false c.if-resynced.false)
