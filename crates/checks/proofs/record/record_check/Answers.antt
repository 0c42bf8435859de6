-- The heading, then the early checks, then the late ones. Assumes nothing.
use mathlib.Core.Path.{◌∙◌}
use Rattle.std.proofs.lemmas.Result.{err_from_is_err_and}
use Rattle.format.specs.Record.{given_rec}
use Rattle.checks.proofs.Order.{refused_heading, refused_early, then_late}
use Rattle.checks.proofs.record.record_check.Goals as goal

pub returns-in_err-id_check : goal.returns-in_err-id_check
returns-in_err-id_check c =
    let a = c.args in
    let r = given_rec a.heading a.given.now in
    let p = err_from_is_err_and c.from_residual.result c.from_residual.ensures.1 in
    rw (p.1, p.2) (refused_heading a.version r (c.in_err-id_check.ensures a.given.now.name.now a.given.now.names.now a.given.now.rest.now a.given.now.deviations.now))

pub returns-in_err-early_check : goal.returns-in_err-early_check
returns-in_err-early_check c =
    let a = c.args in
    let r = given_rec a.heading a.given.now in
    let p = err_from_is_err_and c.from_residual-in_err-early_check.result c.from_residual-in_err-early_check.ensures.1 in
    rw (p.1, p.2) (refused_early a.version r (c.in_ok-id_check.ensures a.given.now.name.now a.given.now.names.now a.given.now.rest.now a.given.now.deviations.now) (c.in_err-early_check.ensures a.given.now.rest.now a.given.now.deviations.now))

pub returns : goal.returns
returns c =
    let a = c.args in
    let r = given_rec a.heading a.given.now in
    c.late_check.ensures a.given.now.name.now a.given.now.names.now
    ∙ then_late a.version r (c.in_ok-id_check.ensures a.given.now.name.now a.given.now.names.now a.given.now.rest.now a.given.now.deviations.now) (c.in_ok-early_check.ensures a.given.now.rest.now a.given.now.deviations.now)
