-- The widths before the rest. Assumes nothing.
use mathlib.Core.Path.{◌∙◌}
use Rattle.std.proofs.lemmas.Result.{err_from_is_err_and}
use Rattle.format.specs.Table.{width_checks}
use Rattle.format.specs.Encode.{deviation_checks}
use Rattle.checks.proofs.Passed.{next_all, stop_all}
use Rattle.checks.proofs.tables.table_check.Goals as goal

pub returns-in_err-widths_refusal : goal.returns-in_err-widths_refusal
returns-in_err-widths_refusal c =
    let a = c.args in
    let p = err_from_is_err_and c.from_residual.result c.from_residual.ensures.1 in
    rw (p.1, p.2) (stop_all (width_checks a.v a.w) (deviation_checks a.bytes a.millis a.v a.w a.deviations.now) c.in_err-widths_refusal.ensures)

pub returns : goal.returns
returns c =
    let a = c.args in
    c.deviations_check.ensures ∙ next_all (width_checks a.v a.w) (deviation_checks a.bytes a.millis a.v a.w a.deviations.now) c.in_ok-widths_refusal.ensures
