-- The checks down to 34, the size, then the places and the room. Assumes nothing.
use mathlib.Core.Path.{ap, ◌∙◌}
use Rattle.std.proofs.lemmas.Result.{err_from_is_err_and}
use Rattle.format.specs.Record.{given_rec}
use Rattle.format.specs.Refusals.{passed}
use Rattle.format.specs.declared.Mode.{Mode}
use Rattle.writer.proofs.Layouts.{puttable}
use Rattle.writer.proofs.Lengths.{size_refusal_lem, exact_size}
use Rattle.writer.proofs.Gaps.{gap_refused, gap_too_long}
use Rattle.writer.proofs.between.put_between.Goals as goal

pub returns-in_err-record_check : goal.returns-in_err-record_check
returns-in_err-record_check c =
    let a = c.args in
    let r = given_rec a.heading a.given.now in
    let p = err_from_is_err_and c.from_residual.result c.from_residual.ensures.1 in
    rw (p.1, p.2) (gap_refused a.version a.gap r a.buffer.now c.in_err-record_check.ensures)

pub measure_frame-size-requires : goal.measure_frame-size-requires
measure_frame-size-requires c =
    let a = c.args in
    let r = given_rec a.heading a.given.now in
    puttable a.version r c.in_ok-record_check.ensures

pub returns-in_err-size_check : goal.returns-in_err-size_check
returns-in_err-size_check c =
    let a = c.args in
    let r = given_rec a.heading a.given.now in
    let p = err_from_is_err_and c.from_residual-in_err-size_check.result c.from_residual-in_err-size_check.ensures.1 in
    let size = c.in_err-size_check.ensures ∙ ap passed (size_refusal_lem a.version Mode.Off r _ c.measure_frame-size.ensures) in
    rw (p.1, p.2) (gap_too_long a.version a.gap r a.buffer.now c.in_ok-record_check.ensures size)

pub refit-requires : goal.refit-requires
refit-requires c =
    let a = c.args in
    let r = given_rec a.heading a.given.now in
    let exact = exact_size a.version _ _ c.measure_frame-size.ensures c.in_ok-size_check.ensures in
    (puttable a.version r c.in_ok-record_check.ensures, exact.0, exact.1)
