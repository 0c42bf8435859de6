-- The checks down to 34, the frames that an altered file loses, the size, then the room. Assumes nothing.
use mathlib.Core.Path.{sym, ap, ◌∙◌}
use Rattle.std.proofs.lemmas.Result.{err_from_is_err_and}
use Rattle.format.specs.Record.{given_rec}
use Rattle.format.specs.Refusals.{passed}
use Rattle.writer.proofs.Layouts.{puttable}
use Rattle.writer.proofs.Lengths.{size_refusal_lem, exact_size}
use Rattle.writer.proofs.Adds.{refused, too_long}
use Rattle.writer.proofs.Writer.take.Goals as goal

pub returns-in_err-record_check-clause-taken : goal.returns-in_err-record_check-clause-taken
returns-in_err-record_check-clause-taken c =
    let a = c.args in
    let r = given_rec a.heading a.given.now in
    let p = err_from_is_err_and c.from_residual.result c.from_residual.ensures.1 in
    rw (p.1, p.2) (refused a.self.now r a.buffer.now c.in_err-record_check.ensures)

pub measure_frame-size-requires : goal.measure_frame-size-requires
measure_frame-size-requires c =
    let a = c.args in
    let r = given_rec a.heading a.given.now in
    puttable a.self.now.version r c.in_ok-record_check.ensures

pub returns-in_err-size_check-clause-taken : goal.returns-in_err-size_check-clause-taken
returns-in_err-size_check-clause-taken c =
    let a = c.args in
    let w = a.self.now in
    let r = given_rec a.heading a.given.now in
    let p = err_from_is_err_and c.from_residual-in_err-size_check.result c.from_residual-in_err-size_check.ensures.1 in
    let size = c.in_err-size_check.ensures ∙ ap passed (size_refusal_lem w.version w.mode r _ c.measure_frame-size.ensures) in
    rw (p.1, p.2) (too_long w r a.buffer.now c.in_ok-record_check.ensures (sym c.is_lost.ensures ∙ c.if-is_lost.false) size)

pub append-requires : goal.append-requires
append-requires c =
    let a = c.args in
    let w = a.self.now in
    let r = given_rec a.heading a.given.now in
    let exact = exact_size w.version _ _ c.measure_frame-size.ensures c.in_ok-size_check.ensures in
    (puttable w.version r c.in_ok-record_check.ensures, exact.0, exact.1)
