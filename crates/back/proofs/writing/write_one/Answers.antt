use Rattle.std.proofs.lemmas.Result.{err_from_is_err_and}
use Rattle.back.proofs.Calls.{begun, declined, finished}
use Rattle.back.proofs.writing.write_one.Goals as goal

pub returns-in_err-writer-clause-output_after : goal.returns-in_err-writer-clause-output_after
returns-in_err-writer-clause-output_after c =
    let p = err_from_is_err_and c.from_residual.result c.from_residual.ensures.1 in
    let a = c.args in
    rw (p.1, p.2) (begun a.version a.mode a.padding _ a.buffer.now a.output.now c.in_err-writer.ensures)

pub returns-in_err-added-clause-output_after : goal.returns-in_err-added-clause-output_after
returns-in_err-added-clause-output_after c =
    let p = err_from_is_err_and c.from_residual-in_err-added.result c.from_residual-in_err-added.ensures.1 in
    let a = c.args in
    rw (p.1, p.2) (declined a.version a.mode a.padding _ a.buffer.now a.output.now c.in_ok-writer.ensures c.add-added.ensures.added c.in_err-added.was)

pub returns-clause-output_after : goal.returns-clause-output_after
returns-clause-output_after c =
    let a = c.args in
    finished a.version a.mode a.padding _ a.buffer.now a.output.now c.in_ok-writer.ensures c.add-added.ensures.added c.in_ok-added.was c.finish-finished.ensures
