-- As the reader opens it. Assumes nothing.
use Rattle.std.proofs.Common.{Bool, ap, ◌∙◌}
use Rattle.std.proofs.lemmas.Result.{err_from_is_err_and}
use Rattle.meter.specs.Meter.{meter_at}
use Rattle.meter.proofs.Openings.{opens_any, opens_refused}
use Rattle.meter.proofs.opening.open_any.Goals as goal

pub returns-in_err-reader : goal.returns-in_err-reader
returns-in_err-reader c =
    let p = err_from_is_err_and c.from_residual.result c.from_residual.ensures.1 in
    rw (p.1, p.2) (opens_refused c.args.tag.now c.args.work.now c.open.new.work _ c.in_err-reader.ensures)

pub returns : goal.returns
returns c =
    let r = c.in_ok-reader.reader in
    opens_any c.args.tag.now c.args.work.now c.open.new.work r c.metered.result
    (c.metered.ensures ∙ ap (λ (t : Bool). meter_at t r) c.is_missing.ensures) c.in_ok-reader.ensures
