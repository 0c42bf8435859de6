-- The last answer of `capi::sv_meter_next`.
use Rattle.std.proofs.Common.{sym, ◌∙◌}
use Rattle.capi.proofs.Metering.{next_then}
use Rattle.capi.proofs.sv_meter_next.Goals as goal

pub returns : goal.returns
returns c =
    next_then _ _ _ _ c.if-meter-metered.false (sym c.try_from.ensures ∙ c.in-Ok.is) (sym c.is_running.ensures ∙ c.if-not-is_running.false)
    c.running.ensures c.next-next.ensures c.answered.ensures
