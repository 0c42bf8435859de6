-- What `capi::sv_meter_open` leaves when it opened a meter.
use Rattle.std.proofs.Common.{sym}
use Rattle.capi.proofs.Metering.{open_ready}
use Rattle.capi.proofs.sv_meter_open.Goals as goal

pub returns-in-Ok : goal.returns-in-Ok
returns-in-Ok c = rw c.store_opened.ensures (sym (open_ready _ _ _ c.if-meter-lt-METER_WORDS.false c.open.ensures c.in-Ok.is))
