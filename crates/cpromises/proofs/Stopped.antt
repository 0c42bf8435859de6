-- A tag that the exported functions wrote and that was then cut: what they read and meter of it. Assumes nothing.
use mathlib.Core.Path.{◌≡◌, refl, sym, ap, ◌∙◌}
use Prim.Native.Nat.{ℕ}
use native.Mathlib.Omega.{arith}
use mathlib.Core.Bool.{Bool, true, false}
use mathlib.Core.List.{List, [], ◌∷◌}
use lib.ListN.{length, take}
use lib.Dec.{ltb}
use Rattle.format.specs.Record.{Rec}
use Rattle.meter.specs.declared.Meter.{Meter}
use Rattle.promises.specs.Reading.{Ending, ended, refused, unfinished, Reading, read_all}
use Rattle.promises.specs.Metering.{Counted, meter_all}
use Rattle.promises.specs.Money.{total}
use Rattle.stopped.specs.Promises.{Stopped}
use Rattle.stopped.proofs.Reading.{stopped_reads}
use Rattle.stopped.proofs.Endings.{stopped_room}
use Rattle.stopped.proofs.Metering.{stopped_meters, all_counted, stopped_owed}
use Rattle.stopped.proofs.Plain.{plain_stopped_meters}
use Rattle.capi.specs.Words.{word, flag}
use Rattle.capi.specs.Meters.{sv_meter_open}
use Rattle.cpromises.specs.Reading.{SvReading}
use Rattle.cpromises.specs.AnyTag.{end_number}
use Rattle.cpromises.specs.Metering.{sv_metering}
use Rattle.cpromises.specs.Money.{MeterLent}
use Rattle.cpromises.specs.Stopped.{SvStopped, SvStoppedReads, SvStoppedRoom, SvStoppedMeters, SvStoppedTold, SvStoppedOwed, SvPlainStopped}
use Rattle.cpromises.proofs.Writing.{written}
use Rattle.cpromises.proofs.AnyTag.{sv_reads_any}
use Rattle.cpromises.proofs.Metering.{sv_meters}
use Rattle.cpromises.proofs.Money.{marks, says_last}

-- what the exported functions wrote, the definitions did
as_stopped : {version mode padding n : ℕ} {records : List Rec} {tag work : List ℕ} → SvStopped version mode padding n records tag work
    → Stopped version mode padding n records tag work
as_stopped s = record { is_written = (written s.is_written).0; ten = s.ten; room = s.room }

pub sv_stopped_reads : SvStoppedReads
sv_stopped_reads version mode padding n records tag work reader words numbers count s b lent =
    let f = stopped_reads version mode padding n records tag work (as_stopped s) in
    (f.after, f.most, sv_reads_any (take n tag) work reader words numbers count b lent ∙ ap {B = SvReading} (λ (o : Reading). (o.0, end_number o.1)) f.is)

want_of_room : (e : Ending) → end_number e ≡ 14 → e ≡ refused 14
want_of_room ended z = absurd (omega arith)
want_of_room (refused k) z = ap refused z
want_of_room unfinished z = absurd (omega arith)

pub sv_stopped_room : SvStoppedRoom
sv_stopped_room version mode padding n records tag work reader words numbers count s b lent z =
    let o = sv_reads_any (take n tag) work reader words numbers count b lent in
    stopped_room version mode padding n records tag work (as_stopped s)
    (want_of_room (read_all (take n tag) work).1 (sym (ap (λ (x : SvReading). x.1) o) ∙ z))

-- what the definitions meter, with the mark in its word
module _ (tag work meter metered : List ℕ) (lent : MeterLent meter metered) {cs : List Counted} {e : Ending} {missing : Bool} {m : Meter}
    (counted : (meter_all tag work).counted ≡ cs) (ending : (meter_all tag work).ending ≡ e) (last : (meter_all tag work).last ≡ m ∷ []) (mark : m.missing ≡ missing) where
  metered_so : let o = sv_metering tag work meter metered in (o.counted ≡ cs) × (o.number ≡ end_number e) × (word 10 o.left ≡ flag missing)
  metered_so =
      let o = sv_meters tag work meter metered lent in
      let left = (sv_metering tag work meter metered).left in
      let g = marks left m (says_last (sv_meter_open tag work meter).0 meter left (meter_all tag work).last m last o.2) in
      (o.0 ∙ counted, o.1 ∙ ap end_number ending, g.missing ∙ ap flag mark)

pub sv_stopped_meters : SvStoppedMeters
sv_stopped_meters version mode padding n records tag work meter metered s lent =
    let c = stopped_meters version mode padding n records tag work (as_stopped s) in
    let m = c.2 in
    metered_so (take n tag) work meter metered lent c.0 c.1 m.1 m.3

pub sv_plain_stopped : SvPlainStopped
sv_plain_stopped n tag work meter metered plain ten lent =
    let c = plain_stopped_meters n tag work plain ten in
    let m = c.2 in
    metered_so (take n tag) work meter metered lent c.0 c.1 m.1 m.3

flag_off : (t : Bool) → flag t ≡ 0 → t ≡ false
flag_off true e = absurd (omega arith)
flag_off false e = refl

pub sv_stopped_told : SvStoppedTold
sv_stopped_told version mode padding n records tag work meter metered s lent off =
    let o = sv_meters (take n tag) work meter metered lent in
    let mark = (sv_stopped_meters version mode padding n records tag work meter metered s lent).2 in
    let all = all_counted version mode padding n records tag work (as_stopped s) (flag_off (ltb n (length tag)) (sym mark ∙ off)) in
    (o.0 ∙ all.0, o.1 ∙ ap end_number all.1)

pub sv_stopped_owed : SvStoppedOwed
sv_stopped_owed version mode padding n records user tag work meter metered s lent =
    ap (total user) (sv_meters (take n tag) work meter metered lent).0 ∙ stopped_owed version mode padding n records user tag work (as_stopped s)
