-- A popularimeter that is put at the front of the room and read there. Assumes nothing.
use lib.Seq.{slice}
use mathlib.Core.Bool.{true, false}
use Rattle.format.specs.Unsynch.{resynchronised}
use Rattle.format.specs.Walk.{record_of}
use Rattle.walk.proofs.Passes.{front_read}
use Rattle.walk.proofs.passing.flagged.Goals as goal

pub returns : goal.returns
returns c =
    let a = c.args in
    λ v id place from len. front_read v (record_of id a.short false place true from len) a.next (resynchronised (slice a.first a.next a.s.now)) a.room.now c.resync_into.new.room
    c.in_ok-n.ensures (c.parse.ensures v) (c.read_as.ensures v id place from len)
