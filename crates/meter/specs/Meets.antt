-- What the meter makes of what it meets at its place. Assumes nothing.
use Rattle.std.specs.Prelude.{ℕ, Bool, false, ◌||◌, Result, Ok, Err, Option, Some, None, List, length, nat_lt}
use Rattle.format.specs.Bytes.{pick, put_front}
use Rattle.format.specs.Refusals.{refusal}
use Rattle.format.specs.declared.refusals.Refusal.{Refusal}
use Rattle.walk.specs.declared.passing.Met.{Met}
use Rattle.reader.specs.declared.Stop.{Stop}
use Rattle.meter.specs.declared.Meter.{Meter}
use Rattle.meter.specs.declared.Metered.{Metered}
use Rattle.meter.specs.Meter.{one_more, Nexted}

-- a frame whose body, resynchronised, is put at the front of the room and passed over, or 14
abbrev pub flagged_of : List ℕ → ℕ → List ℕ → Result (Option Met) Refusal × List ℕ
flagged_of u next room = pick (nat_lt (length room) (length u)) (Err (refusal 14), room) (Ok (Some (Met.Passed next false false)), put_front u room)

-- the same meter at a place, with its marks
abbrev pub moved_as : ℕ → ℕ → Bool → Bool → Stop → Meter → Meter
moved_as at frames short compressed stop m = record {
  reader = record { version = m.reader.version; in_work = m.reader.in_work; begin = m.reader.begin; at = at; end = m.reader.end; stop = stop };
  frames = frames;
  short = short;
  compressed = compressed;
  missing = m.missing;
}

abbrev pub stopped_by : Stop → Meter → Meter
stopped_by stop m = moved_as m.reader.at m.frames m.short m.compressed stop m

-- go is what the meter answers from a later place on
abbrev pub met_next : (Meter → List ℕ → Nexted) → Meter → Result (Option Met) Refusal → List ℕ → Nexted
met_next go m (Ok None) work = ((Ok None, stopped_by Stop.Ended m), work)
met_next go m (Err k) work = ((Err k, stopped_by (Stop.Failed k) m), work)
met_next go m (Ok (Some (Met.Passed next short packed))) work = go (moved_as next (one_more m.frames) (m.short || short) (m.compressed || packed) Stop.Running m) work
met_next go m (Ok (Some (Met.Popularimeter next inWork user rating counter))) work =
    let found : Metered = record { in_work = inWork; user = user; rating = rating; counter = counter; frame = m.frames } in
    ((Ok (Some found), moved_as next (one_more m.frames) m.short m.compressed Stop.Running m), work)
