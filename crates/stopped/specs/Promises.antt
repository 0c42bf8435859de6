-- What is promised of a tag that was written with the altered mark off and then cut after any byte from the tenth on (document 02, m). Assumes nothing.
use Rattle.std.specs.Prelude.{◌≡◌, ℕ, suc, ◌-◌, ◌≤◌, ◌<◌, false, ◌↔◌, List, [], ◌∷◌, ◌++◌, length, take, ltb}
use Rattle.format.specs.Header.{version_of}
use Rattle.format.specs.Numbered.{mode_of}
use Rattle.format.specs.Record.{Rec}
use Rattle.format.specs.Encode.{whole_of}
use Rattle.format.specs.declared.Version.{Version}
use Rattle.format.specs.declared.Mode.{Mode}
use Rattle.meter.specs.declared.Meter.{Meter}
use Rattle.promises.specs.Written.{Written}
use Rattle.promises.specs.Reading.{Reading, ended, read_all}
use Rattle.promises.specs.Promises.{frames_of}
use Rattle.promises.specs.Metering.{counters_of, meter_all}
use Rattle.promises.specs.Money.{Marked, total, owed}
use Rattle.blocks.specs.Blocks.{and_records, AtMostShort}
use Rattle.stopped.specs.Stopped.{reach_of, whole_in, not_short}

-- ---- the number of frames that are there whole

-- The tag up to there is its header and the frames of these records, as they are stored.
abbrev pub Reaches : Type 0
Reaches = (version mode padding i : ℕ) (records : List Rec) (tag : List ℕ) → Written version mode padding records tag →
    let v = version_of version in
    let m = mode_of mode in
    take (reach_of v m (take i records)) tag ≡ take 10 tag ++ whole_of v m (frames_of v m (take i records))

-- A frame is counted exactly if its last stored byte is there.
abbrev pub WholeIn : Type 0
WholeIn = (v : Version) (m : Mode) (n : ℕ) (records : List Rec)
    → (whole_in v m n records ≤ length records)
    × ((i : ℕ) → i < length records → (i < whole_in v m n records) ↔ (reach_of v m (take (suc i) records) ≤ n))

-- ---- reading

-- a written tag, cut after n bytes, and a work buffer at least as long as what is left of it less ten bytes
pub record Stopped (version mode padding n : ℕ) (records : List Rec) (tag work : List ℕ) : Type 0 where
  pub is_written : Written version mode padding records tag
  pub ten : 10 ≤ n
  pub room : length (take n tag) - 10 ≤ length work

-- the first k records, each equal to the original, and then at most one short frame and the end; or the end; or a refusal in that frame's place
pub record FirstThen (k : ℕ) (records : List Rec) (o : Reading) : Type 0 where
  pub after : Reading
  pub is : o ≡ and_records (take k records) after
  pub most : AtMostShort after

-- Reading gives the records whose frames are there whole, and then at most one short frame or a refusal.
abbrev pub StoppedReads : Type 0
StoppedReads = (version mode padding n : ℕ) (records : List Rec) (tag work : List ℕ) → Stopped version mode padding n records tag work
    → FirstThen (whole_in (version_of version) (mode_of mode) n records) records (read_all (take n tag) work)

-- What is read and not marked short is just these records.
abbrev pub StoppedWhole : Type 0
StoppedWhole = (version mode padding n : ℕ) (records : List Rec) (tag work : List ℕ) → Stopped version mode padding n records tag work
    → not_short (read_all (take n tag) work).0 ≡ take (whole_in (version_of version) (mode_of mode) n records) records

-- A cut behind the last frame, in the padding or at the tag's end, loses nothing.
abbrev pub StoppedBehind : Type 0
StoppedBehind = (version mode padding n : ℕ) (records : List Rec) (tag work : List ℕ) → Stopped version mode padding n records tag work
    → reach_of (version_of version) (mode_of mode) records ≤ n → read_all (take n tag) work ≡ (records, ended)

-- ---- metering

-- The meter answers just the popularimeters among these records, ends as reading does, and its marks are true.
-- Bytes are missing, it says, exactly where the cut is before the tag's end.
abbrev pub StoppedMeters : Type 0
StoppedMeters = (version mode padding n : ℕ) (records : List Rec) (tag work : List ℕ) → Stopped version mode padding n records tag work →
    let cut = take n tag in
    ((meter_all cut work).counted ≡ counters_of (take (whole_in (version_of version) (mode_of mode) n records) records))
    × ((meter_all cut work).ending ≡ (read_all cut work).1)
    × ((m : Meter) × ((meter_all cut work).last ≡ m ∷ []) × Marked cut (read_all cut work).0 m × (m.missing ≡ ltb n (length tag)))

-- Where the mark of missing bytes is off, nothing that was written is missing: all its popularimeters are counted, and the end is reached.
abbrev pub StoppedTold : Type 0
StoppedTold = (version mode padding n : ℕ) (records : List Rec) (tag work : List ℕ) (m : Meter) → Stopped version mode padding n records tag work
    → (meter_all (take n tag) work).last ≡ m ∷ [] → m.missing ≡ false
    → ((meter_all (take n tag) work).counted ≡ counters_of records) × ((meter_all (take n tag) work).ending ≡ ended)

-- What is counted for a user is what the user owes by these records.
abbrev pub StoppedOwed : Type 0
StoppedOwed = (version mode padding n : ℕ) (records : List Rec) (user tag work : List ℕ) → Stopped version mode padding n records tag work
    → total user (meter_all (take n tag) work).counted ≡ owed user (take (whole_in (version_of version) (mode_of mode) n records) records)
