-- What is promised of a tag that the exported functions wrote and that was then cut after any byte from the tenth on (document 02, m). Assumes nothing.
use Rattle.std.specs.Prelude.{◌≡◌, ℕ, ◌+◌, ◌-◌, ◌≤◌, List, ◌++◌, length, take, ltb, true, Ok}
use Rattle.format.specs.Header.{size_of, version_of}
use Rattle.format.specs.Numbered.{mode_of}
use Rattle.format.specs.Record.{Rec}
use Rattle.format.specs.Looks.{tag_look}
use Rattle.promises.specs.Reading.{Reading, read_all}
use Rattle.promises.specs.Metering.{counters_of}
use Rattle.promises.specs.Money.{total, owed}
use Rattle.blocks.specs.Blocks.{AtMostShort}
use Rattle.stopped.specs.Stopped.{whole_in}
use Rattle.stopped.specs.Plain.{plain_whole}
use Rattle.capi.specs.Words.{word, flag}
use Rattle.cpromises.specs.Written.{SvWritten}
use Rattle.cpromises.specs.Reading.{sv_reading}
use Rattle.cpromises.specs.Promises.{Lent}
use Rattle.cpromises.specs.AnyTag.{AllBytes, end_number}
use Rattle.cpromises.specs.Metering.{sv_metering}
use Rattle.cpromises.specs.Money.{MeterLent}

-- a tag that was written, cut after n bytes, and a work buffer at least as long as what is left of it less ten bytes
pub record SvStopped (version mode padding n : ℕ) (records : List Rec) (tag work : List ℕ) : Type 0 where
  pub is_written : SvWritten version mode padding records tag
  pub ten : 10 ≤ n
  pub room : length (take n tag) - 10 ≤ length work

-- Reading gives the records whose last stored byte is there, and then at most one short frame and 256, or 256, or a refusal's number.
abbrev pub SvStoppedReads : Type 0
SvStoppedReads = (version mode padding n : ℕ) (records : List Rec) (tag work reader words numbers count : List ℕ)
    → SvStopped version mode padding n records tag work → AllBytes (take n tag) → Lent (read_all (take n tag) work).0 reader words numbers count
    → (after : Reading) × AtMostShort after
    × (sv_reading (take n tag) work reader words numbers count
    ≡ (take (whole_in (version_of version) (mode_of mode) n records) records ++ after.0, end_number after.1))

-- The room is enough: no call answers 14.
abbrev pub SvStoppedRoom : Type 0
SvStoppedRoom = (version mode padding n : ℕ) (records : List Rec) (tag work reader words numbers count : List ℕ)
    → SvStopped version mode padding n records tag work → AllBytes (take n tag) → Lent (read_all (take n tag) work).0 reader words numbers count
    → (sv_reading (take n tag) work reader words numbers count).1 ≡ 14 → ⊥

-- Metering gives just the popularimeters among these records, and the word of missing bytes is 1 exactly where the cut is before the tag's end.
abbrev pub SvStoppedMeters : Type 0
SvStoppedMeters = (version mode padding n : ℕ) (records : List Rec) (tag work meter metered : List ℕ)
    → SvStopped version mode padding n records tag work → MeterLent meter metered →
    let o = sv_metering (take n tag) work meter metered in
    (o.counted ≡ counters_of (take (whole_in (version_of version) (mode_of mode) n records) records))
    × (o.number ≡ end_number (read_all (take n tag) work).1)
    × (word 10 o.left ≡ flag (ltb n (length tag)))

-- Where that word is 0 nothing that was written is missing: all its popularimeters, and then 256.
abbrev pub SvStoppedTold : Type 0
SvStoppedTold = (version mode padding n : ℕ) (records : List Rec) (tag work meter metered : List ℕ)
    → SvStopped version mode padding n records tag work → MeterLent meter metered →
    let o = sv_metering (take n tag) work meter metered in
    word 10 o.left ≡ 0 → (o.counted ≡ counters_of records) × (o.number ≡ 256)

-- What is counted for a user is what the user owes by these records.
abbrev pub SvStoppedOwed : Type 0
SvStoppedOwed = (version mode padding n : ℕ) (records : List Rec) (user tag work meter metered : List ℕ)
    → SvStopped version mode padding n records tag work → MeterLent meter metered
    → total user (sv_metering (take n tag) work meter metered).counted ≡ owed user (take (whole_in (version_of version) (mode_of mode) n records) records)

-- ---- a tag that was changed in place

-- Of a tag of the plain sort, as sv_raise and sv_lift leave it, cut after any byte from the tenth on, metering gives just the popularimeters of the frames that are there
-- whole, as the whole tag reads, with any work buffer; and the word of missing bytes is 1 exactly where the cut is before the tag's end.
abbrev pub SvPlainStopped : Type 0
SvPlainStopped = (n : ℕ) (tag work meter metered : List ℕ) → tag_look tag ≡ Ok true → 10 ≤ n → MeterLent meter metered →
    let o = sv_metering (take n tag) work meter metered in
    (o.counted ≡ counters_of (take (plain_whole n tag) (read_all tag work).0))
    × (o.number ≡ end_number (read_all (take n tag) work).1)
    × (word 10 o.left ≡ flag (ltb n (10 + size_of tag)))
