-- What is promised of metering a tag by the exported functions: what is counted is what was read, and what was written; and the marks are true. Assumes nothing.
use Rattle.std.specs.Prelude.{◌≡◌, ℕ, zero, suc, ◌%◌, ◌^◌, ◌≤◌, Bool, List, [], ◌∷◌, length}
use Rattle.format.specs.Header.{edition_of, version_of}
use Rattle.format.specs.Record.{Rec}
use Rattle.meter.specs.Meter.{is_missing}
use Rattle.meter.specs.declared.Meter.{Meter}
use Rattle.promises.specs.Written.{kept_of}
use Rattle.promises.specs.Reading.{read_all}
use Rattle.promises.specs.Metering.{counters_of, meter_all}
use Rattle.promises.specs.Money.{any_short, any_packed, total, owed}
use Rattle.capi.specs.Words.{word, flag}
use Rattle.capi.specs.Meters.{meter_of, sv_meter_open}
use Rattle.cpromises.specs.Written.{SvWrittenAs, SvWritten}
use Rattle.cpromises.specs.Reading.{sv_reading}
use Rattle.cpromises.specs.Promises.{Lent}
use Rattle.cpromises.specs.AnyTag.{AllBytes, end_number}
use Rattle.cpromises.specs.Metering.{sv_metering}

-- ---- the words that a metering is lent, and those that it leaves

-- eleven words for the meter, six for the popularimeter
pub record MeterLent (meter metered : List ℕ) : Type 0 where
  pub meter_words_lem : 11 ≤ length meter
  pub metered_words_lem : 6 ≤ length metered

-- by the number of opening: there is a last meter, and the words left say it; or opening was refused, there is none, and they are as they came
abbrev pub SaysLast : ℕ → List ℕ → List ℕ → List Meter → Type 0
SaysLast zero meter left last = (m : Meter) × (last ≡ m ∷ []) × (meter_of left ≡ m ∷ [])
SaysLast (suc k) meter left last = (last ≡ []) × (left ≡ meter)

-- what the words of a meter say of a tag and of the records in it is true
pub record SvMarked (tag : List ℕ) (records : List Rec) (meter : List ℕ) : Type 0 where
  pub frames : word 7 meter ≡ length records % 2 ^ 64
  pub short : word 8 meter ≡ flag (any_short records)
  pub compressed : word 9 meter ≡ flag (any_packed (version_of (edition_of tag)) records)
  pub missing : word 10 meter ≡ flag (is_missing tag)

-- nothing short, nothing compressed, nothing missing, and every record passed
pub record SvClear (records : List Rec) (meter : List ℕ) : Type 0 where
  pub frames : word 7 meter ≡ length records
  pub short : word 8 meter ≡ 0
  pub compressed : word 9 meter ≡ 0
  pub missing : word 10 meter ≡ 0

-- ---- any bytes

-- The exported functions meter of anything what the definitions meter, end with the number of the same ending, and leave the last meter in the words.
abbrev pub SvMeters : Type 0
SvMeters = (tag work meter metered : List ℕ) → MeterLent meter metered →
    let o = sv_metering tag work meter metered in
    let d = meter_all tag work in
    (o.counted ≡ d.counted) × (o.number ≡ end_number d.ending) × SaysLast (sv_meter_open tag work meter).0 meter o.left d.last

-- Every metering of a whole tag comes to 256 or to a refusal's number.
abbrev pub SvMeterFinishes : Type 0
SvMeterFinishes = (tag work meter metered : List ℕ) → MeterLent meter metered → (sv_metering tag work meter metered).number ≡ 0 → ⊥

-- They answer the whole popularimeters of what sv_step shows of the same tag, in their order, and end with the same number; the marks are true where opening was not refused.
abbrev pub SvMeterReads : Type 0
SvMeterReads = (tag work meter metered reader words numbers count : List ℕ)
    → AllBytes tag → MeterLent meter metered → Lent (read_all tag work).0 reader words numbers count →
    let o = sv_metering tag work meter metered in
    let r = sv_reading tag work reader words numbers count in
    (o.counted ≡ counters_of r.0) × (o.number ≡ r.1) × ((sv_meter_open tag work meter).0 ≡ 0 → SvMarked tag r.0 o.left)

-- ---- a written tag

-- Metering a written tag with a work buffer at least as long as the tag gives the popularimeters that sv_add accepted, in their order, then 256, and nothing is marked.
abbrev pub SvMeterWritten : Type 0
SvMeterWritten = (version mode padding : ℕ) (records : List Rec) (tag work meter metered : List ℕ)
    → SvWritten version mode padding records tag → length tag ≤ length work → MeterLent meter metered →
    let o = sv_metering tag work meter metered in
    (o.counted ≡ counters_of records) × (o.number ≡ 256) × SvClear records o.left

-- With the altered mark on or off: those of the records that are kept.
abbrev pub SvMeterKept : Type 0
SvMeterKept = (version mode padding : ℕ) (altered : Bool) (records : List Rec) (tag work meter metered : List ℕ)
    → SvWrittenAs version mode altered padding records tag → length tag ≤ length work → MeterLent meter metered →
    let o = sv_metering tag work meter metered in
    let kept = kept_of (version_of version) altered records in
    (o.counted ≡ counters_of kept) × (o.number ≡ 256) × SvClear kept o.left

-- What is counted for a user is what the user owes by the records that were written.
abbrev pub SvOwedWritten : Type 0
SvOwedWritten = (version mode padding : ℕ) (records : List Rec) (user tag work meter metered : List ℕ)
    → SvWritten version mode padding records tag → length tag ≤ length work → MeterLent meter metered
    → total user (sv_metering tag work meter metered).counted ≡ owed user records

abbrev pub SvOwedKept : Type 0
SvOwedKept = (version mode padding : ℕ) (altered : Bool) (records : List Rec) (user tag work meter metered : List ℕ)
    → SvWrittenAs version mode altered padding records tag → length tag ≤ length work → MeterLent meter metered
    → total user (sv_metering tag work meter metered).counted ≡ owed user (kept_of (version_of version) altered records)
