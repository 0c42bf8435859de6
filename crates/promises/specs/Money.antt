-- What is promised of the meter, on the definitions alone: what is counted is what was read, and what was written; and the marks are true. Assumes nothing.
use Rattle.std.specs.Prelude.{◌≡◌, ℕ, suc, ◌+◌, ◌%◌, ◌^◌, ◌≤◌, Bool, true, false, ◌&&◌, ◌||◌, ◌↔◌, List, [], ◌∷◌, length, eqb}
use Rattle.format.specs.Bytes.{pick}
use Rattle.format.specs.Header.{edition_of, version_of}
use Rattle.format.specs.Record.{Content, text, popularimeter, table, chapter, contents, raw, Rec}
use Rattle.format.specs.declared.Version.{Version}
use Rattle.walk.specs.Passing.{is_meter_id}
use Rattle.meter.specs.Meter.{is_missing, meter_open_of, Nexted, next_of}
use Rattle.meter.specs.Answers.{opened_meter, next_number, next_metered, next_meter}
use Rattle.meter.specs.declared.Meter.{Meter}
use Rattle.promises.specs.Written.{WrittenAs, Written, kept_of}
use Rattle.promises.specs.Reading.{ended, unfinished, read_all}
use Rattle.promises.specs.Metering.{Counted, counters_of, meter_all}

-- ---- the marks

-- whether a record is short
abbrev pub any_short : List Rec → Bool
any_short [] = false
any_short (r ∷ rs) = r.short || any_short rs

-- whether a record is compressed under a popularimeter's id
abbrev pub any_packed : Version → List Rec → Bool
any_packed v [] = false
any_packed v (r ∷ rs) = (r.compressed && is_meter_id v r.id) || any_packed v rs

-- what a meter says of a tag and of the records in it is true
pub record Marked (tag : List ℕ) (records : List Rec) (m : Meter) : Type 0 where
  pub short : m.short ≡ any_short records
  pub compressed : m.compressed ≡ any_packed (version_of (edition_of tag)) records
  pub missing : m.missing ≡ is_missing tag
  pub frames : m.frames ≡ length records % 2 ^ 64

-- no meter where opening gave none, else one that says what is true
pub data Last (tag : List ℕ) (records : List Rec) : List Meter → List Meter → Type 0 where
  none : Last tag records [] []
  one : {first m : Meter} → Marked tag records m → Last tag records (first ∷ []) (m ∷ [])

-- ---- any bytes

-- The meter answers the whole popularimeters of what the reader reads, in their order, and ends as the reader does; its marks are true.
abbrev pub MeterReads : Type 0
MeterReads = (tag work : List ℕ)
    → ((meter_all tag work).counted ≡ counters_of (read_all tag work).0)
    × ((meter_all tag work).ending ≡ (read_all tag work).1)
    × Last tag (read_all tag work).0 (opened_meter (meter_open_of tag work).0) (meter_all tag work).last

-- Every metering of a whole tag ends or is refused.
abbrev pub MeterFinishes : Type 0
MeterFinishes = (tag work : List ℕ) → (meter_all tag work).ending ≡ unfinished → ⊥

-- what a call answers that finds nothing: its number, no popularimeter, the meter and the work buffer as they came
abbrev pub MeterStays : ℕ → Meter → List ℕ → Nexted → Type 0
MeterStays k m work o = (next_number o.0 ≡ k) × (next_metered o.0 ≡ []) × (next_meter o.0 ≡ m) × (o.1 ≡ work)

-- A refused meter stays refused with its number, an ended one ended, whatever buffers come with it.
abbrev pub MeterStaysRefused : Type 0
MeterStaysRefused = (m : Meter) (tag work tag' work' : List ℕ) (k : ℕ) →
    let x = (next_of m tag work).0 in
    next_number x ≡ suc k → MeterStays (suc k) (next_meter x) work' (next_of (next_meter x) tag' work')

abbrev pub MeterStaysEnded : Type 0
MeterStaysEnded = (m : Meter) (tag work tag' work' : List ℕ) →
    let x = (next_of m tag work).0 in
    next_number x ≡ 0 → next_metered x ≡ [] → MeterStays 0 (next_meter x) work' (next_of (next_meter x) tag' work')

-- ---- a written tag

-- nothing short, nothing compressed, nothing missing, and every record passed
pub record Clear (records : List Rec) (m : Meter) : Type 0 where
  pub short : m.short ≡ false
  pub compressed : m.compressed ≡ false
  pub missing : m.missing ≡ false
  pub frames : m.frames ≡ length records

-- Metering a finished tag with a work buffer at least as long as the tag gives the popularimeters that were accepted, in their order, then the end, and nothing is marked.
abbrev pub MeterWritten : Type 0
MeterWritten = (version mode padding : ℕ) (records : List Rec) (tag work : List ℕ)
    → Written version mode padding records tag → length tag ≤ length work
    → (m : Meter) × (meter_all tag work ≡ record { counted = counters_of records; ending = ended; last = m ∷ [] }) × Clear records m

-- With the altered mark on or off: those of the records that are kept.
abbrev pub MeterKept : Type 0
MeterKept = (version mode padding : ℕ) (altered : Bool) (records : List Rec) (tag work : List ℕ)
    → WrittenAs version mode altered padding records tag → length tag ≤ length work →
    let kept = kept_of (version_of version) altered records in
    (m : Meter) × (meter_all tag work ≡ record { counted = counters_of kept; ending = ended; last = m ∷ [] }) × Clear kept m

-- ---- one user's counters

-- whether two lists are the same bytes
abbrev pub same_bytes : List ℕ → List ℕ → Bool
same_bytes [] [] = true
same_bytes [] (y ∷ t) = false
same_bytes (x ∷ s) [] = false
same_bytes (x ∷ s) (y ∷ t) = eqb x y && same_bytes s t

-- a counter of this user, or nothing
abbrev pub if_of : List ℕ → List ℕ → ℕ → ℕ
if_of user owner counter = pick (same_bytes owner user) counter 0

-- the sum of a user's counters, without a limit
abbrev pub total : List ℕ → List Counted → ℕ
total user [] = 0
total user (c ∷ cs) = if_of user c.user c.counter + total user cs

-- what a user owes by one record, and by a list
abbrev pub owed_as : List ℕ → Content → ℕ
owed_as user (text e s) = 0
owed_as user (popularimeter owner rating counter) = if_of user owner counter
owed_as user (table f b k v w ds) = 0
owed_as user (chapter e a b c d run) = 0
owed_as user (contents e t o children run) = 0
owed_as user (raw body) = 0

abbrev pub owed : List ℕ → List Rec → ℕ
owed user [] = 0
owed user (r ∷ rs) = pick r.short 0 (owed_as user r.content) + owed user rs

-- The test finds just the same bytes.
abbrev pub SameBytes : Type 0
SameBytes = (s t : List ℕ) → (same_bytes s t ≡ true) ↔ (s ≡ t)

-- What is counted for a user is what the user owes by the records that are read, and by those that were written.
abbrev pub OwedRead : Type 0
OwedRead = (user tag work : List ℕ) → total user (meter_all tag work).counted ≡ owed user (read_all tag work).0

abbrev pub OwedWritten : Type 0
OwedWritten = (version mode padding : ℕ) (records : List Rec) (user tag work : List ℕ)
    → Written version mode padding records tag → length tag ≤ length work → total user (meter_all tag work).counted ≡ owed user records

abbrev pub OwedKept : Type 0
OwedKept = (version mode padding : ℕ) (altered : Bool) (records : List Rec) (user tag work : List ℕ)
    → WrittenAs version mode altered padding records tag → length tag ≤ length work
    → total user (meter_all tag work).counted ≡ owed user (kept_of (version_of version) altered records)
