-- What is promised of reading a written tag with any work buffer, long or short (document 01, "Header and walk"). Assumes nothing.
use Rattle.std.specs.Prelude.{◌≡◌, ◌⊎◌, ℕ, ◌≤◌, Bool, List, length, take}
use Rattle.format.specs.Header.{version_of}
use Rattle.format.specs.Record.{Rec}
use Rattle.promises.specs.Written.{Written, WrittenAs, kept_of}
use Rattle.promises.specs.Reading.{Reading, ended, refused, read_all}

-- the records and then the end, or the first so many of them and then refusal 14
abbrev pub AllOrFirst : List Rec → Reading → Type 0
AllOrFirst records o = (o ≡ (records, ended)) ⊎ ((n : ℕ) × (n ≤ length records) × (o ≡ (take n records, refused 14)))

-- With any work buffer, reading gives the records and the end, or the first so many and then 14.
abbrev pub AnyRoom : Type 0
AnyRoom = (version mode padding : ℕ) (records : List Rec) (tag work : List ℕ) → Written version mode padding records tag → AllOrFirst records (read_all tag work)

-- With mode off nothing is unsynchronised, and any work buffer suffices, an empty one too.
abbrev pub OffNeedsNone : Type 0
OffNeedsNone = (version padding : ℕ) (records : List Rec) (tag work : List ℕ) → Written version 0 padding records tag → read_all tag work ≡ (records, ended)

-- The same of the kept records, with the altered mark on or off.
abbrev pub KeptAnyRoom : Type 0
KeptAnyRoom = (version mode padding : ℕ) (altered : Bool) (records : List Rec) (tag work : List ℕ)
    → WrittenAs version mode altered padding records tag → AllOrFirst (kept_of (version_of version) altered records) (read_all tag work)

abbrev pub KeptNeedsNone : Type 0
KeptNeedsNone = (version padding : ℕ) (altered : Bool) (records : List Rec) (tag work : List ℕ)
    → WrittenAs version 0 altered padding records tag → read_all tag work ≡ (kept_of (version_of version) altered records, ended)
