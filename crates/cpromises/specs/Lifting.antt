-- What is promised of the exported function that lifts a counter (document 01, "Room inside the tag"; request j). Assumes nothing.
use Rattle.std.specs.Prelude.{◌≡◌, ℕ, suc, ◌+◌, ◌^◌, ◌≤◌, ◌<◌, false, List, [], ◌∷◌, length, get_or}
use Rattle.format.specs.Header.{version_of}
use Rattle.format.specs.Popularimeter.{counter_bytes}
use Rattle.format.specs.Record.{Rec}
use Rattle.format.specs.Encode.{refusal_of}
use Rattle.format.specs.declared.Mode.{Mode}
use Rattle.raise.specs.Promises.{counted, records_from, PlainRuns}
use Rattle.edit.specs.LiftPromises.{Lifting}
use Rattle.capi.specs.Words.{word}
use Rattle.capi.specs.Edits.{sv_lift}
use Rattle.cpromises.specs.Written.{SvWritten}

-- Where it answers 0, the word says the sum, and the tag reads as before with that one counter, as Lifting says.
abbrev pub SvLiftReads : Type 0
SvLiftReads = (tag user counter : List ℕ) (amount : ℕ) →
    let o = sv_lift tag user amount counter in
    o.0 ≡ 0 → Lifting tag user amount (word 0 o.2) o.1

-- With a refusal tag and word are as before.
abbrev pub SvRefusedLift : Type 0
SvRefusedLift = (tag user counter : List ℕ) (amount k : ℕ) →
    let o = sv_lift tag user amount counter in
    o.0 ≡ suc k → (o.1 ≡ tag) × (o.2 ≡ counter)

-- In a tag that the exported functions wrote with mode 0, in each edition, the one popularimeter of a user is lifted whenever the sum fits 64 bits, the padding has room for
-- the counter bytes that are more, and adding takes it.
abbrev pub SvWrittenLifts : Type 0
SvWrittenLifts = (version padding : ℕ) (records : List Rec) (tag user words : List ℕ) (i id rating counter amount : ℕ)
    → SvWritten version 0 padding records tag → PlainRuns (version_of version) records
    → records_from user 0 records ≡ i ∷ [] → get_or records i (counted id user rating counter) ≡ counted id user rating counter
    → counter + amount < 2 ^ 64 → length (counter_bytes (counter + amount)) ≤ length (counter_bytes counter) + padding
    → refusal_of (version_of version) Mode.Off false (counted id user rating (counter + amount)) ≡ 0 → 1 ≤ length words
    → let o = sv_lift tag user amount words in (o.0 ≡ 0) × (word 0 o.2 ≡ counter + amount)
