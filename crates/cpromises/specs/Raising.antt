-- What is promised of the exported function that raises a counter (document 01, "Raising a counter"; request f). Assumes nothing.
use Rattle.std.specs.Prelude.{◌≡◌, ℕ, suc, ◌+◌, ◌^◌, ◌≤◌, ◌<◌, List, [], ◌∷◌, length, get_or}
use Rattle.format.specs.Header.{version_of}
use Rattle.format.specs.Popularimeter.{counter_bytes}
use Rattle.format.specs.Record.{Rec}
use Rattle.capi.specs.Words.{word}
use Rattle.capi.specs.Raises.{sv_raise}
use Rattle.raise.specs.Promises.{counted, records_from, Raising, PlainRuns}
use Rattle.cpromises.specs.Written.{SvWritten}

-- Where it answers 0, the word says the sum, and the tag reads as before with that one counter, as Raising says; the definitions and the exported functions
-- read any bytes alike (AnyTag).
abbrev pub SvRaiseReads : Type 0
SvRaiseReads = (tag user counter : List ℕ) (amount : ℕ) →
    let o = sv_raise tag user amount counter in
    o.0 ≡ 0 → Raising tag user amount (word 0 o.2) o.1

-- With a refusal tag and word are as before.
abbrev pub SvRefusedRaise : Type 0
SvRefusedRaise = (tag user counter : List ℕ) (amount k : ℕ) →
    let o = sv_raise tag user amount counter in
    o.0 ≡ suc k → (o.1 ≡ tag) × (o.2 ≡ counter)

-- In a tag that the exported functions wrote with mode 0, in each edition, the one popularimeter of a user is raised whenever the sum fits 64 bits and the
-- bytes that its counter was given.
abbrev pub SvWrittenRaises : Type 0
SvWrittenRaises = (version padding : ℕ) (records : List Rec) (tag user words : List ℕ) (i id rating counter amount : ℕ)
    → SvWritten version 0 padding records tag → PlainRuns (version_of version) records
    → records_from user 0 records ≡ i ∷ [] → get_or records i (counted id user rating counter) ≡ counted id user rating counter
    → counter + amount < 2 ^ 64 → counter + amount < 256 ^ length (counter_bytes counter) → 1 ≤ length words
    → let o = sv_raise tag user amount words in (o.0 ≡ 0) × (word 0 o.2 ≡ counter + amount)
