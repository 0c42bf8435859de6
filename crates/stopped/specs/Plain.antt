-- What is promised of a tag that was changed in place and then cut: one of the plain sort, as a raise, a lift and most edits leave it (document 02, f, j and m). Assumes nothing.
use Rattle.std.specs.Prelude.{◌≡◌, ℕ, suc, ◌+◌, ◌≤◌, ◌<◌, ◌↔◌, List, [], ◌∷◌, length, take, ltb, Ok, true}
use Rattle.format.specs.Header.{size_of}
use Rattle.format.specs.Looks.{tag_look}
use Rattle.meter.specs.declared.Meter.{Meter}
use Rattle.promises.specs.Reading.{read_all}
use Rattle.promises.specs.Metering.{counters_of, meter_all}
use Rattle.promises.specs.Money.{Marked}
use Rattle.blocks.specs.Blocks.{joined}
use Rattle.raise.specs.Raise.{tag_blocks}
use Rattle.stopped.specs.Stopped.{most_in}
use Rattle.stopped.specs.Promises.{FirstThen}

-- ---- the number of frames that are there whole

-- how many bytes of the tag there are up to the last byte of its first i frames
abbrev pub plain_reach : List ℕ → ℕ → ℕ
plain_reach tag i = 10 + length (joined (take i (tag_blocks tag)))

-- how many of its frames are whole in its first n bytes
abbrev pub plain_whole : ℕ → List ℕ → ℕ
plain_whole n tag = most_in (plain_reach tag) n (length (tag_blocks tag))

-- A frame is counted exactly if its last byte is there.
abbrev pub PlainWhole : Type 0
PlainWhole = (n : ℕ) (tag : List ℕ)
    → (plain_whole n tag ≤ length (tag_blocks tag))
    × ((i : ℕ) → i < length (tag_blocks tag) → (i < plain_whole n tag) ↔ (plain_reach tag (suc i) ≤ n))

-- ---- reading and metering, with any work buffer

-- Reading gives the records of the frames that are there whole, as the whole tag reads, and then at most one short frame or a refusal.
abbrev pub PlainStopped : Type 0
PlainStopped = (n : ℕ) (tag work : List ℕ) → tag_look tag ≡ Ok true → 10 ≤ n
    → FirstThen (plain_whole n tag) (read_all tag work).0 (read_all (take n tag) work)

-- The meter answers just the popularimeters among these records, ends as reading does, and says that bytes are missing exactly where the cut is before the tag's end.
abbrev pub PlainStoppedMeters : Type 0
PlainStoppedMeters = (n : ℕ) (tag work : List ℕ) → tag_look tag ≡ Ok true → 10 ≤ n →
    let cut = take n tag in
    ((meter_all cut work).counted ≡ counters_of (take (plain_whole n tag) (read_all tag work).0))
    × ((meter_all cut work).ending ≡ (read_all cut work).1)
    × ((m : Meter) × ((meter_all cut work).last ≡ m ∷ []) × Marked cut (read_all cut work).0 m × (m.missing ≡ ltb n (10 + size_of tag)))
