-- Where the frame with a number lies, by the scan of the tag (document 01, "Room inside the tag"; request j). Assumes nothing.
use Rattle.std.specs.Prelude.{ℕ, ◌+◌, List, length, Result, Ok}
use Rattle.format.specs.Header.{size_of}
use Rattle.format.specs.Looks.{tag_look}
use Rattle.format.specs.declared.Version.{Version}
use Rattle.blocks.specs.Blocks.{joined}
use Rattle.raise.specs.declared.scanning.Aim.{Aim}
use Rattle.raise.specs.Frames.{looked_as}
use Rattle.raise.specs.Raise.{tag_version, tag_blocks}
use Rattle.raise.specs.Scans.{aimed_on}
use Rattle.edit.specs.declared.locating.Located.{Located}
use Rattle.format.specs.declared.refusals.Refusal.{Refusal}

-- by its parts
abbrev pub located_with : Version → Aim → ℕ → ℕ → Located
located_with v aim last end = record { version = v; aim = aim; last = last; end = end }

unfoldable pub located_on : Version → ℕ → ℕ → ℕ → List (List ℕ) → Result Located Refusal
located_on v number begin end bs = Ok (located_with v (aimed_on (Aim.Before number) begin bs) (begin + length (joined bs)) end)

unfoldable pub located_of : List ℕ → ℕ → Result Located Refusal
located_of tag number = looked_as (tag_look tag) (located_on (tag_version tag) number 10 (10 + size_of tag) (tag_blocks tag))
