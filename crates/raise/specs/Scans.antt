-- One pass over the frames of a tag that is to be changed in place: what it finds of a user and of a frame's number goes along with the look (document 01, "Raising a counter", "Room inside the tag"; requests f and j). Assumes nothing.
use Rattle.std.specs.Prelude.{ℕ, zero, suc, ◌+◌, Bool, not, List, [], ◌∷◌, length, Result, Ok}
use Rattle.format.specs.Header.{size_of}
use Rattle.format.specs.Looks.{both, plain_if, look_at, tag_look}
use Rattle.format.specs.declared.Version.{Version}
use Rattle.blocks.specs.Blocks.{joined, blocks_in}
use Rattle.raise.specs.declared.users.Found.{Found}
use Rattle.raise.specs.declared.scanning.Aim.{Aim}
use Rattle.raise.specs.Frames.{looked_as}
use Rattle.raise.specs.Raise.{tag_version, tag_blocks}
use Rattle.raise.specs.Seeks.{found_on}
use Rattle.format.specs.declared.refusals.Refusal.{Refusal}
use Rattle.raise.specs.declared.scanning.Scanned.{Scanned}

-- ---- the frame with a number

-- one more frame, which lies from `at` up to `next`
abbrev pub aimed_at : Aim → ℕ → ℕ → Aim
aimed_at (Aim.Before zero) at next = Aim.Frame at next
aimed_at (Aim.Before (suc n)) at next = Aim.Before n
aimed_at (Aim.Frame from to) at next = Aim.Frame from to

-- blocks one after the other, the first at a place
unfoldable pub aimed_on : Aim → ℕ → List (List ℕ) → Aim
aimed_on aim at [] = aim
aimed_on aim at (b ∷ bs) = aimed_on (aimed_at aim at (at + length b)) (at + length b) bs

-- ---- what is found of both

-- by its parts
abbrev pub scanned_with : Version → Found → Aim → ℕ → ℕ → Scanned
scanned_with v found aim last end = record { version = v; found = found; aim = aim; last = last; end = end }

unfoldable pub scanned_on : Version → List ℕ → ℕ → ℕ → ℕ → List (List ℕ) → Result Scanned Refusal
scanned_on v user number begin end bs =
    Ok (scanned_with v (found_on v user Found.None begin bs) (aimed_on (Aim.Before number) begin bs) (begin + length (joined bs)) end)

-- the frames s, which begin at a place, after something odd or nothing odd
unfoldable pub scanned_in : Version → List ℕ → ℕ → ℕ → ℕ → List ℕ → Bool → Result Scanned Refusal
scanned_in v user number begin end s odd =
    looked_as (both (plain_if (not odd)) (look_at v 1 s)) (scanned_on v user number begin end (blocks_in v s))

unfoldable pub scanned_of : List ℕ → List ℕ → ℕ → Result Scanned Refusal
scanned_of tag user number = looked_as (tag_look tag) (scanned_on (tag_version tag) user number 10 (10 + size_of tag) (tag_blocks tag))
