-- Frames that lie in the tag, with the work buffer as the room, or in the work buffer, which is no room then. Assumes nothing.
use Rattle.std.specs.Prelude.{ℕ, Bool, List, []}
use Rattle.std.proofs.Math.Seq.{slice}
use Rattle.format.specs.Bytes.{pick}
use Rattle.format.specs.Walk.{frame_of}
use Rattle.format.specs.declared.Version.{Version}
use Rattle.format.specs.Walk.{Shown}

-- the bytes that they lie in
abbrev pub source_of : Bool → List ℕ → List ℕ → List ℕ
source_of inWork work tag = pick inWork work tag

abbrev pub room_of : Bool → List ℕ → List ℕ
room_of inWork work = pick inWork [] work

-- what was answered and done in that room, with the work buffer as it is then
abbrev pub kept : {A : Type 0} → Bool → List ℕ → A × List ℕ → A × List ℕ
kept inWork work o = (o.0, pick inWork work o.1)

-- What stands at `at` of the frames, which begin at `begin` and end at `end`.
unfoldable pub frame_in : Version → Bool → ℕ → ℕ → ℕ → List ℕ → List ℕ → Shown × List ℕ
frame_in v inWork begin at end tag work =
    kept inWork work (frame_of v inWork begin at (slice at end (source_of inWork work tag)) (room_of inWork work))
