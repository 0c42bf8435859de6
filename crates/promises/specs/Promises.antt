-- What is promised of writing and reading, on the definitions alone (the mission's demand 3; document 01, "How far each contract reaches"). Assumes nothing.
use Rattle.std.specs.Prelude.{◌≡◌, ℕ, suc, ◌-◌, ◌/◌, ◌≤◌, false, List, [], ◌∷◌, ◌++◌, length}
use Rattle.format.specs.Unsynch.{NoSync}
use Rattle.format.specs.Header.{version_of}
use Rattle.format.specs.Numbered.{mode_of}
use Rattle.format.specs.Record.{Rec}
use Rattle.format.specs.Encode.{encode, flags_byte, tag_of}
use Rattle.format.specs.declared.Version.{Version}
use Rattle.format.specs.declared.Mode.{Mode}
use Rattle.writer.specs.Writer.{finish_of}
use Rattle.writer.specs.Answers.{finished_count}
use Rattle.reader.specs.Reader.{header_of, Stepped, step_of}
use Rattle.reader.specs.Answers.{headed_number, headed_fields, step_number, step_record, step_reader}
use Rattle.reader.specs.declared.Reader.{Reader}
use Rattle.promises.specs.Written.{Written}
use Rattle.promises.specs.Reading.{ended, unfinished, read_for, read_all}

-- ---- demand 3

-- no record is marked short
pub data NoneShort : List Rec → Type 0 where
  none : NoneShort []
  also : {r : Rec} {rs : List Rec} → r.short ≡ false → NoneShort rs → NoneShort (r ∷ rs)

-- Reading a finished tag with a work buffer at least as long as the tag gives back the records that were accepted, in their order, none short, then the end.
abbrev pub RoundTrip : Type 0
RoundTrip = (version mode padding : ℕ) (records : List Rec) (tag work : List ℕ)
    → Written version mode padding records tag → length tag ≤ length work → (read_all tag work ≡ (records, ended)) × NoneShort records

-- No two lists share a tag under one version, mode and padding.
abbrev pub OneList : Type 0
OneList = (version mode padding : ℕ) (records records' : List Rec) (tag : List ℕ)
    → Written version mode padding records tag → Written version mode padding records' tag → records ≡ records'

-- In standard mode no FF in the whole tag is directly followed by E0 or above.
abbrev pub StandardMode : Type 0
StandardMode = (version padding : ℕ) (records : List Rec) (tag : List ℕ) → Written version 2 padding records tag → NoSync tag

-- ---- how much is written

abbrev pub frames_of : Version → Mode → List Rec → List ℕ
frames_of v m [] = []
frames_of v m (r ∷ rs) = encode v m r ++ frames_of v m rs

-- The tag is the definition's, of the frames of the accepted records, and the count that finishing reports is its length.
abbrev pub WrittenTag : Type 0
WrittenTag = (version mode padding : ℕ) (records : List Rec) (tag : List ℕ) (w : Written version mode padding records tag)
    → (tag ≡ tag_of (version_of version) (mode_of mode) padding (frames_of (version_of version) (mode_of mode) records))
    × (finished_count (finish_of w.last padding w.collected w.output).0 ≡ length tag)

-- Its header is taken: the version that was begun, flag 80 hex when a mode is on and no other, the size of all that follows, no extended header.
abbrev pub WrittenHeader : Type 0
WrittenHeader = (version mode padding : ℕ) (records : List Rec) (tag : List ℕ) → Written version mode padding records tag
    → (headed_number (header_of tag) ≡ 0)
    × (headed_fields (header_of tag) ≡ record { version = version_of version; flags = flags_byte (mode_of mode); size = length tag - 10; ext = 0 } ∷ [])

-- ---- any bytes

-- A slice of n bytes yields at most n/6 frames, in any number of steps.
abbrev pub FewFrames : Type 0
FewFrames = (steps : ℕ) (tag work : List ℕ) → length (read_for steps tag work).0 ≤ length tag / 6

-- Every reading of a whole tag ends or is refused.
abbrev pub Finishes : Type 0
Finishes = (tag work : List ℕ) → (read_all tag work).1 ≡ unfinished → ⊥

-- what a step answers that finds nothing: its number, no record, the reader and the work buffer as they came
abbrev pub Stays : ℕ → Reader → List ℕ → Stepped → Type 0
Stays k r work o = (step_number o.0 ≡ k) × (step_record o.0 ≡ []) × (step_reader o.0 ≡ r) × (o.1 ≡ work)

-- A refused reader stays refused with its number, an ended one ended, whatever buffers come with it.
abbrev pub StaysRefused : Type 0
StaysRefused = (r : Reader) (tag work tag' work' : List ℕ) (k : ℕ) →
    let s = (step_of r tag work).0 in
    step_number s ≡ suc k → Stays (suc k) (step_reader s) work' (step_of (step_reader s) tag' work')

abbrev pub StaysEnded : Type 0
StaysEnded = (r : Reader) (tag work tag' work' : List ℕ) →
    let s = (step_of r tag work).0 in
    step_number s ≡ 0 → step_record s ≡ [] → Stays 0 (step_reader s) work' (step_of (step_reader s) tag' work')
