-- What is promised of a tag whose writer has its altered mark on or off (document 01, "Writing"). Assumes nothing.
use Rattle.std.specs.Prelude.{◌≡◌, ℕ, ◌≤◌, Bool, false, List, length}
use Rattle.format.specs.Unsynch.{NoSync}
use Rattle.format.specs.Header.{version_of}
use Rattle.format.specs.Numbered.{mode_of}
use Rattle.format.specs.Record.{Rec}
use Rattle.format.specs.Encode.{tag_of}
use Rattle.format.specs.declared.Version.{Version}
use Rattle.writer.specs.Writer.{add_of, finish_of}
use Rattle.writer.specs.Answers.{added_writer, finished_count, finished_writer}
use Rattle.writer.specs.declared.Writer.{Writer}
use Rattle.promises.specs.Written.{WrittenAs, kept_of}
use Rattle.promises.specs.Reading.{ended, read_all}
use Rattle.promises.specs.Promises.{NoneShort, frames_of}

-- Reading the tag with a work buffer at least as long as it gives back the accepted records that are kept, in their order, none short, then the end.
abbrev pub KeptBack : Type 0
KeptBack = (version mode padding : ℕ) (altered : Bool) (records : List Rec) (tag work : List ℕ)
    → WrittenAs version mode altered padding records tag → length tag ≤ length work →
    let kept = kept_of (version_of version) altered records in
    (read_all tag work ≡ (kept, ended)) × NoneShort kept

-- With the mark off all are kept.
abbrev pub AllKept : Type 0
AllKept = (v : Version) (records : List Rec) → kept_of v false records ≡ records

-- Lists that share a tag under one version, mode and padding have the same kept records, whatever the marks.
abbrev pub OneKept : Type 0
OneKept = (version mode padding : ℕ) (altered altered' : Bool) (records records' : List Rec) (tag : List ℕ)
    → WrittenAs version mode altered padding records tag → WrittenAs version mode altered' padding records' tag
    → kept_of (version_of version) altered records ≡ kept_of (version_of version) altered' records'

-- In standard mode no FF in the whole tag is directly followed by E0 or above.
abbrev pub KeptStandard : Type 0
KeptStandard = (version padding : ℕ) (altered : Bool) (records : List Rec) (tag : List ℕ) → WrittenAs version 2 altered padding records tag → NoSync tag

-- The tag is the definition's, of the frames of the kept records, and the count that finishing reports is its length.
abbrev pub KeptTag : Type 0
KeptTag = (version mode padding : ℕ) (altered : Bool) (records : List Rec) (tag : List ℕ) (w : WrittenAs version mode altered padding records tag)
    → (tag ≡ tag_of (version_of version) (mode_of mode) padding (frames_of (version_of version) (mode_of mode) (kept_of (version_of version) altered records)))
    × (finished_count (finish_of w.last padding w.collected w.output).0 ≡ length tag)

-- ---- version, mode and mark stay as they were begun

pub record SameBegun (w w' : Writer) : Type 0 where
  pub version : w'.version ≡ w.version
  pub mode : w'.mode ≡ w.mode
  pub altered : w'.altered ≡ w.altered

-- Adding keeps them, and finishing keeps the whole writer, refused or not.
abbrev pub AddKeeps : Type 0
AddKeeps = (w : Writer) (r : Rec) (buffer : List ℕ) → SameBegun w (added_writer (add_of w r buffer).0)

abbrev pub FinishKeeps : Type 0
FinishKeeps = (w : Writer) (padding : ℕ) (buffer output : List ℕ) → finished_writer (finish_of w padding buffer output).0 ≡ w

-- So the writer that is finished has them as they were given to begin.
abbrev pub AsBegun : Type 0
AsBegun = (version mode padding : ℕ) (altered : Bool) (records : List Rec) (tag : List ℕ) (w : WrittenAs version mode altered padding records tag)
    → SameBegun (record { version = version_of version; mode = mode_of mode; altered = altered; used = 0 }) w.last
