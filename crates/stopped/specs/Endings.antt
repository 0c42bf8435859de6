-- How reading ends where a written tag was cut: which short frame and which refusals there can be (document 02, m). Assumes nothing.
use Rattle.std.specs.Prelude.{◌≡◌, ◌⊎◌, ℕ, true, false, List, [], ◌∷◌, ◌++◌, length, take}
use Rattle.format.specs.Header.{version_of}
use Rattle.format.specs.Numbered.{mode_of}
use Rattle.format.specs.Record.{Rec}
use Rattle.promises.specs.Reading.{Reading, ended, refused, read_all}
use Rattle.blocks.specs.Blocks.{and_records}
use Rattle.stopped.specs.Stopped.{whole_in}
use Rattle.stopped.specs.Promises.{Stopped}

-- What may follow where this record's frame comes next: the end, a refusal, or that frame short, of the same id and not compressed.
pub data OfNext (one : Rec) : Reading → Type 0 where
  ends : OfNext one ([], ended)
  stops : (k : ℕ) → OfNext one ([], refused k)
  short : (r : Rec) → r.short ≡ true → r.id ≡ one.id → r.compressed ≡ false → OfNext one (r ∷ [], ended)

-- all records, and then the end; or the first k, and then what is of the next one
pub data NextThen (k : ℕ) (records : List Rec) : Reading → Type 0 where
  all : k ≡ length records → NextThen k records (records, ended)
  next : (one : Rec) (more : List Rec) (after : Reading) → records ≡ take k records ++ (one ∷ more) → OfNext one after
      → NextThen k records (and_records (take k records) after)

-- A short frame is the next one of those that were written, and where none is cut there is none.
abbrev pub StoppedNext : Type 0
StoppedNext = (version mode padding n : ℕ) (records : List Rec) (tag work : List ℕ) → Stopped version mode padding n records tag work
    → NextThen (whole_in (version_of version) (mode_of mode) n records) records (read_all (take n tag) work)

-- The room is enough: nothing is refused for want of it.
abbrev pub StoppedRoom : Type 0
StoppedRoom = (version mode padding n : ℕ) (records : List Rec) (tag work : List ℕ) → Stopped version mode padding n records tag work
    → (read_all (take n tag) work).1 ≡ refused 14 → ⊥

-- In 2.3 a frame that is cut is never shown: the records whose frames are there whole, and then the end or refusal 5.
abbrev pub Stopped23 : Type 0
Stopped23 = (mode padding n : ℕ) (records : List Rec) (tag work : List ℕ) → Stopped 3 mode padding n records tag work →
    let k = whole_in (version_of 3) (mode_of mode) n records in
    (read_all (take n tag) work ≡ (take k records, ended)) ⊎ (read_all (take n tag) work ≡ (take k records, refused 5))
