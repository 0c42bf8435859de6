-- What is promised of the edits of a plain tag, on the definitions alone (document 01, "Room inside the tag"; request j). Assumes nothing.
use Rattle.std.specs.Prelude.{◌≡◌, ◌↔◌, ◌⊎◌, ℕ, suc, ◌+◌, ◌-◌, ◌≤◌, ◌<◌, Bool, false, List, [], ◌∷◌, ◌++◌, length, take, drop, get_or, set, Ok, Err, Some, None, true}
use Rattle.format.specs.Bytes.{zeros}
use Rattle.format.specs.Header.{size_of, version_of}
use Rattle.format.specs.Frame.{head_of, head}
use Rattle.format.specs.Record.{Rec, Fits, run_of}
use Rattle.format.specs.Walk.{shown_kind}
use Rattle.format.specs.Encode.{refusal_of, encode}
use Rattle.format.specs.Looks.{tag_look}
use Rattle.format.specs.declared.Version.{Version}
use Rattle.format.specs.declared.Mode.{Mode}
use Rattle.promises.specs.Reading.{ended, refused, read_all}
use Rattle.promises.specs.Promises.{NoneShort}
use Rattle.promises.specs.Written.{Written}
use Rattle.blocks.specs.Blocks.{joined, Reads, splice, region_in}
use Rattle.raise.specs.Raise.{tag_version, tag_blocks}
use Rattle.raise.specs.Promises.{run_within, PlainRuns}
use Rattle.edit.specs.Edit.{Edit, frame_for, replaced_of, removed_of, appended_of}
use Rattle.format.specs.Refusals.{refusal}

-- ---- the three edits as one

pub data Change : Type 0 where
  replacing : (i : ℕ) (r : Rec) → Change
  removing : (i : ℕ) → Change
  appending : (r : Rec) → Change

abbrev pub edited_of : List ℕ → Change → Edit
edited_of tag (replacing i r) = replaced_of tag i r
edited_of tag (removing i) = removed_of tag i
edited_of tag (appending r) = appended_of tag r

-- the records that are given, and their frames as adding writes them
abbrev pub given_in : Change → List Rec
given_in (replacing i r) = r ∷ []
given_in (removing i) = []
given_in (appending r) = r ∷ []

abbrev pub frames_for : List ℕ → Change → List (List ℕ)
frames_for tag (replacing i r) = frame_for tag r ∷ []
frames_for tag (removing i) = []
frames_for tag (appending r) = frame_for tag r ∷ []

-- they come in the place of those from the one number up to the other, of n in all
abbrev pub from_of : ℕ → Change → ℕ
from_of n (replacing i r) = i
from_of n (removing i) = i
from_of n (appending r) = n

abbrev pub up_to : ℕ → Change → ℕ
up_to n (replacing i r) = suc i
up_to n (removing i) = suc i
up_to n (appending r) = n

-- the list with that one edit: the new one in the place of the old; without the old; the new after the last
abbrev pub edited : {A : Type 0} → Change → List A → List A → List A
edited c new l = splice (from_of (length l) c) (up_to (length l) c) new l

-- no such number, where there are n
abbrev pub Missing : ℕ → Change → Type 0
Missing n (replacing i r) = n ≤ i
Missing n (removing i) = n ≤ i
Missing n (appending r) = ⊥

-- the numbers of what is given are of the types that the code has for them
abbrev pub AllFit : Change → Type 0
AllFit (replacing i r) = Fits r.content
AllFit (removing i) = Unit {0}
AllFit (appending r) = Fits r.content

-- what adding refuses the given record with, mode and mark off; 0 for nothing
abbrev pub adding_of : List ℕ → Change → ℕ
adding_of tag (replacing i r) = refusal_of (tag_version tag) Mode.Off false r
adding_of tag (removing i) = 0
adding_of tag (appending r) = refusal_of (tag_version tag) Mode.Off false r

-- how long the frames together are after the edit
abbrev pub long_then : List ℕ → Change → ℕ
long_then tag c = length (joined (edited c (frames_for tag c) (tag_blocks tag)))

-- ---- an accepted edit

-- The tag read to its end before, with any work buffer, and reads now as the old list with that one edit, none short, then the end.
-- The header, the length, what follows the tag, all before the edited frame and all behind the frames of before and of now are as they were. The frames that stay are moved as they are; after the last come zeros only.
pub record Editing (c : Change) (tag tag' : List ℕ) : Type 0 where
  pub records : List Rec
  pub before : (work : List ℕ) → read_all tag work ≡ (records, ended)
  pub there : Missing (length records) c → ⊥
  pub after : (work : List ℕ) → read_all tag' work ≡ (edited c (given_in c) records, ended)
  pub none_short : NoneShort records
  pub none_short_after : NoneShort (edited c (given_in c) records)
  pub same_header : take 10 tag' ≡ take 10 tag
  pub same_length : length tag' ≡ length tag
  pub same_behind : drop (10 + size_of tag) tag' ≡ drop (10 + size_of tag) tag
  pub same_front : let n = 10 + length (joined (take (from_of (length records) c) (tag_blocks tag))) in take n tag' ≡ take n tag
  pub same_rest : (m : ℕ) → length (joined (tag_blocks tag)) ≤ m → length (joined (tag_blocks tag')) ≤ m → m ≤ size_of tag → drop (10 + m) tag' ≡ drop (10 + m) tag
  -- frame by frame and record by record
  pub frames : Reads (tag_version tag) 0 (tag_blocks tag) records
  pub frames_after : Reads (tag_version tag) 0 (tag_blocks tag') (edited c (given_in c) records)
  pub moved : tag_blocks tag' ≡ edited c (frames_for tag c) (tag_blocks tag)
  -- what is left of the header's size is zeros
  pub padding : region_in tag ≡ joined (tag_blocks tag) ++ zeros (size_of tag - length (joined (tag_blocks tag)))
  pub padding_after : region_in tag' ≡ joined (tag_blocks tag') ++ zeros (size_of tag - length (joined (tag_blocks tag')))

abbrev pub EditReads : Type 0
EditReads = (c : Change) (tag tag' : List ℕ) → AllFit c → edited_of tag c ≡ (Ok tt, tag') → Editing c tag tag'

-- The same of each edit by itself: the given record in the place of the i-th; the list without the i-th; the given record after the last.
abbrev pub ReplaceReads : Type 0
ReplaceReads = (tag tag' : List ℕ) (i : ℕ) (r : Rec) (work : List ℕ) → Fits r.content → replaced_of tag i r ≡ (Ok tt, tag')
    → (i < length (read_all tag work).0) × (read_all tag' work ≡ (set (read_all tag work).0 i r, ended))

abbrev pub RemoveReads : Type 0
RemoveReads = (tag tag' : List ℕ) (i : ℕ) (work : List ℕ) → removed_of tag i ≡ (Ok tt, tag') → let records = (read_all tag work).0 in
    (i < length records) × (read_all tag' work ≡ (take i records ++ drop (suc i) records, ended))

abbrev pub AppendReads : Type 0
AppendReads = (tag tag' : List ℕ) (r : Rec) (work : List ℕ) → Fits r.content → appended_of tag r ≡ (Ok tt, tag')
    → read_all tag' work ≡ ((read_all tag work).0 ++ (r ∷ []), ended)

-- ---- the tag is plain again

-- No frame of these bytes, and none in the runs inside them, is compressed.
pub data Uncompressed (v : Version) : ℕ → List ℕ → Type 0 where
  ends : {depth : ℕ} {s : List ℕ} → head_of v depth s ≡ Ok None → Uncompressed v depth s
  stops : {depth k : ℕ} {s : List ℕ} → head_of v depth s ≡ Err (refusal k) → Uncompressed v depth s
  frame : {depth id start len : ℕ} {flagged short : Bool} {s : List ℕ} → head_of v depth s ≡ Ok (Some (head id false flagged short start len))
      → Uncompressed v (depth + 1) (run_of (shown_kind v id false) (take len (drop start s)))
      → Uncompressed v depth (drop (start + len) s) → Uncompressed v depth s

-- no subframe of what is given is compressed
abbrev pub GivenUncompressed : Version → Change → Type 0
GivenUncompressed v (replacing i r) = Uncompressed v 2 (run_within r.content)
GivenUncompressed v (removing i) = Unit {0}
GivenUncompressed v (appending r) = Uncompressed v 2 (run_within r.content)

-- After an accepted edit the tag is plain, so that edits go on, with one exception: a run that is given may have a compressed subframe,
-- which 29 lets pass, and then the tag is odd. So a removal always leaves a plain tag.
abbrev pub PlainAgain : Type 0
PlainAgain = (c : Change) (tag tag' : List ℕ) → AllFit c → edited_of tag c ≡ (Ok tt, tag')
    → ((tag_look tag' ≡ Ok true) × GivenUncompressed (tag_version tag) c) ⊎ ((tag_look tag' ≡ Ok false) × (GivenUncompressed (tag_version tag) c → ⊥))

abbrev pub RemovePlain : Type 0
RemovePlain = (tag tag' : List ℕ) (i : ℕ) → removed_of tag i ≡ (Ok tt, tag') → tag_look tag' ≡ Ok true

-- ---- refusals

-- A refused edit leaves the tag as it was.
abbrev pub EditRefusedSame : Type 0
EditRefusedSame = (c : Change) (tag : List ℕ) (k : ℕ) (tag' : List ℕ) → edited_of tag c ≡ (Err (refusal k), tag') → tag' ≡ tag

-- A refusal has a number: none is 0.
abbrev pub EditRefusedNumber : Type 0
EditRefusedNumber = (c : Change) (tag : List ℕ) (k : ℕ) (tag' : List ℕ) → edited_of tag c ≡ (Err (refusal k), tag') → 0 < k

-- Why an edit is refused, in this order: as reading is, whatever the work buffer; 40; and in a plain tag 46, what adding refuses, or 20.
pub data Why (c : Change) (tag : List ℕ) : ℕ → Type 0 where
  as_reading : {k : ℕ} → ((work : List ℕ) → (read_all tag work).1 ≡ refused k) → Why c tag k
  not_plain : (tag_look tag ≡ Ok true → ⊥) → Why c tag 40
  no_number : tag_look tag ≡ Ok true → Missing (length (tag_blocks tag)) c → Why c tag 46
  as_adding : {k : ℕ} → tag_look tag ≡ Ok true → (Missing (length (tag_blocks tag)) c → ⊥) → adding_of tag c ≡ suc k → Why c tag (suc k)
  no_room : tag_look tag ≡ Ok true → (Missing (length (tag_blocks tag)) c → ⊥) → adding_of tag c ≡ 0 → size_of tag < long_then tag c → Why c tag 20

abbrev pub EditRefusedWhy : Type 0
EditRefusedWhy = (c : Change) (tag : List ℕ) (k : ℕ) (tag' : List ℕ) → edited_of tag c ≡ (Err (refusal k), tag') → Why c tag k

-- Adding's numbers are 12 and those from 21 to 34; so any other below 20, and those from 35 to 39, are the ones that reading the tag is refused with, whatever the work buffer.
abbrev pub AddingNumbers : ℕ → Type 0
AddingNumbers k = (k ≡ 12) ⊎ ((20 ≤ k) × (k < 35))

abbrev pub EditRefusedAsReading : Type 0
EditRefusedAsReading = (c : Change) (tag : List ℕ) (k : ℕ) (tag' work : List ℕ) → edited_of tag c ≡ (Err (refusal k), tag') → k < 40 → (AddingNumbers k → ⊥)
    → (read_all tag work).1 ≡ refused k

-- Where reading the tag is refused, with whatever work buffer, so is every edit, before 46 and all that follows: with that number, or with 40 at once.
abbrev pub EditReadingRefused : Type 0
EditReadingRefused = (c : Change) (tag : List ℕ) (k : ℕ) (work : List ℕ) → (read_all tag work).1 ≡ refused k
    → (edited_of tag c ≡ (Err (refusal k), tag)) ⊎ (edited_of tag c ≡ (Err (refusal 40), tag))

-- In a plain tag 46 is the answer exactly when there is no such number among the records that are read.
abbrev pub NoNumber : Type 0
NoNumber = (c : Change) (tag work : List ℕ) → tag_look tag ≡ Ok true
    → ((edited_of tag c).0 ≡ Err (refusal 46)) ↔ Missing (length (read_all tag work).0) c

-- In a plain tag, where the number is there and adding refuses nothing, 20 is the answer exactly when the frames together after the edit
-- are longer than the header's size, and else the edit is done.
abbrev pub NoRoom : Type 0
NoRoom = (c : Change) (tag : List ℕ) → tag_look tag ≡ Ok true → (Missing (length (tag_blocks tag)) c → ⊥) → adding_of tag c ≡ 0
    → (((edited_of tag c).0 ≡ Err (refusal 20)) ↔ (size_of tag < long_then tag c)) × (((edited_of tag c).0 ≡ Ok tt) ↔ (long_then tag c ≤ size_of tag))

-- That length is the sum of the old ones, without the frame that goes and with the one that comes.
abbrev pub LengthsThen : Type 0
LengthsThen = (c : Change) (tag : List ℕ) → let bs = tag_blocks tag in let n = length bs in
    long_then tag c + length (joined (take (up_to n c - from_of n c) (drop (from_of n c) bs))) ≡ length (joined bs) + length (joined (frames_for tag c))

-- So a removal always has room.
abbrev pub RemoveDone : Type 0
RemoveDone = (tag : List ℕ) (i : ℕ) (work : List ℕ) → tag_look tag ≡ Ok true → i < length (read_all tag work).0 → (removed_of tag i).0 ≡ Ok tt

-- ---- two edits

-- To remove what was just added gives the old tag back, byte by byte.
abbrev pub RemoveAppended : Type 0
RemoveAppended = (tag t : List ℕ) (r : Rec) → Fits r.content → Uncompressed (tag_version tag) 2 (run_within r.content) → appended_of tag r ≡ (Ok tt, t)
    → removed_of t (length (tag_blocks tag)) ≡ (Ok tt, tag)

-- The room that a removal frees serves the next addition: a frame that is no longer than the padding and the frame that went together is added.
abbrev pub FreedServes : Type 0
FreedServes = (tag t : List ℕ) (i : ℕ) (r : Rec) → removed_of tag i ≡ (Ok tt, t) → refusal_of (tag_version tag) Mode.Off false r ≡ 0
    → length (joined (tag_blocks tag)) + length (frame_for tag r) ≤ size_of tag + length (get_or (tag_blocks tag) i []) → (appended_of t r).0 ≡ Ok tt

-- To replace a frame by what was read of it, where that is not refused, reads the same.
abbrev pub ReplaceSame : Type 0
ReplaceSame = (tag t : List ℕ) (i : ℕ) (r : Rec) (work : List ℕ) → Fits r.content → get_or (read_all tag work).0 i r ≡ r → replaced_of tag i r ≡ (Ok tt, t)
    → read_all t work ≡ read_all tag work

-- Two frames replaced in either order, where both orders are accepted: the same tag, byte by byte.
abbrev pub ReplacesCommute : Type 0
ReplacesCommute = (tag t s t' s' : List ℕ) (i j : ℕ) (r q : Rec) → (i ≡ j → ⊥) → Fits r.content → Fits q.content
    → replaced_of tag i r ≡ (Ok tt, t) → replaced_of t j q ≡ (Ok tt, s)
    → replaced_of tag j q ≡ (Ok tt, t') → replaced_of t' i r ≡ (Ok tt, s') → s ≡ s'

-- ---- any run of edits

-- From a tag the edits that are done are just these, in this order, and leave that tag. Between them may stand edits that are refused.
pub data Edits : List ℕ → List Change → List ℕ → Type 0 where
  none : {tag : List ℕ} → Edits tag [] tag
  done : {tag t tag' : List ℕ} {c : Change} {cs : List Change} → AllFit c → edited_of tag c ≡ (Ok tt, t) → Edits t cs tag' → Edits tag (c ∷ cs) tag'
  declined : {tag t tag' : List ℕ} {cs : List Change} {k : ℕ} (c : Change) → edited_of tag c ≡ (Err (refusal k), t) → Edits t cs tag' → Edits tag cs tag'

-- the list with these edits, one after the other
abbrev pub edited_all : List Change → List Rec → List Rec
edited_all [] records = records
edited_all (c ∷ cs) records = edited_all cs (edited c (given_in c) records)

-- The tag reads as the old list with these edits, with any work buffer, and ends as before; the header, the length and what follows the tag are as they were.
abbrev pub EditsRead : Type 0
EditsRead = (tag tag' : List ℕ) (cs : List Change) → Edits tag cs tag'
    → ((work : List ℕ) → read_all tag' work ≡ (edited_all cs (read_all tag work).0, (read_all tag work).1))
    × (take 10 tag' ≡ take 10 tag) × (length tag' ≡ length tag) × (drop (10 + size_of tag) tag' ≡ drop (10 + size_of tag) tag)

-- ---- not empty

-- the number is there, adding refuses nothing, and the padding holds what comes besides what goes
abbrev pub HasRoom : Version → ℕ → List Rec → Change → Type 0
HasRoom v padding records (replacing i r) =
    (i < length records) × (refusal_of v Mode.Off false r ≡ 0) × (length (encode v Mode.Off r) ≤ length (encode v Mode.Off (get_or records i r)) + padding)
HasRoom v padding records (removing i) = i < length records
HasRoom v padding records (appending r) = (refusal_of v Mode.Off false r ≡ 0) × (length (encode v Mode.Off r) ≤ padding)

-- In a tag that was written with mode off, in each edition, any such edit is done.
abbrev pub WrittenEdits : Type 0
WrittenEdits = (version padding : ℕ) (records : List Rec) (tag : List ℕ) (c : Change) → Written version 0 padding records tag → PlainRuns (version_of version) records
    → HasRoom (version_of version) padding records c → (edited_of tag c).0 ≡ Ok tt

-- And where one of its frames was removed, a frame that is no longer than the padding and that one together is added.
abbrev pub WrittenFreed : Type 0
WrittenFreed = (version padding : ℕ) (records : List Rec) (tag t : List ℕ) (i : ℕ) (r : Rec) → Written version 0 padding records tag → PlainRuns (version_of version) records
    → removed_of tag i ≡ (Ok tt, t) → HasRoom (version_of version) padding records (replacing i r) → (appended_of t r).0 ≡ Ok tt
