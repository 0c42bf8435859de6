-- What is promised of the exported functions that edit a tag in place (document 01, "Room inside the tag"; request j). Assumes nothing.
use Rattle.std.specs.Prelude.{◌≡◌, ℕ, suc, ◌≤◌, List, [], ◌∷◌, length}
use Rattle.format.specs.Header.{version_of}
use Rattle.format.specs.Record.{Rec}
use Rattle.raise.specs.Promises.{PlainRuns}
use Rattle.edit.specs.Promises.{Change, replacing, removing, appending, Editing, HasRoom}
use Rattle.capi.specs.Calls.{Left1}
use Rattle.capi.specs.Edits.{sv_replace, sv_remove, sv_append}
use Rattle.cpromises.specs.Written.{record_in, Wide, SvWritten}

-- ---- a call, and the change that it says

pub data Call : Type 0 where
  replace : (number : ℕ) (words name names rest deviations : List ℕ) → Call
  remove : (number : ℕ) → Call
  append : (words name names rest deviations : List ℕ) → Call

-- the number that it answers, and the tag then
abbrev pub sv_edit : List ℕ → Call → Left1
sv_edit tag (replace number words name names rest deviations) = sv_replace tag number words name names rest deviations
sv_edit tag (remove number) = sv_remove tag number
sv_edit tag (append words name names rest deviations) = sv_append tag words name names rest deviations

abbrev pub each_of : (Rec → Change) → List Rec → List Change
each_of f [] = []
each_of f (r ∷ rs) = f r ∷ each_of f rs

-- none where its words are no record
abbrev pub says_of : Call → List Change
says_of (replace number words name names rest deviations) = each_of (replacing number) (record_in words name names rest deviations)
says_of (remove number) = removing number ∷ []
says_of (append words name names rest deviations) = each_of appending (record_in words name names rest deviations)

-- its words are of 64 bits
abbrev pub WideCall : Call → Type 0
WideCall (replace number words name names rest deviations) = Wide words
WideCall (remove number) = Unit {0}
WideCall (append words name names rest deviations) = Wide words

-- they are as many as a record has
abbrev pub EnoughWords : Call → Type 0
EnoughWords (replace number words name names rest deviations) = 19 ≤ length words
EnoughWords (remove number) = Unit {0}
EnoughWords (append words name names rest deviations) = 19 ≤ length words

-- ---- the promises

-- Where a call answers 0, its words say a record, and the tag reads as the old list with that one edit, as Editing says.
abbrev pub SvEditReads : Type 0
SvEditReads = (tag : List ℕ) (call : Call) → WideCall call → (sv_edit tag call).0 ≡ 0 → (c : Change) × ((says_of call ≡ c ∷ []) × Editing c tag (sv_edit tag call).1)

-- With a refusal the tag is as before.
abbrev pub SvRefusedEdit : Type 0
SvRefusedEdit = (tag : List ℕ) (call : Call) (k : ℕ) → (sv_edit tag call).0 ≡ suc k → (sv_edit tag call).1 ≡ tag

-- In a tag that the exported functions wrote with mode 0, in each edition, every edit is done whose number is there, which adding takes, and for which the padding has room.
abbrev pub SvWrittenEdits : Type 0
SvWrittenEdits = (version padding : ℕ) (records : List Rec) (tag : List ℕ) (call : Call) (c : Change)
    → SvWritten version 0 padding records tag → PlainRuns (version_of version) records
    → EnoughWords call → says_of call ≡ c ∷ [] → HasRoom (version_of version) padding records c → (sv_edit tag call).0 ≡ 0
