-- What is promised of raising a counter, on the definitions alone (document 01, "Raising a counter"; request f). Assumes nothing.
use Rattle.std.specs.Prelude.{◌≡◌, ◌⊎◌, ℕ, suc, ◌+◌, ◌^◌, ◌≤◌, ◌<◌, Bool, false, List, [], ◌∷◌, length, take, drop, get_or, set, Ok, Err, true}
use Rattle.format.specs.Bytes.{pick, zero_at}
use Rattle.format.specs.Header.{size_of, version_of}
use Rattle.format.specs.Popularimeter.{counter_bytes}
use Rattle.format.specs.Record.{Content, text, popularimeter, table, chapter, contents, raw, Rec}
use Rattle.format.specs.declared.Version.{Version}
use Rattle.promises.specs.Reading.{ended, refused, read_all}
use Rattle.promises.specs.Written.{Written}
use Rattle.blocks.specs.Blocks.{joined}
use Rattle.format.specs.Looks.{look_at, tag_look}
use Rattle.raise.specs.Raise.{same_bytes, places_from, tag_version, tag_blocks, raised_of}
use Rattle.format.specs.Refusals.{refusal}

-- a popularimeter's record
abbrev pub counted : ℕ → List ℕ → ℕ → ℕ → Rec
counted id user rating counter = record { id = id; short = false; compressed = false; content = popularimeter user rating counter }

-- the search among the records that are read
abbrev pub is_users : List ℕ → Content → Bool
is_users user (text e s) = false
is_users user (popularimeter u r c) = same_bytes u user
is_users user (table f b m v w ds) = false
is_users user (chapter element a b c d run) = false
is_users user (contents element t o children run) = false
is_users user (raw body) = false

unfoldable pub records_from : List ℕ → ℕ → List Rec → List ℕ
records_from user k [] = []
records_from user k (r ∷ rs) = let on = records_from user (suc k) rs in pick (is_users user r.content) (k ∷ on) on

-- the records of a user's popularimeters
unfoldable pub theirs_in : List ℕ → List Rec → List Rec
theirs_in user [] = []
theirs_in user (r ∷ rs) = let on = theirs_in user rs in pick (is_users user r.content) (r ∷ on) on

-- ---- an accepted raise

-- The tag reads as before, with any work buffer, but for the one record of that user, whose counter is the sum; no byte outside the counter's changes.
pub record Raising (tag user : List ℕ) (amount n : ℕ) (tag' : List ℕ) : Type 0 where
  pub records : List Rec
  pub before : (work : List ℕ) → read_all tag work ≡ (records, ended)
  pub i : ℕ
  pub id : ℕ
  pub rating : ℕ
  pub counter : ℕ
  pub only : records_from user 0 records ≡ i ∷ []
  pub inside : i < length records
  pub was : get_or records i (counted id user rating n) ≡ counted id user rating counter
  pub sum : n ≡ counter + amount
  pub after : (work : List ℕ) → read_all tag' work ≡ (set records i (counted id user rating n), ended)
  -- the counter's bytes
  pub at : ℕ
  pub count : ℕ
  pub behind_header : 10 ≤ at
  pub in_tag : at + count ≤ 10 + size_of tag
  pub same_front : take at tag' ≡ take at tag
  pub same_back : drop (at + count) tag' ≡ drop (at + count) tag
  pub same_length : length tag' ≡ length tag
  -- every frame begins where it began
  pub same_places : (j : ℕ) → length (joined (take j (tag_blocks tag'))) ≡ length (joined (take j (tag_blocks tag)))

abbrev pub RaiseReads : Type 0
RaiseReads = (tag user : List ℕ) (amount n : ℕ) (tag' : List ℕ) → raised_of tag user amount ≡ (Ok n, tag') → Raising tag user amount n tag'

-- A refused raise leaves the tag as it was.
abbrev pub RefusedSame : Type 0
RefusedSame = (tag user : List ℕ) (amount k : ℕ) (tag' : List ℕ) → raised_of tag user amount ≡ (Err (refusal k), tag') → tag' ≡ tag

-- A refusal has a number: none is 0.
abbrev pub RefusedNumber : Type 0
RefusedNumber = (tag user : List ℕ) (amount k : ℕ) (tag' : List ℕ) → raised_of tag user amount ≡ (Err (refusal k), tag') → 0 < k

-- A number below 40 is the one that reading the tag is refused with, whatever the work buffer.
abbrev pub RefusedAsReading : Type 0
RefusedAsReading = (tag user : List ℕ) (amount k : ℕ) (tag' work : List ℕ) → raised_of tag user amount ≡ (Err (refusal k), tag') → k < 40
    → (read_all tag work).1 ≡ refused k

-- Where reading the tag is refused, with whatever work buffer, so is a raise, before 41 to 44: with that number, or with 40 at once.
abbrev pub ReadingRefused : Type 0
ReadingRefused = (tag user : List ℕ) (amount k : ℕ) (work : List ℕ) → (read_all tag work).1 ≡ refused k
    → (raised_of tag user amount ≡ (Err (refusal k), tag)) ⊎ (raised_of tag user amount ≡ (Err (refusal 40), tag))

-- The search is one among the records that reading gives, with any work buffer.
abbrev pub SearchReads : Type 0
SearchReads = (tag user work : List ℕ) → tag_look tag ≡ Ok true
    → places_from (tag_version tag) user 0 (tag_blocks tag) ≡ records_from user 0 (read_all tag work).0

-- A user with a zero in it is in no plain tag.
abbrev pub ZeroAbsent : Type 0
ZeroAbsent = (tag user : List ℕ) (amount : ℕ) → tag_look tag ≡ Ok true → zero_at user < length user → raised_of tag user amount ≡ (Err (refusal 41), tag)

-- ---- two raises

-- What is read of another user's popularimeters is the same after a raise, accepted or not, as before it.
abbrev pub OthersRead : Type 0
OthersRead = (tag user other : List ℕ) (amount : ℕ) (work : List ℕ) → (user ≡ other → ⊥)
    → theirs_in other (read_all (raised_of tag user amount).1 work).0 ≡ theirs_in other (read_all tag work).0

-- A raise for another user answers the same after a raise as before it, whether that was accepted or not.
abbrev pub OtherSame : Type 0
OtherSame = (tag user other : List ℕ) (amount more : ℕ) → (user ≡ other → ⊥)
    → (raised_of (raised_of tag user amount).1 other more).0 ≡ (raised_of tag other more).0

-- Two raises for two users, both accepted, are accepted in the other order, with the same counters and the same tag in the end.
abbrev pub RaisesCommute : Type 0
RaisesCommute = (tag user other : List ℕ) (amount more n k : ℕ) (t s : List ℕ) → (user ≡ other → ⊥)
    → raised_of tag user amount ≡ (Ok n, t) → raised_of t other more ≡ (Ok k, s)
    → (t' : List ℕ) × ((raised_of tag other more ≡ (Ok k, t')) × (raised_of t' user amount ≡ (Ok n, s)))

-- Two raises for one user, both accepted, are one by the sum.
abbrev pub RaisesAdd : Type 0
RaisesAdd = (tag user : List ℕ) (amount more n k : ℕ) (t s : List ℕ)
    → raised_of tag user amount ≡ (Ok n, t) → raised_of t user more ≡ (Ok k, s) → raised_of tag user (amount + more) ≡ (Ok k, s)

-- ---- not empty

abbrev pub run_within : Content → List ℕ
run_within (text e s) = []
run_within (popularimeter user r c) = []
run_within (table f b m v w ds) = []
run_within (chapter element a b c d run) = run
run_within (contents element t o children run) = run
run_within (raw body) = []

-- no subframe of these records is compressed: a writer takes such a run, and the tag is then not plain
pub data PlainRuns (v : Version) : List Rec → Type 0 where
  none : PlainRuns v []
  also : {r : Rec} {rs : List Rec} → look_at v 2 (run_within r.content) ≡ Ok true → PlainRuns v rs → PlainRuns v (r ∷ rs)

-- In a tag that was written with mode off, in each edition, the one popularimeter of a user is raised whenever the sum fits 64 bits and the bytes that the writer gave its counter.
abbrev pub WrittenRaises : Type 0
WrittenRaises = (version padding : ℕ) (records : List Rec) (tag user : List ℕ) (i id rating counter amount : ℕ)
    → Written version 0 padding records tag → PlainRuns (version_of version) records
    → records_from user 0 records ≡ i ∷ [] → get_or records i (counted id user rating counter) ≡ counted id user rating counter
    → counter + amount < 2 ^ 64 → counter + amount < 256 ^ length (counter_bytes counter)
    → (raised_of tag user amount).0 ≡ Ok (counter + amount)
