-- What is promised of lifting a counter, on the definitions alone (document 01, "Room inside the tag"; request j). Assumes nothing.
use Rattle.std.specs.Prelude.{◌≡◌, ◌⊎◌, ℕ, suc, ◌+◌, ◌^◌, ◌≤◌, ◌<◌, false, List, [], ◌∷◌, length, take, drop, get_or, set, leb, Result, Ok, Err, true}
use Rattle.format.specs.Bytes.{pick, zero_at}
use Rattle.format.specs.Header.{size_of, version_of}
use Rattle.format.specs.Frame.{has_length}
use Rattle.format.specs.Popularimeter.{counter_of, counter_bytes}
use Rattle.format.specs.Record.{Rec}
use Rattle.format.specs.Encode.{refusal_of}
use Rattle.format.specs.Looks.{tag_look}
use Rattle.format.specs.declared.Version.{Version}
use Rattle.format.specs.declared.Version.TheVariants.{Id3v22, Id3v23, Id3v24}
use Rattle.format.specs.declared.Mode.{Mode}
use Rattle.promises.specs.Reading.{ended, refused, read_all}
use Rattle.promises.specs.Written.{Written}
use Rattle.blocks.specs.Blocks.{joined, splice}
use Rattle.raise.specs.Raise.{field_in, places_from, block_at, tag_version, tag_blocks, raised_of}
use Rattle.raise.specs.Promises.{counted, records_from, theirs_in, PlainRuns}
use Rattle.edit.specs.Edit.{frame_for, replaced_of}
use Rattle.edit.specs.Lift.{recounted, counts_in, lifted_of}
use Rattle.format.specs.declared.refusals.Refusal.{Refusal}
use Rattle.format.specs.Refusals.{refusal}

-- the sum, and the popularimeter that has it, of the i-th frame
abbrev pub sum_in : List ℕ → ℕ → ℕ → ℕ
sum_in tag i amount = counter_of (field_in (tag_version tag) (block_at (tag_blocks tag) i)) + amount

abbrev pub lift_rec : List ℕ → ℕ → ℕ → Rec
lift_rec tag i amount = recounted (tag_version tag) (block_at (tag_blocks tag) i) (sum_in tag i amount)

-- what adding refuses of it
abbrev pub adding_refusal : List ℕ → ℕ → ℕ → ℕ
adding_refusal tag i amount = refusal_of (tag_version tag) Mode.Off false (lift_rec tag i amount)

-- ---- an accepted lift

-- The tag reads as before, with any work buffer, but for the one record of that user, whose counter is the sum.
-- The header, the length and what follows the tag stay, as does every other frame; and the tag is plain again.
pub record Lifting (tag user : List ℕ) (amount n : ℕ) (tag' : List ℕ) : Type 0 where
  pub records : List Rec
  pub before : (work : List ℕ) → read_all tag work ≡ (records, ended)
  pub i : ℕ
  pub id : ℕ
  pub rating : ℕ
  pub counter : ℕ
  pub only : records_from user 0 records ≡ i ∷ []
  pub inside : i < length records
  pub was : get_or records i (counted id user rating n) ≡ counted id user rating counter
  pub sum : n ≡ counter + amount
  pub after : (work : List ℕ) → read_all tag' work ≡ (set records i (counted id user rating n), ended)
  pub same_header : take 10 tag' ≡ take 10 tag
  pub same_behind : drop (10 + size_of tag) tag' ≡ drop (10 + size_of tag) tag
  pub same_length : length tag' ≡ length tag
  pub same_frames : (j : ℕ) → (j ≡ i → ⊥) → block_at (tag_blocks tag') j ≡ block_at (tag_blocks tag) j
  pub plain : tag_look tag' ≡ Ok true

abbrev pub LiftReads : Type 0
LiftReads = (tag user : List ℕ) (amount n : ℕ) (tag' : List ℕ) → lifted_of tag user amount ≡ (Ok n, tag') → Lifting tag user amount n tag'

-- ---- which way it went

-- Where a raise does not answer 44, a lift is the raise: the same answer and the same bytes.
abbrev pub LiftIsRaise : Type 0
LiftIsRaise = (tag user : List ℕ) (amount : ℕ) → ((raised_of tag user amount).0 ≡ Err (refusal 44) → ⊥) → lifted_of tag user amount ≡ raised_of tag user amount

-- The one popularimeter of a user in a plain tag, whose sum fits 64 bits and not its bytes.
pub record Outgrows (tag user : List ℕ) (amount : ℕ) : Type 0 where
  pub looks : tag_look tag ≡ Ok true
  pub i : ℕ
  pub only : places_from (tag_version tag) user 0 (tag_blocks tag) ≡ i ∷ []
  pub small : sum_in tag i amount < 2 ^ 64
  pub wide : 256 ^ length (field_in (tag_version tag) (block_at (tag_blocks tag) i)) ≤ sum_in tag i amount

-- Where a raise answers 44 that is the case, and the lift is the replacement of that frame.
abbrev pub LiftIsReplace : Type 0
LiftIsReplace = (tag user : List ℕ) (amount : ℕ) → (raised_of tag user amount).0 ≡ Err (refusal 44)
    → (o : Outgrows tag user amount) × (lifted_of tag user amount ≡ counts_in (sum_in tag o.i amount) (replaced_of tag o.i (lift_rec tag o.i amount)))

-- ---- refusals

-- A refused lift leaves the tag as it was.
abbrev pub LiftRefusedSame : Type 0
LiftRefusedSame = (tag user : List ℕ) (amount k : ℕ) (tag' : List ℕ) → lifted_of tag user amount ≡ (Err (refusal k), tag') → tag' ≡ tag

-- A refusal has a number: none is 0.
abbrev pub LiftRefusedNumber : Type 0
LiftRefusedNumber = (tag user : List ℕ) (amount k : ℕ) (tag' : List ℕ) → lifted_of tag user amount ≡ (Err (refusal k), tag') → 0 < k

-- No refusal is 44.
abbrev pub LiftNever44 : Type 0
LiftNever44 = (tag user : List ℕ) (amount : ℕ) → (lifted_of tag user amount).0 ≡ Err (refusal 44) → ⊥

-- A number below 40 is the one that reading the tag is refused with, whatever the work buffer; or, in a plain tag, that of adding or 20.
abbrev pub LiftRefusedAsReading : Type 0
LiftRefusedAsReading = (tag user : List ℕ) (amount k : ℕ) (tag' work : List ℕ) → lifted_of tag user amount ≡ (Err (refusal k), tag') → k < 40
    → ((read_all tag work).1 ≡ refused k)
    ⊎ ((o : Outgrows tag user amount) × ((k ≡ adding_refusal tag o.i amount) ⊎ (k ≡ 20)))

-- Where reading the tag is refused, with whatever work buffer, so is a lift, before all others: with that number, or with 40 at once.
abbrev pub LiftReadingRefused : Type 0
LiftReadingRefused = (tag user : List ℕ) (amount k : ℕ) (work : List ℕ) → (read_all tag work).1 ≡ refused k
    → (lifted_of tag user amount ≡ (Err (refusal k), tag)) ⊎ (lifted_of tag user amount ≡ (Err (refusal 40), tag))

-- A user with a zero in it is in no plain tag.
abbrev pub LiftZeroAbsent : Type 0
LiftZeroAbsent = (tag user : List ℕ) (amount : ℕ) → tag_look tag ≡ Ok true → zero_at user < length user → lifted_of tag user amount ≡ (Err (refusal 41), tag)

-- ---- 20 for 44

-- the frames together, with that popularimeter in the place of the i-th
abbrev pub frames_then : List ℕ → ℕ → ℕ → ℕ
frames_then tag i amount = length (joined (splice i (suc i) (frame_for tag (lift_rec tag i amount) ∷ []) (tag_blocks tag)))

-- Where adding does not refuse it, 20 exactly when the frames together are then longer than the bytes that the header's size gives them.
pub record RoomFor (tag user : List ℕ) (amount : ℕ) (o : Outgrows tag user amount) : Type 0 where
  pub none : size_of tag < frames_then tag o.i amount → lifted_of tag user amount ≡ (Err (refusal 20), tag)
  pub only_then : (tag' : List ℕ) → lifted_of tag user amount ≡ (Err (refusal 20), tag') → size_of tag < frames_then tag o.i amount
  pub enough : frames_then tag o.i amount ≤ size_of tag → (lifted_of tag user amount).0 ≡ Ok (sum_in tag o.i amount)

abbrev pub LiftNoRoom : Type 0
LiftNoRoom = (tag user : List ℕ) (amount : ℕ) (o : Outgrows tag user amount) → adding_refusal tag o.i amount ≡ 0 → RoomFor tag user amount o

-- Where adding refuses it, that number.
abbrev pub LiftAddRefused : Type 0
LiftAddRefused = (tag user : List ℕ) (amount : ℕ) (o : Outgrows tag user amount) (k : ℕ)
    → adding_refusal tag o.i amount ≡ suc k → lifted_of tag user amount ≡ (Err (refusal (suc k)), tag)

-- what adding answers for a popularimeter's body of so many bytes
abbrev pub too_long : Version → ℕ → ℕ
too_long Id3v22 n = pick (leb (2 ^ 24) n) 23 0
too_long Id3v23 n = pick (leb (2 ^ 28) n) 24 0
too_long Id3v24 n = pick (leb (2 ^ 28) n) 24 0

-- Adding refuses it for nothing but its size.
abbrev pub LiftAdds : Type 0
LiftAdds = (tag user : List ℕ) (amount : ℕ) (o : Outgrows tag user amount)
    → adding_refusal tag o.i amount ≡ too_long (tag_version tag) (length user + (2 + length (counter_bytes (sum_in tag o.i amount))))

-- In 2.3 and 2.4, where the header's size is below 2^28, it is not refused at all.
abbrev pub LiftAddsLate : Type 0
LiftAddsLate = (tag user : List ℕ) (amount : ℕ) (o : Outgrows tag user amount) → (tag_version tag ≡ Id3v22 → ⊥) → size_of tag < 2 ^ 28
    → adding_refusal tag o.i amount ≡ 0

-- ---- two lifts

-- What is read of another user's popularimeters is the same after a lift, accepted or not, as before it.
abbrev pub LiftOthersRead : Type 0
LiftOthersRead = (tag user other : List ℕ) (amount : ℕ) (work : List ℕ) → (user ≡ other → ⊥)
    → theirs_in other (read_all (lifted_of tag user amount).1 work).0 ≡ theirs_in other (read_all tag work).0

-- two answers to one lift that differ in nothing but the room that there is
pub data SameButRoom : Result ℕ Refusal → Result ℕ Refusal → Type 0 where
  same : (x : Result ℕ Refusal) → SameButRoom x x
  taken : (n : ℕ) → SameButRoom (Ok n) (Err (refusal 20))
  freed : (n : ℕ) → SameButRoom (Err (refusal 20)) (Ok n)

-- A lift for another user answers the same before a lift and after it, whether that was accepted or not, but for the room that it took or freed.
abbrev pub LiftOtherSame : Type 0
LiftOtherSame = (tag user other : List ℕ) (amount more : ℕ) → (user ≡ other → ⊥)
    → SameButRoom (lifted_of tag other more).0 (lifted_of (lifted_of tag user amount).1 other more).0

-- Two lifts for two users that are accepted in both orders: the same counters and the same tag in the end. (One order can lack room where the other does not: `LiftCases`.)
abbrev pub LiftsCommute : Type 0
LiftsCommute = (tag user other : List ℕ) (amount more n k n' k' : ℕ) (t s t' s' : List ℕ) → (user ≡ other → ⊥)
    → lifted_of tag user amount ≡ (Ok n, t) → lifted_of t other more ≡ (Ok k, s)
    → lifted_of tag other more ≡ (Ok k', t') → lifted_of t' user amount ≡ (Ok n', s')
    → (n ≡ n') × (k ≡ k') × (s ≡ s')

-- Two lifts for two users, both accepted: in the other order both are accepted too, with the same counters and the same tag in the end, or the first of them lacks room.
abbrev pub LiftsOrder : Type 0
LiftsOrder = (tag user other : List ℕ) (amount more n k : ℕ) (t s : List ℕ) → (user ≡ other → ⊥)
    → lifted_of tag user amount ≡ (Ok n, t) → lifted_of t other more ≡ (Ok k, s)
    → (lifted_of tag other more ≡ (Err (refusal 20), tag))
    ⊎ ((t' : List ℕ) × ((lifted_of tag other more ≡ (Ok k, t')) × (lifted_of t' user amount ≡ (Ok n, s))))

-- Where the first user's frame has no data length, a lift of it frees no bytes, and both are accepted in the other order too.
abbrev pub LiftsEither : Type 0
LiftsEither = (tag user other : List ℕ) (amount more n k i : ℕ) (t s : List ℕ) → (user ≡ other → ⊥)
    → places_from (tag_version tag) user 0 (tag_blocks tag) ≡ i ∷ [] → has_length (tag_version tag) (block_at (tag_blocks tag) i) ≡ false
    → lifted_of tag user amount ≡ (Ok n, t) → lifted_of t other more ≡ (Ok k, s)
    → (t' : List ℕ) × ((lifted_of tag other more ≡ (Ok k, t')) × (lifted_of t' user amount ≡ (Ok n, s)))

-- In 2.2 and 2.3 no frame of a plain tag has one.
abbrev pub NoLength : Type 0
NoLength = (tag : List ℕ) (i : ℕ) → tag_look tag ≡ Ok true → i < length (tag_blocks tag) → (tag_version tag ≡ Id3v24 → ⊥)
    → has_length (tag_version tag) (block_at (tag_blocks tag) i) ≡ false

-- Two lifts for one user, both accepted, are one by the sum.
abbrev pub LiftsAdd : Type 0
LiftsAdd = (tag user : List ℕ) (amount more n k : ℕ) (t s : List ℕ)
    → lifted_of tag user amount ≡ (Ok n, t) → lifted_of t user more ≡ (Ok k, s) → lifted_of tag user (amount + more) ≡ (Ok k, s)

-- ---- not empty

-- In a tag that was written with mode off, in each edition, the one popularimeter of a user is lifted whenever the sum fits 64 bits, the padding has room for the counter bytes
-- that are more, and adding takes it.
abbrev pub WrittenLifts : Type 0
WrittenLifts = (version padding : ℕ) (records : List Rec) (tag user : List ℕ) (i id rating counter amount : ℕ)
    → Written version 0 padding records tag → PlainRuns (version_of version) records
    → records_from user 0 records ≡ i ∷ [] → get_or records i (counted id user rating counter) ≡ counted id user rating counter
    → counter + amount < 2 ^ 64 → length (counter_bytes (counter + amount)) ≤ length (counter_bytes counter) + padding
    → refusal_of (version_of version) Mode.Off false (counted id user rating (counter + amount)) ≡ 0
    → (lifted_of tag user amount).0 ≡ Ok (counter + amount)
