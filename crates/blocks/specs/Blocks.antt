-- The frames of a region as blocks of bytes, one after the other, and what follows them. Assumes nothing.
use Rattle.std.specs.Prelude.{◌≡◌, ℕ, zero, suc, ◌+◌, ◌-◌, ◌≤◌, Bool, true, false, List, [], ◌∷◌, ◌++◌, length, take, drop, eqb, Result, Option, Ok, Err, Some, None}
use Rattle.format.specs.Bytes.{pick, zeros}
use Rattle.format.specs.Header.{edition_of, version_of, size_of, is_whole, is_extended, header_refusal}
use Rattle.format.specs.Frame.{head_of, is_end, head}
use Rattle.format.specs.Record.{Rec, run_of}
use Rattle.format.specs.Walk.{is_resynced, shown_kind, frame_of, Shown}
use Rattle.format.specs.Answers.{shown_number, shown_view}
use Rattle.format.specs.declared.Version.{Version}
use Rattle.format.specs.declared.Head.{Head}
use Rattle.promises.specs.Reading.{Reading, and_record, ended, refused}
use Rattle.format.specs.declared.refusals.Refusal.{Refusal}

-- ---- a block

-- The bytes of one frame that is there whole, and no more.
pub record Block (v : Version) (b : List ℕ) : Type 0 where
  pub id : ℕ
  pub compressed : Bool
  pub flagged : Bool
  pub start : ℕ
  pub len : ℕ
  pub head : head_of v 1 b ≡ Ok (Some (head id compressed flagged false start len))
  pub ends : start + len ≡ length b

-- How many bytes the frame takes that a header found, if it is there whole; 0 where there is none.
abbrev pub block_len : Result (Option Head) Refusal → ℕ
block_len (Ok None) = 0
block_len (Err k) = 0
block_len (Ok (Some h)) = pick h.short 0 (h.start + h.len)

-- No whole frame begins here: the end, a refusal, or a short frame, which takes all that is left.
abbrev pub NoBlock : Version → List ℕ → Type 0
NoBlock v s = block_len (head_of v 1 s) ≡ 0

-- What a frame is read as, apart from its place.
pub data Sight : Type 0 where
  nothing : Sight
  refuses : ℕ → Sight
  shows : Rec → Sight

-- by the number of an answer and its none or one record: neither a refusal nor a record is the end
abbrev pub none_by : ℕ → Sight
none_by zero = nothing
none_by (suc k) = refuses (suc k)

abbrev pub sight_by : ℕ → List Rec → Sight
sight_by k [] = none_by k
sight_by k (r ∷ l) = shows r

abbrev pub sight_in : Shown → List ℕ → List ℕ → Sight
sight_in o tag work = sight_by (shown_number o) (shown_view o tag work)

-- The frame in front of s, as if s were all that there is, and what the room holds then.
unfoldable pub sight_of : Version → List ℕ → List ℕ → Sight × List ℕ
sight_of v s room = let o = frame_of v false 0 0 s room in (sight_in o.0 s o.1, o.1)

-- ---- blocks

abbrev pub joined : List (List ℕ) → List ℕ
joined [] = []
joined (b ∷ bs) = b ++ joined bs

pub data AllBlocks (v : Version) : List (List ℕ) → Type 0 where
  none : AllBlocks v []
  also : {b : List ℕ} {bs : List (List ℕ)} → Block v b → AllBlocks v bs → AllBlocks v (b ∷ bs)

-- A region: blocks, and a rest in which no frame begins.
pub record Blocks (v : Version) (bs : List (List ℕ)) (rest s : List ℕ) : Type 0 where
  pub whole : AllBlocks v bs
  pub quiet : is_end v rest ≡ true
  pub is : s ≡ joined bs ++ rest

-- the blocks that any bytes begin with, as a reader goes, with a count that is large enough
unfoldable pub blocks_for : Version → ℕ → List ℕ → List (List ℕ)
blocks_for v zero s = []
blocks_for v (suc n) s =
    let k = block_len (head_of v 1 s) in
    let on = take k s ∷ blocks_for v n (drop k s) in
    pick (eqb k 0) [] on

abbrev pub blocks_in : Version → List ℕ → List (List ℕ)
blocks_in v s = blocks_for v (length s) s

-- ---- reading them: each with the room as the one before left it

-- one frame, and then go; a refusal stops
abbrev pub on_sight : (List ℕ → Reading) → Sight → List ℕ → Reading
on_sight go nothing room = ([], ended)
on_sight go (refuses k) room = ([], refused k)
on_sight go (shows r) room = and_record r (go room)

-- the blocks, and then go
unfoldable pub read_blocks : Version → List (List ℕ) → (List ℕ → Reading) → List ℕ → Reading
read_blocks v [] go room = go room
read_blocks v (b ∷ bs) go room = on_sight (read_blocks v bs go) (sight_of v b room).0 (sight_of v b room).1

-- ---- blocks and their records

-- The block reads as this record in every room of at least n bytes, which stays as long as it was.
abbrev pub Shows : Version → ℕ → List ℕ → Rec → Type 0
Shows v n b r = (room : List ℕ) → n ≤ length room → ((sight_of v b room).0 ≡ shows r) × (length (sight_of v b room).1 ≡ length room)

-- No frame of these bytes, and none in the runs inside them, is resynchronised by itself.
pub data Unresynced (v : Version) : ℕ → List ℕ → Type 0 where
  ends : {depth : ℕ} {s : List ℕ} → head_of v depth s ≡ Ok None → Unresynced v depth s
  stops : {depth : ℕ} {k : Refusal} {s : List ℕ} → head_of v depth s ≡ Err k → Unresynced v depth s
  frame : {depth id start len : ℕ} {compressed flagged short : Bool} {s : List ℕ} → head_of v depth s ≡ Ok (Some (head id compressed flagged short start len))
      → is_resynced compressed flagged ≡ false → Unresynced v (depth + 1) (run_of (shown_kind v id compressed) (take len (drop start s)))
      → Unresynced v depth (drop (start + len) s) → Unresynced v depth s

-- These blocks read as these records, one by one. With n = 0 they leave every room as it is.
pub data Reads (v : Version) (n : ℕ) : List (List ℕ) → List Rec → Type 0 where
  none : Reads v n [] []
  also : {b : List ℕ} {bs : List (List ℕ)} {r : Rec} {rs : List Rec} → Block v b → Shows v n b r → Reads v n bs rs → Reads v n (b ∷ bs) (r ∷ rs)

abbrev pub and_records : List Rec → Reading → Reading
and_records rs o = (rs ++ o.0, o.1)

-- A region that reads as these records in every room of at least n bytes: their blocks, then a quiet end.
pub record Region (v : Version) (n : ℕ) (rs : List Rec) (s : List ℕ) : Type 0 where
  pub bs : List (List ℕ)
  pub rest : List ℕ
  pub reads : Reads v n bs rs
  pub quiet : is_end v rest ≡ true
  pub is : s ≡ joined bs ++ rest

-- those from i up to j are replaced: one by one other, one by none, none by one
abbrev pub splice : {A : Type 0} → ℕ → ℕ → List A → List A → List A
splice i j new l = take i l ++ (new ++ drop j l)

-- ---- a tag that can be edited in place

-- the bytes of a tag's region, if it has no extended header
abbrev pub region_in : List ℕ → List ℕ
region_in tag = take (size_of tag) (drop 10 tag)

-- What reading needs of a plain tag: nothing is unsynchronised as a whole, no extended header, all bytes there, blocks that need no room, and zeros.
pub record PlainTag (v : Version) (bs : List (List ℕ)) (rs : List Rec) (padding : ℕ) (tag : List ℕ) : Type 0 where
  pub taken : header_refusal tag ≡ 0
  pub version : version_of (edition_of tag) ≡ v
  pub no_whole : is_whole tag ≡ false
  pub no_extended : is_extended tag ≡ false
  pub all_there : 10 + size_of tag ≤ length tag
  pub reads : Reads v 0 bs rs
  pub region : region_in tag ≡ joined bs ++ zeros padding

-- The tag with these blocks in its region, then zeros: header, size and what follows the tag stay.
unfoldable pub with_blocks : List (List ℕ) → List ℕ → List ℕ
with_blocks bs tag =
    take 10 tag ++ ((joined bs ++ zeros (size_of tag - length (joined bs))) ++ drop (size_of tag) (drop 10 tag))

-- ---- after the blocks

-- what may follow the frames that are there whole: the end, a refusal, or one short frame and the end
pub data AtMostShort : Reading → Type 0 where
  ends : AtMostShort ([], ended)
  stops : (k : ℕ) → AtMostShort ([], refused k)
  short : (r : Rec) → r.short ≡ true → AtMostShort (r ∷ [], ended)
