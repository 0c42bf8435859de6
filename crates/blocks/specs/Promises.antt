-- What is promised of any tag by its blocks: where they stand and what follows the tag do not matter (document 01, "Header and walk"). Assumes nothing.
use Rattle.std.specs.Prelude.{◌≡◌, ℕ, suc, ◌+◌, ◌≤◌, Bool, true, List, [], ◌++◌, length}
use Rattle.format.specs.Bytes.{pick}
use Rattle.format.specs.Header.{edition_of, version_of, size_of, is_whole, header_refusal, region_of}
use Rattle.format.specs.Frame.{head_of}
use Rattle.format.specs.Record.{Rec}
use Rattle.format.specs.Walk.{shown_body}
use Rattle.format.specs.Answers.{head_number}
use Rattle.format.specs.declared.Version.{Version}
use Rattle.promises.specs.Reading.{Reading, ended, refused, read_all}
use Rattle.promises.specs.Written.{WrittenAs}
use Rattle.blocks.specs.Blocks.{joined, AllBlocks, Blocks, blocks_in, read_blocks, AtMostShort}

-- ---- any tag whose header is taken

abbrev pub version_in : List ℕ → Version
version_in tag = version_of (edition_of tag)

-- the bytes that are walked: the region, resynchronised where it is so as a whole
abbrev pub frames_in : List ℕ → List ℕ
frames_in tag = shown_body (is_whole tag) (region_of tag)

-- the room of its frames: none where they lie in the work buffer themselves
abbrev pub room_in : List ℕ → List ℕ → List ℕ
room_in tag work = pick (is_whole tag) [] work

-- the header is taken, and what is resynchronised as a whole has the room
pub record CanOpen (tag work : List ℕ) : Type 0 where
  pub taken : header_refusal tag ≡ 0
  pub room : is_whole tag ≡ true → length (region_of tag) ≤ length work

-- A tag of blocks and a quiet end reads as the list of its blocks' readings, each with the room as the one before left it, then the end.
abbrev pub TagReads : Type 0
TagReads = (tag work : List ℕ) (bs : List (List ℕ)) (rest : List ℕ) → CanOpen tag work → Blocks (version_in tag) bs rest (frames_in tag)
    → read_all tag work ≡ read_blocks (version_in tag) bs (λ (left : List ℕ). ([], ended)) (room_in tag work)

-- Any bytes at all read as the blocks that they begin with, and then, whatever room these left, at most one short frame and the end, or a refusal.
abbrev pub AnyReads : Type 0
AnyReads = (tag work : List ℕ) → CanOpen tag work
    → (after : List ℕ → Reading) × ((left : List ℕ) → AtMostShort (after left))
    × (read_all tag work ≡ read_blocks (version_in tag) (blocks_in (version_in tag) (frames_in tag)) after (room_in tag work))

-- Blocks, and then a frame that is refused by its header: the blocks' readings, then the refusal with the header's number.
abbrev pub StopsAt : Type 0
StopsAt = (tag work : List ℕ) (bs : List (List ℕ)) (rest : List ℕ) (k : ℕ) → CanOpen tag work → AllBlocks (version_in tag) bs
    → frames_in tag ≡ joined bs ++ rest → head_number (head_of (version_in tag) 1 rest) ≡ suc k
    → read_all tag work ≡ read_blocks (version_in tag) bs (λ (left : List ℕ). ([], refused (suc k))) (room_in tag work)

-- ---- other bytes after the tag

-- A tag that is there whole, whatever it holds, reads with other bytes after it as it does alone, with the same work buffer.
abbrev pub Followed : Type 0
Followed = (tag more work : List ℕ) → 10 + size_of tag ≤ length tag → read_all (tag ++ more) work ≡ read_all tag work

-- So does a tag that was written, with its altered mark on or off, followed by the sound.
abbrev pub WrittenFollowed : Type 0
WrittenFollowed = (version mode padding : ℕ) (altered : Bool) (records : List Rec) (tag sound work : List ℕ)
    → WrittenAs version mode altered padding records tag
    → read_all (tag ++ sound) work ≡ read_all tag work
