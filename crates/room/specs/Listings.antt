-- What is promised of listings, on the definitions alone: that the last line is there, and that the text has room (document 01, "The listing program"). Assumes nothing.
use Rattle.std.specs.Prelude.{◌≡◌, ℕ, ◌≤◌, List, [], ◌∷◌, ◌++◌, length}
use Rattle.format.specs.Bytes.{put_front}
use Rattle.format.specs.Listing.{end_line, refused_line}
use Rattle.format.specs.Record.{Rec}
use Rattle.printout.specs.Lines.{Line, lines_of, text_of, input_room, text_room}
use Rattle.printout.specs.Turns.{put_lines}
use Rattle.promises.specs.Reading.{Reading, ended, refused, read_all}
use Rattle.std.specs.Prelude.{Some}

-- ---- the last line

-- how the last line of a reading reads: `end` and the number of frames, or `refused` and its number
pub data LastOf : Reading → List ℕ → Type 0 where
  end : (records : List Rec) → LastOf (records, ended) (end_line (length records))
  refusal : (records : List Rec) (k : ℕ) → LastOf (records, refused k) (refused_line k)

-- lines of which the last says how a reading ended
pub record Closed (ls : List Line) (reading : Reading) : Type 0 where
  pub before : List Line
  pub last : Line
  pub lines : ls ≡ before ++ (last ∷ [])
  pub text : text_of ls ≡ text_of before ++ last.text
  pub says : LastOf reading last.text

-- Every listing, of any tag with any work buffer, ends with its last line, which says how the reading of the tag ends.
abbrev pub LastLine : Type 0
LastLine = (tag work : List ℕ) → Closed (lines_of tag work) (read_all tag work)

-- ---- room

-- The text of every tag of at most 65,536 bytes, whatever numbers they are, has at most 1,048,576 bytes, with any work buffer.
abbrev pub Room : Type 0
Room = (tag work : List ℕ) → length tag ≤ input_room → length (text_of (lines_of tag work)) ≤ text_room

-- So a buffer of so many bytes is never full (`list` answers by `put_lines`): the whole text is put at its front, and nothing else changes in it.
abbrev pub WholeText : Type 0
WholeText = (tag work out : List ℕ) → length tag ≤ input_room → text_room ≤ length out
    → ((put_lines (lines_of tag work) 0 work out).0 ≡ Some (length (text_of (lines_of tag work))))
    × ((put_lines (lines_of tag work) 0 work out).1.1 ≡ put_front (text_of (lines_of tag work)) out)
