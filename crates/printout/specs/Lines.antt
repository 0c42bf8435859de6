-- The lines of a tag (document 01, "The listing program"). Assumes nothing.
use Rattle.std.specs.Prelude.{ℕ, zero, suc, ◌+◌, List, [], ◌∷◌, ◌++◌, length}
use Rattle.format.specs.Bytes.{part}
use Rattle.format.specs.Numbers.{bytes_of}
use Rattle.format.specs.Ids.{id_len}
use Rattle.format.specs.Record.{buffer_of}
use Rattle.format.specs.Listing.{tag_line, frame_line, end_line, refused_line}
use Rattle.format.specs.declared.Version.{Version}
use Rattle.format.specs.declared.Record.{Record}
use Rattle.format.specs.Numbered.{version_number}
use Rattle.reader.specs.Reader.{header_of, open_of, step_of}
use Rattle.reader.specs.declared.Header.{Header}
use Rattle.reader.specs.declared.Reader.{Reader}
use Rattle.reader.specs.Reader.{Step}
use Rattle.std.specs.Prelude.{Result, Ok, Err, Some, None}
use Rattle.format.specs.declared.refusals.Refusal.{Refusal}

-- a line, and the work buffer as it stands when the line is put
pub record Line : Type 0 where
  pub text : List ℕ
  pub work : List ℕ

abbrev pub line : List ℕ → List ℕ → Line
line text work = record { text = text; work = work }

-- ---- the header

abbrev pub header_line : Header → List ℕ
header_line h = tag_line (version_number h.version) h.size h.flags h.ext

-- ---- a frame

-- the line of a record whose parts lie in s
abbrev pub record_line : Version → ℕ → Record → List ℕ → List ℕ
record_line v n r s =
    frame_line n (bytes_of (id_len v) r.heading.id) r.at r.body.len r.heading.short r.heading.fields (part r.name s)

-- the same in the buffer that the record names
abbrev pub record_in : Version → ℕ → Record → List ℕ → List ℕ → List ℕ
record_in v n r tag work = record_line v n r (buffer_of r tag work)

-- ---- the frames from a reader's place on, the first of them with number n, and the last line

abbrev pub on_step : (Reader → ℕ → List ℕ → List Line) → ℕ → List ℕ → Step → List ℕ → List Line
on_step go n tag (Ok (Some rec), r) work = line (record_in r.version n rec tag work) work ∷ go r (n + 1) work
on_step go n tag (Ok None, r) work = line (end_line n) work ∷ []
on_step go n tag (Err k, r) work = line (refused_line k.number) work ∷ []

-- in at most so many steps
unfoldable pub frame_lines : ℕ → List ℕ → Reader → ℕ → List ℕ → List Line
frame_lines zero tag r n work = []
frame_lines (suc f) tag r n work = on_step (frame_lines f tag) n tag (step_of r tag work).0 (step_of r tag work).1

-- as many steps as the tag has bytes are enough (`LastLine`, crates/room)
abbrev pub on_open : List ℕ → Result Reader Refusal → List ℕ → List Line
on_open tag (Ok r) work = frame_lines (length tag) tag r 0 work
on_open tag (Err k) work = line (refused_line k.number) work ∷ []

-- ---- a tag

unfoldable pub opened_lines : List ℕ → List ℕ → List Line
opened_lines tag work = on_open tag (open_of tag work).0 (open_of tag work).1

-- a header that is refused has no line
abbrev pub on_header : Result Header Refusal → List ℕ → List ℕ → List Line
on_header (Ok h) tag work = line (header_line h) work ∷ opened_lines tag work
on_header (Err k) tag work = line (refused_line k.number) work ∷ []

unfoldable pub lines_of : List ℕ → List ℕ → List Line
lines_of tag work = on_header (header_of tag) tag work

-- the whole text
unfoldable pub text_of : List Line → List ℕ
text_of [] = []
text_of (l ∷ ls) = l.text ++ text_of ls

-- ---- the program

-- how many bytes of a tag the listing program takes, and how many it lends for the text, which are enough (`Room`, crates/room)
abbrev pub input_room : ℕ
input_room = 65536

abbrev pub text_room : ℕ
text_room = 1048576
