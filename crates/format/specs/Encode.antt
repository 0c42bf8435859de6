-- Writing: the checks of a record, its frame, and a tag of frames (document 01, "Writing", "Refusal numbers"; 2.4.0 structure, sections 3.1 and 4). Assumes nothing.
use Rattle.std.specs.Prelude.{ℕ, ◌+◌, ◌%◌, ◌^◌, Bool, true, false, not, ◌&&◌, ◌||◌, List, [], ◌∷◌, ◌++◌, length, get_or, drop, ltb, leb, eqb}
use Rattle.format.specs.Bytes.{pick, first, zeros, zero_at, zeros_in, among, ascii}
use Rattle.format.specs.Numbers.{bytes_of, synchsafe}
use Rattle.format.specs.Unsynch.{unsynchronised, is_on}
use Rattle.format.specs.Ids.{id_len, is_id, kind_of, kind_number, altered_ids}
use Rattle.format.specs.Text.{text_end, text_body}
use Rattle.format.specs.Popularimeter.{popularimeter_body}
use Rattle.format.specs.Table.{width_checks, fit, table_body}
use Rattle.format.specs.Chapter.{chapter_body, contents_body}
use Rattle.format.specs.Record.{Content, text, popularimeter, table, chapter, contents, raw, Rec}
use Rattle.format.specs.Walk.{walked}
use Rattle.format.specs.declared.Version.{Version}
use Rattle.format.specs.declared.Version.TheVariants.{Id3v22, Id3v23, Id3v24}
use Rattle.format.specs.declared.Mode.{Mode}
use Rattle.format.specs.declared.Kind.{Kind}

-- ---- the checks of a record, each its number or 0; a kind that a check does not speak of passes it

abbrev pub kind_in : Content → Kind
kind_in (text e s) = Kind.Text
kind_in (popularimeter user r c) = Kind.Popularimeter
kind_in (table f b m v w ds) = Kind.Table
kind_in (chapter element a b c d run) = Kind.Chapter
kind_in (contents element t o children run) = Kind.Contents
kind_in (raw body) = Kind.Raw

abbrev pub is_raw : Kind → Bool
is_raw k = eqb (kind_number k) 5

abbrev pub same_kind : Kind → Kind → Bool
same_kind k j = eqb (kind_number k) (kind_number j)

-- 21: the id's characters, or not of the record's kind
abbrev pub id_check : Version → Rec → ℕ
id_check v r = pick (is_id v r.id && (is_raw (kind_in r.content) || same_kind (kind_of v r.id) (kind_in r.content))) 0 21

-- 25: raw under an id of a kind; marked short or compressed
abbrev pub raw_check : Version → Rec → ℕ
raw_check v r =
    pick ((is_raw (kind_in r.content) && not (is_raw (kind_of v r.id))) || (r.short || r.compressed)) 25 0

-- 12: the text's encoding
abbrev pub encoding_check : Content → ℕ
encoding_check (text e s) = pick (leb 4 e) 12 0
encoding_check (popularimeter user r c) = 0
encoding_check (table f b m v w ds) = 0
encoding_check (chapter element a b c d run) = 0
encoding_check (contents element t o children run) = 0
encoding_check (raw body) = 0

-- 26: the reader would end the text early
abbrev pub text_check : Version → Content → ℕ
text_check v (text e s) = pick (eqb (text_end v e s) (length s)) 0 26
text_check v (popularimeter user r c) = 0
text_check v (table f b m v' w ds) = 0
text_check v (chapter element a b c d run) = 0
text_check v (contents element t o children run) = 0
text_check v (raw body) = 0

-- 27: a zero in the user or the element id
abbrev pub zero_check : List ℕ → ℕ
zero_check name = pick (eqb (zero_at name) (length name)) 0 27

abbrev pub name_check : Content → ℕ
name_check (text e s) = 0
name_check (popularimeter user r c) = zero_check user
name_check (table f b m v w ds) = 0
name_check (chapter element a b c d run) = zero_check element
name_check (contents element t o children run) = zero_check element
name_check (raw body) = 0

-- the last byte, or the one given
unfoldable pub last_or : ℕ → List ℕ → ℕ
last_or d [] = d
last_or d (x ∷ s) = last_or x s

-- 28: over 255 children, or any given and not ending in a zero
abbrev pub children_check : Content → ℕ
children_check (text e s) = 0
children_check (popularimeter user r c) = 0
children_check (table f b m v w ds) = 0
children_check (chapter element a b c d run) = 0
children_check (contents element t o children run) = pick (leb (zeros_in children) 255 && eqb (last_or 0 children) 0) 0 28
children_check (raw body) = 0

-- 29: the run of subframes, which lie at depth 2
abbrev pub run_refusal : Version → List ℕ → ℕ
run_refusal v run = pick (eqb (walked true v 2 run []).0 0) 0 29

abbrev pub run_check : Version → Content → ℕ
run_check v (text e s) = 0
run_check v (popularimeter user r c) = 0
run_check v (table f b m v' w ds) = 0
run_check v (chapter element a b c d run) = run_refusal v run
run_check v (contents element t o children run) = run_refusal v run
run_check v (raw body) = 0

-- 30, 31, 32: the widths; 33: the deviations and the steps; 34: references of four bits, odd in number
abbrev pub deviation_checks : ℕ → ℕ → ℕ → ℕ → List ℕ → List ℕ
deviation_checks bytes millis v w ds =
    pick ((eqb (length ds % 2) 0 && fit v w ds) && (ltb bytes (2 ^ 24) && ltb millis (2 ^ 24))) 0 33
    ∷ pick (eqb (v + w) 4 && eqb (length ds % 4) 2) 34 0
    ∷ []

abbrev pub table_checks : Content → List ℕ
table_checks (text e s) = []
table_checks (popularimeter user r c) = []
table_checks (table f b m v w ds) = width_checks v w ++ deviation_checks b m v w ds
table_checks (chapter element a b c d run) = []
table_checks (contents element t o children run) = []
table_checks (raw body) = []

-- 21 down to 34, in the table's order
abbrev pub record_checks : Version → Rec → List ℕ
record_checks v r =
    id_check v r
    ∷ raw_check v r
    ∷ encoding_check r.content
    ∷ text_check v r.content
    ∷ name_check r.content
    ∷ children_check r.content
    ∷ run_check v r.content
    ∷ table_checks r.content

-- ---- a frame

unfoldable pub body_bytes : Content → List ℕ
body_bytes (text e s) = text_body e s
body_bytes (popularimeter user r c) = popularimeter_body user r c
body_bytes (table f b m v w ds) = table_body f b m v w ds
body_bytes (chapter element a b c d run) = chapter_body element a b c d run
body_bytes (contents element t o children run) = contents_body element t o children run
body_bytes (raw body) = body

-- 2.4 bodies are unsynchronised one by one
abbrev pub stored_of : Version → Mode → List ℕ → List ℕ
stored_of Id3v22 m b = b
stored_of Id3v23 m b = b
stored_of Id3v24 m b = unsynchronised m b

-- id, size and flags before a stored body
abbrev pub head_bytes : Version → Mode → ℕ → ℕ → List ℕ
head_bytes Id3v22 m id size = bytes_of 3 id ++ bytes_of 3 size
head_bytes Id3v23 m id size = bytes_of 4 id ++ (bytes_of 4 size ++ (0 ∷ 0 ∷ []))
head_bytes Id3v24 m id size = bytes_of 4 id ++ (synchsafe size ++ (0 ∷ pick (is_on m) 2 0 ∷ []))

unfoldable pub encode : Version → Mode → Rec → List ℕ
encode v m r =
    let stored = stored_of v m (body_bytes r.content) in
    head_bytes v m r.id (length stored) ++ stored

-- 22, 23: a 2.2 body; 24: a stored body of 2.3 and 2.4
abbrev pub size_checks : Version → Mode → Rec → List ℕ
size_checks Id3v22 m r =
    pick (eqb (length (body_bytes r.content)) 0) 22 0 ∷ pick (leb (2 ^ 24) (length (body_bytes r.content))) 23 0 ∷ []
size_checks Id3v23 m r = pick (leb (2 ^ 28) (length (stored_of Id3v23 m (body_bytes r.content)))) 24 0 ∷ []
size_checks Id3v24 m r = pick (leb (2 ^ 28) (length (stored_of Id3v24 m (body_bytes r.content)))) 24 0 ∷ []

-- ---- adding: one list of checks, of which a frame that an altered file loses meets those down to 34

abbrev pub is_lost : Version → Bool → ℕ → Bool
is_lost v altered id = altered && among id (altered_ids v)

abbrev pub checks_of : Version → Mode → Bool → Rec → List ℕ
checks_of v m altered r = record_checks v r ++ pick (is_lost v altered r.id) [] (size_checks v m r)

unfoldable pub refusal_of : Version → Mode → Bool → Rec → ℕ
refusal_of v m altered r = first (checks_of v m altered r)

-- ---- a tag: header, frames, padding

-- 2.2 and 2.3 frames are unsynchronised as a whole
abbrev pub whole_of : Version → Mode → List ℕ → List ℕ
whole_of Id3v22 m frames = unsynchronised m frames
whole_of Id3v23 m frames = unsynchronised m frames
whole_of Id3v24 m frames = frames

abbrev pub edition_byte : Version → ℕ
edition_byte Id3v22 = 2
edition_byte Id3v23 = 3
edition_byte Id3v24 = 4

abbrev pub flags_byte : Mode → ℕ
flags_byte m = pick (is_on m) 0x80 0

abbrev pub region_bytes : Version → Mode → ℕ → List ℕ → List ℕ
region_bytes v m padding frames = whole_of v m frames ++ zeros padding

unfoldable pub tag_of : Version → Mode → ℕ → List ℕ → List ℕ
tag_of v m padding frames =
    ascii "ID3"
    ++ (edition_byte v
    ∷ 0
    ∷ flags_byte m
    ∷ synchsafe (length (region_bytes v m padding frames)) ++ region_bytes v m padding frames)
