-- The frame header of the three editions (document 01, "Header and walk"; 2.2 text, section 3.2; 2.3.0, section 3.3; 2.4.0 structure, section 4). Assumes nothing.
use Rattle.std.specs.Prelude.{ℕ, ◌+◌, ◌-◌, min, Bool, true, false, not, ◌&&◌, ◌||◌, List, [], ◌∷◌, length, take, get_or, ltb, eqb}
use Rattle.std.proofs.Math.Seq.{slice}
use Rattle.format.specs.Bytes.{pick, first, has}
use Rattle.format.specs.Numbers.{number, from_synchsafe}
use Rattle.format.specs.Ids.{id_len, is_utf8}
use Rattle.format.specs.declared.Version.{Version}
use Rattle.format.specs.declared.Version.TheVariants.{Id3v22, Id3v23, Id3v24}
use Rattle.format.specs.declared.Head.{Head}
use Rattle.std.specs.Prelude.{Result, Option, Ok, Err, Some, None}
use Rattle.format.specs.declared.refusals.Refusal.{Refusal}
use Rattle.format.specs.Refusals.{refusal}

-- ---- the header's bytes; s is what is left from the frame's first byte on

abbrev pub head_len : Version → ℕ
head_len Id3v22 = 6
head_len Id3v23 = 10
head_len Id3v24 = 10

-- three plain bytes; four plain; four synchsafe
abbrev pub frame_size : Version → List ℕ → ℕ
frame_size Id3v22 s = number (slice 3 6 s)
frame_size Id3v23 s = number (slice 4 8 s)
frame_size Id3v24 s = from_synchsafe (slice 4 8 s)

-- the low byte of the flags: every bit that is looked at stands in it
abbrev pub frame_flags : List ℕ → ℕ
frame_flags s = get_or s 9 0

abbrev pub is_encrypted : Version → List ℕ → Bool
is_encrypted Id3v22 s = false
is_encrypted Id3v23 s = has 0x40 (frame_flags s)
is_encrypted Id3v24 s = has 0x04 (frame_flags s)

abbrev pub is_grouped : Version → List ℕ → Bool
is_grouped Id3v22 s = false
is_grouped Id3v23 s = has 0x20 (frame_flags s)
is_grouped Id3v24 s = has 0x40 (frame_flags s)

abbrev pub is_compressed : Version → List ℕ → Bool
is_compressed Id3v22 s = false
is_compressed Id3v23 s = has 0x80 (frame_flags s)
is_compressed Id3v24 s = has 0x08 (frame_flags s)

-- unsynchronised by itself
abbrev pub is_flagged : Version → List ℕ → Bool
is_flagged Id3v22 s = false
is_flagged Id3v23 s = false
is_flagged Id3v24 s = has 0x02 (frame_flags s)

-- four bytes of a data length stand before the body
abbrev pub has_length : Version → List ℕ → Bool
has_length Id3v22 s = false
has_length Id3v23 s = has 0x80 (frame_flags s)
has_length Id3v24 s = has 0x01 (frame_flags s)

-- a body must be there whole
abbrev pub wants_whole : Version → Bool
wants_whole Id3v22 = false
wants_whole Id3v23 = true
wants_whole Id3v24 = false

-- ---- the body

abbrev pub length_bytes : Version → List ℕ → ℕ
length_bytes v s = pick (has_length v s) 4 0

abbrev pub body_start : Version → List ℕ → ℕ
body_start v s = head_len v + length_bytes v s

-- the size less the data length, or nothing if it is smaller
abbrev pub body_size : Version → List ℕ → ℕ
body_size v s = frame_size v s - length_bytes v s

abbrev pub is_short : Version → List ℕ → Bool
is_short v s = ltb (length s - body_start v s) (body_size v s)

-- ---- the checks in their order, at a depth; the quiet end comes before them

abbrev pub frame_checks : Version → ℕ → List ℕ → List ℕ
frame_checks v depth s =
    pick (ltb 8 depth) 13 0
    ∷ pick (is_utf8 (take (id_len v) s)) 0 7
    ∷ pick (is_encrypted v s) 8 0
    ∷ pick (is_grouped v s) 9 0
    ∷ pick (ltb (length s) (body_start v s)) 5 0
    ∷ pick (wants_whole v && ltb (frame_size v s) (length_bytes v s)) 10 0
    ∷ pick (wants_whole v && is_short v s) 5 0
    ∷ []

abbrev pub is_end : Version → List ℕ → Bool
is_end v s = ltb (length s) (head_len v) || eqb (get_or s 0 0) 0

-- a frame's header by its fields
abbrev pub head : ℕ → Bool → Bool → Bool → ℕ → ℕ → Head
head id compressed flagged short start len = record { id = id; compressed = compressed; flagged = flagged; short = short; start = start; len = len }

-- nothing more, a refusal, or a header
unfoldable pub head_of : Version → ℕ → List ℕ → Result (Option Head) Refusal
head_of v depth s =
    pick (is_end v s) (Ok None)
    (pick (eqb (first (frame_checks v depth s)) 0)
    (Ok (Some (head (number (take (id_len v) s)) (is_compressed v s) (is_flagged v s) (is_short v s) (body_start v s) (min (body_size v s) (length s - body_start v s)))))
    (Err (refusal (first (frame_checks v depth s)))))
