-- Worked cases of the listing, by computation: document 01's example, and a refusal in the header, at opening, in a frame and of a counter. Assumes nothing.
use mathlib.Core.Path.{◌≡◌, refl}
use Prim.Native.Nat.{ℕ}
use mathlib.Core.List.{List, [], ◌∷◌, ◌++◌}
use Rattle.format.specs.Bytes.{first, ascii, zero_at, zeros_in, zeros}
use Rattle.format.specs.Numbers.{digits, onto}
use Rattle.format.specs.Unsynch.{resync}
use Rattle.format.specs.Ids.{utf8_from, kind_of}
use Rattle.format.specs.Header.{ext_of, header_refusal}
use Rattle.format.specs.Frame.{head_of}
use Rattle.format.specs.Record.{body_refusal, run_of, parts_of}
use Rattle.format.specs.Walk.{inside_of, resynced_of, on_head, walk_bytes, walked, on_shown, frame_of}
use Rattle.format.specs.Walk as walk
use Rattle.format.specs.Listing.{decimal_in, hex_in, hex, tag_line, frame_line, end_line, refused_line}
use Rattle.reader.specs.Reader.{header_of, open_whole, open_of, step_of}
use Rattle.printout.specs.Lines.{frame_lines, opened_lines, lines_of, text_of}

-- what the program prints for a tag with a work buffer
printed : List ℕ → List ℕ → List ℕ
unfolding
    first zero_at zeros_in digits onto resync utf8_from kind_of ext_of header_refusal head_of body_refusal run_of parts_of inside_of resynced_of on_head
    walk.step_of walk_bytes walked on_shown frame_of decimal_in hex_in hex tag_line frame_line end_line refused_line header_of open_whole open_of step_of frame_lines
    opened_lines lines_of text_of
printed tag work = text_of (lines_of tag work)

-- a tag with its edition, flags and size
tag : ℕ → ℕ → ℕ → List ℕ → List ℕ
tag edition flags size s = ascii "ID3" ++ (edition ∷ 0 ∷ flags ∷ 0 ∷ 0 ∷ 0 ∷ size ∷ s)

-- document 01, "The listing program"
example : printed (tag 4 0 18 (ascii "POPM" ++ (0 ∷ 0 ∷ 0 ∷ 8 ∷ 0 ∷ 0 ∷ 0x61 ∷ 0x00 ∷ 0x05 ∷ 0x01 ∷ 0 ∷ 0 ∷ 0 ∷ 0 ∷ []))) []
    ≡ ascii "tag 2.4 size 18 flags 0 ext 0\nframe 0 POPM at 0 body 8 popularimeter whole user 61 rating 5 counter 4294967296\nend 1\n"
unfolding printed tag
example = refl

in_header : printed [] [] ≡ ascii "refused 1\n"
unfolding printed
in_header = refl

at_opening : printed (tag 2 0x80 1 (0xFF ∷ [])) [] ≡ ascii "tag 2.2 size 1 flags 128 ext 0\nrefused 14\n"
unfolding printed tag
at_opening = refl

in_frame : printed (tag 2 0 6 (ascii "TT2" ++ (0 ∷ 0 ∷ 0 ∷ []))) [] ≡ ascii "tag 2.2 size 6 flags 0 ext 0\nrefused 11\n"
unfolding printed tag
in_frame = refl

over : printed (tag 2 0 17 (ascii "POP" ++ (0 ∷ 0 ∷ 11 ∷ 0 ∷ 9 ∷ 1 ∷ zeros 8))) [] ≡ ascii "tag 2.2 size 17 flags 0 ext 0\nrefused 35\n"
unfolding printed tag
over = refl
