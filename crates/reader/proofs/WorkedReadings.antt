-- Worked cases of opening and stepping, by computation: document 01's listing, the smallest tag for each refusal 1 to 6 and 14, what stays after the end and after a refusal. Assumes nothing.
use mathlib.Core.Path.{◌≡◌, refl}
use Prim.Native.Nat.{ℕ, zero, suc}
use mathlib.Core.Bool.{true, false}
use mathlib.Core.List.{List, [], ◌∷◌, ◌++◌}
use lib.ListN.{length, replicate}
use Rattle.format.specs.Bytes.{first, named, ascii, zero_at, zeros_in}
use Rattle.format.specs.Numbers.{digits, onto}
use Rattle.format.specs.Unsynch.{resync}
use Rattle.format.specs.Ids.{utf8_from, kind_of}
use Rattle.format.specs.Header.{ext_of, header_refusal}
use Rattle.format.specs.Frame.{head_of}
use Rattle.format.specs.Text.{zero_pair_at, trimmed, trimmed_pairs, closing, closing_pairs}
use Rattle.format.specs.Table.{spread, gathered, unpack}
use Rattle.format.specs.Chapter.{names_len}
use Rattle.format.specs.Record.{body_refusal, run_of, parts_of, Rec, Content, popularimeter, raw, view_of}
use Rattle.format.specs.Walk.{inside_of, resynced_of, on_head, walk_bytes, walked, on_shown, frame_of}
use Rattle.format.specs.Walk as walk
use Rattle.format.specs.Listing.{decimal_in, hex_in, hex, tag_line, frame_line, end_line}
use Rattle.reader.specs.Reader.{header_of, open_whole, open_of, step_of}
use Rattle.reader.specs.declared.Reader.{Reader}
use Rattle.reader.specs.Reader.{Step}
use Rattle.std.specs.Prelude.{Result, Ok, Err, Some, None}
use Rattle.format.specs.declared.refusals.Refusal.{Refusal}
use Rattle.format.specs.Refusals.{refusal}
use Rattle.reader.specs.declared.Header.{Header}

-- ---- what a caller sees: records, the end and refusals, in so many steps

data Seen : Type 0 where
  frame : Rec → Seen
  end : Seen
  refused : ℕ → Seen

-- of one step, and of those that follow with the reader and the work buffer as it left them
on_step : (Reader → List ℕ → List Seen) → List ℕ → Step → List ℕ → List Seen
unfolding view_of spread gathered unpack digits onto
on_step go tag (Ok (Some rec), r) work = frame (view_of rec tag work) ∷ go r work
on_step go tag (Ok None, r) work = end ∷ go r work
on_step go tag (Err k, r) work = refused k.number ∷ go r work

steps : ℕ → List ℕ → Reader → List ℕ → List Seen
unfolding
    on_step first zero_at zeros_in digits onto resync utf8_from kind_of head_of zero_pair_at trimmed trimmed_pairs closing closing_pairs names_len body_refusal run_of
    parts_of inside_of resynced_of on_head walk.step_of walk_bytes walked on_shown frame_of step_of
steps zero tag r work = []
steps (suc n) tag r work = on_step (steps n tag) tag (step_of r tag work).0 (step_of r tag work).1

on_open : ℕ → List ℕ → Result Reader Refusal → List ℕ → List Seen
unfolding steps
on_open n tag (Ok r) work = steps n tag r work
on_open n tag (Err k) work = refused k.number ∷ []

sees : ℕ → List ℕ → List ℕ → List Seen
unfolding first digits onto resync ext_of header_refusal open_whole open_of on_open
sees n tag work = on_open n tag (open_of tag work).0 (open_of tag work).1

-- a tag with its edition, flags and size
tag : ℕ → ℕ → ℕ → List ℕ → List ℕ
tag edition flags size s = ascii "ID3" ++ (edition ∷ 0 ∷ flags ∷ 0 ∷ 0 ∷ 0 ∷ size ∷ s)

-- a 2.4 and a 2.3 frame of few bytes, and a 2.2 one
frame4 : List ℕ → ℕ → List ℕ → List ℕ
frame4 id flags s = id ++ (0 ∷ 0 ∷ 0 ∷ length s ∷ 0 ∷ flags ∷ s)

frame3 : List ℕ → List ℕ → List ℕ
frame3 id s = id ++ (0 ∷ 0 ∷ length s ∷ s)

plain : ℕ → Content → Rec
plain id c = record { id = id; short = false; compressed = false; content = c }

-- ---- document 01, "The listing program"

listed : List ℕ
unfolding tag frame4
listed = tag 4 0 18 (frame4 (ascii "POPM") 0 (0x61 ∷ 0x00 ∷ 0x05 ∷ 0x01 ∷ 0 ∷ 0 ∷ 0 ∷ 0 ∷ []))

-- its record, then the end, and the end again
listed_seen : sees 3 listed [] ≡ frame (plain (named "POPM") (popularimeter (0x61 ∷ []) 5 4294967296)) ∷ end ∷ end ∷ []
unfolding sees listed plain
listed_seen = refl

-- the lines of the listing, from the header and from the record
head_line : Result Header Refusal → List ℕ
unfolding decimal_in tag_line
head_line (Ok h) = tag_line 4 h.size h.flags h.ext
head_line (Err k) = []

record_line : List ℕ → Step → List ℕ
unfolding decimal_in hex_in hex digits frame_line
record_line t (Ok (Some rec), r) =
    frame_line 0 (digits 256 4 rec.heading.id) rec.at rec.body.len rec.heading.short rec.heading.fields (0x61 ∷ [])
record_line t (Ok None, r) = []
record_line t (Err k, r) = []

lines_on : List ℕ → Result Reader Refusal → List ℕ
unfolding steps record_line
lines_on t (Ok r) = record_line t (step_of r t []).0
lines_on t (Err k) = []

lines : List ℕ → List ℕ
unfolding first digits onto ext_of header_refusal header_of open_of head_line lines_on decimal_in end_line
lines t = head_line (header_of t) ++ (lines_on t (open_of t []).0 ++ end_line 1)

listed_lines : lines listed
    ≡ ascii "tag 2.4 size 18 flags 0 ext 0\nframe 0 POPM at 0 body 8 popularimeter whole user 61 rating 5 counter 4294967296\nend 1\n"
unfolding lines listed
listed_lines = refl

-- ---- the header's refusals

nine_bytes : sees 1 (ascii "ID3" ++ (4 ∷ 0 ∷ 0 ∷ 0 ∷ 0 ∷ 0 ∷ [])) [] ≡ refused 1 ∷ []
unfolding sees
nine_bytes = refl

no_tag : sees 1 (ascii "ID4" ++ (4 ∷ 0 ∷ 0 ∷ 0 ∷ 0 ∷ 0 ∷ 0 ∷ [])) [] ≡ refused 1 ∷ []
unfolding sees
no_tag = refl

edition_5 : sees 1 (tag 5 0x4F 0 []) [] ≡ refused 2 ∷ []
unfolding sees tag
edition_5 = refl

low_flags : sees 1 (tag 2 0x41 0 []) [] ≡ refused 3 ∷ []
unfolding sees tag
low_flags = refl

compressed_22 : sees 1 (tag 2 0x40 0 []) [] ≡ refused 4 ∷ []
unfolding sees tag
compressed_22 = refl

-- the six bytes lie inside the tag
five_more : sees 1 (tag 3 0x40 5 (0 ∷ 0 ∷ 0 ∷ 6 ∷ 0 ∷ 0 ∷ [])) [] ≡ refused 5 ∷ []
unfolding sees tag
five_more = refl

small_ext : sees 1 (tag 4 0x40 6 (0 ∷ 0 ∷ 0 ∷ 5 ∷ 0 ∷ 0 ∷ [])) [] ≡ refused 6 ∷ []
unfolding sees tag
small_ext = refl

-- frames begin after the extended header, or at the end if fewer bytes remain
ext_6 : sees 2 (tag 3 0x40 17 (0 ∷ 0 ∷ 0 ∷ 6 ∷ 0 ∷ 0 ∷ frame4 (ascii "XABC") 0 (9 ∷ []))) [] ≡ frame (plain (named "XABC") (raw (9 ∷ []))) ∷ end ∷ []
unfolding sees tag frame4 plain
ext_6 = refl

ext_long : sees 1 (tag 3 0x40 17 (0 ∷ 0 ∷ 0 ∷ 99 ∷ 0 ∷ 0 ∷ frame4 (ascii "XABC") 0 (9 ∷ []))) [] ≡ end ∷ []
unfolding sees tag frame4
ext_long = refl

-- ---- the region

-- nothing after the tag's end is read
cut : sees 2 (tag 4 0 11 (frame4 (ascii "XABC") 0 (9 ∷ []) ++ frame4 (ascii "XABC") 0 (8 ∷ []))) [] ≡ frame (plain (named "XABC") (raw (9 ∷ []))) ∷ end ∷ []
unfolding sees tag frame4 plain
cut = refl

-- 2.2 and 2.3: all is resynchronised to the front of the work buffer
whole_22 : sees 2 (tag 2 0x80 9 (frame3 (ascii "XAB") (0xFF ∷ 0x00 ∷ 0xE0 ∷ []))) (replicate 8 7)
    ≡ frame (record { id = named "XAB"; short = true; compressed = false; content = raw (0xFF ∷ 0xE0 ∷ []) }) ∷ end ∷ []
unfolding sees tag frame3 plain
whole_22 = refl

-- one byte too few: refused before any frame, and nothing is written
whole_full : open_of (tag 2 0x80 9 (frame3 (ascii "XAB") (0xFF ∷ 0x00 ∷ 0xE0 ∷ []))) (replicate 7 7) ≡ (Err (refusal 14), replicate 7 7)
unfolding sees tag frame3
whole_full = refl

-- header flag 80 resynchronises nothing in 2.4
whole_24 : sees 2 (tag 4 0x80 12 (frame4 (ascii "XABC") 0 (0xFF ∷ 0x00 ∷ []))) (replicate 8 7)
    ≡ frame (plain (named "XABC") (raw (0xFF ∷ 0x00 ∷ []))) ∷ end ∷ []
unfolding sees tag frame4 plain
whole_24 = refl

-- ---- a refused reader stays refused with its number

stays_refused : sees 3 (tag 4 0 10 (frame4 (ascii "TIT2") 0 [])) [] ≡ refused 11 ∷ refused 11 ∷ refused 11 ∷ []
unfolding sees tag frame4
stays_refused = refl
