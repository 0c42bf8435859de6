-- Worked cases of reading, by computation: frames of document 01, of the ID3v2 texts, and the smallest for each refusal 5, 7 to 14 and 35. Assumes nothing.
use mathlib.Core.Path.{◌≡◌, refl}
use Prim.Native.Nat.{ℕ, zero, suc, ◌-◌, ◌^◌}
use mathlib.Core.Bool.{Bool, true, false}
use mathlib.Core.List.{List, [], ◌∷◌, ◌++◌}
use lib.ListN.{length, replicate}
use Rattle.format.specs.Bytes.{first, named, ascii, zero_at, zeros_in, zeros}
use Rattle.format.specs.Numbers.{digits, onto, synchsafe, synchsafe_refusal, from_synchsafe, bytes_of}
use Rattle.format.specs.Unsynch.{resync, unsync, unsynchronised}
use Rattle.format.specs.Ids.{utf8_from, is_utf8, kind_of}
use Rattle.format.specs.Frame.{head_of}
use Rattle.format.specs.Text.{zero_pair_at, trimmed, trimmed_pairs, closing, closing_pairs}
use Rattle.format.specs.Table.{spread, gathered, unpack}
use Rattle.format.specs.Chapter.{names_len}
use Rattle.format.specs.Record.{body_refusal, run_of, parts_of, Rec, Content, text, popularimeter, table, chapter, contents, raw, view_of}
use Rattle.format.specs.Walk.{inside_of, resynced_of, on_head, step_of, walk_bytes, walked, on_shown, frame_of}
use Rattle.format.specs.Answers.{shown_number, shown_view}
use Rattle.format.specs.declared.Version.{Version}
use Rattle.format.specs.declared.Version.TheVariants.{Id3v22, Id3v23, Id3v24}
use Rattle.format.specs.declared.Mode.TheVariants.{Crate}

-- ---- what one frame reads as: the refusal or 0, the record if there is one, and the work buffer then

record Reading : Type 0 where
  number : ℕ
  shown : List Rec
  work : List ℕ

reading : Version → List ℕ → List ℕ → Reading
unfolding
    first zero_at zeros_in digits onto resync utf8_from kind_of head_of zero_pair_at trimmed trimmed_pairs closing closing_pairs spread gathered unpack names_len body_refusal
    run_of parts_of view_of inside_of resynced_of on_head step_of walk_bytes walked on_shown frame_of
reading v s room =
    let o = frame_of v false 0 0 s room in
    record { number = shown_number o.0; shown = shown_view o.0 s o.1; work = o.1 }

-- a record that is whole and not compressed
plain : ℕ → Content → Rec
plain id c = record { id = id; short = false; compressed = false; content = c }

nothing : List ℕ → Reading
nothing work = record { number = 0; shown = []; work = work }

refused : ℕ → List ℕ → Reading
refused k work = record { number = k; shown = []; work = work }

shows : Rec → List ℕ → Reading
shows r work = record { number = 0; shown = r ∷ []; work = work }

-- a 2.4 and a 2.3 frame with flags
frame24 : List ℕ → ℕ → List ℕ → List ℕ
unfolding digits
frame24 id flags s = id ++ (synchsafe (length s) ++ (0 ∷ flags ∷ s))

frame23 : List ℕ → ℕ → List ℕ → List ℕ
unfolding digits
frame23 id flags s = id ++ (bytes_of 4 (length s) ++ (0 ∷ flags ∷ s))

-- ---- numbers

-- document 01, "Numbers and bytes": bit 7 is not cleared
one_ff : from_synchsafe (0x00 ∷ 0x00 ∷ 0x01 ∷ 0xFF ∷ []) ≡ 255
one_ff = refl

all_ff : from_synchsafe (0xFF ∷ 0xFF ∷ 0xFF ∷ 0xFF ∷ []) ≡ 0x1FFFFFFF
all_ff = refl

last_bit : from_synchsafe (0x00 ∷ 0x00 ∷ 0x00 ∷ 0x80 ∷ []) ≡ 128
last_bit = refl

too_large : synchsafe_refusal 268435456 ≡ 24
too_large = refl

-- 2.3.0, section 3.1: a tag of 257 bytes
of_257 : from_synchsafe (0x00 ∷ 0x00 ∷ 0x02 ∷ 0x01 ∷ []) ≡ 257
of_257 = refl

-- ---- the quiet end

empty : reading Id3v24 [] (7 ∷ []) ≡ nothing (7 ∷ [])
unfolding reading nothing
empty = refl

nine_bytes : reading Id3v24 (ascii "TIT2" ++ zeros 5) [] ≡ nothing []
unfolding reading nothing
nine_bytes = refl

five_bytes : reading Id3v22 (ascii "TT2" ++ zeros 2) [] ≡ nothing []
unfolding reading nothing
five_bytes = refl

padding : reading Id3v23 (zeros 12) [] ≡ nothing []
unfolding reading nothing
padding = refl

-- ---- popularimeters

-- document 01, "The listing program"
listed : reading Id3v24 (frame24 (ascii "POPM") 0 (0x61 ∷ 0x00 ∷ 0x05 ∷ 0x01 ∷ zeros 4)) []
    ≡ shows (plain (named "POPM") (popularimeter (0x61 ∷ []) 5 4294967296)) []
unfolding reading shows plain frame24
listed = refl

-- a counter stored as FF 00 is 65,280
owed : reading Id3v22 (ascii "POP" ++ (0 ∷ 0 ∷ 4 ∷ 0 ∷ 9 ∷ 0xFF ∷ 0x00 ∷ [])) []
    ≡ shows (plain (named "POP") (popularimeter [] 9 65280)) []
unfolding reading shows plain
owed = refl

-- no counter is 0
none_counted : reading Id3v23 (frame23 (ascii "POPM") 0 (0 ∷ 9 ∷ [])) [] ≡ shows (plain (named "POPM") (popularimeter [] 9 0)) []
unfolding reading shows plain frame23
none_counted = refl

-- a longer one counts whole: nine bytes, and a box's twelve, an hour
nine_counted : reading Id3v23 (frame23 (ascii "POPM") 0 (0 ∷ 9 ∷ zeros 8 ++ (7 ∷ []))) [] ≡ shows (plain (named "POPM") (popularimeter [] 9 7)) []
unfolding reading shows plain frame23
nine_counted = refl

twelve_counted : reading Id3v22 (ascii "POP" ++ (0 ∷ 0 ∷ 14 ∷ 0 ∷ 9 ∷ zeros 8 ++ (0x00 ∷ 0x36 ∷ 0xEE ∷ 0x80 ∷ []))) []
    ≡ shows (plain (named "POP") (popularimeter [] 9 3600000)) []
unfolding reading shows plain
twelve_counted = refl

-- the largest that fits 64 bits, and the next
largest : reading Id3v24 (frame24 (ascii "POPM") 0 (0 ∷ 9 ∷ 0 ∷ replicate 8 0xFF)) [] ≡ shows (plain (named "POPM") (popularimeter [] 9 (2 ^ 64 - 1))) []
unfolding reading shows plain frame24
largest = refl

over_24 : reading Id3v24 (frame24 (ascii "POPM") 0 (0 ∷ 9 ∷ 1 ∷ zeros 8)) [] ≡ refused 35 []
unfolding reading refused frame24
over_24 = refl

over_23 : reading Id3v23 (frame23 (ascii "POPM") 0 (0 ∷ 9 ∷ 0 ∷ 1 ∷ zeros 8)) [] ≡ refused 35 []
unfolding reading refused frame23
over_23 = refl

-- of the bytes that are there: one of nine is missing, then one of ten
short_counted : reading Id3v22 (ascii "POP" ++ (0 ∷ 0 ∷ 11 ∷ 0 ∷ 9 ∷ 1 ∷ zeros 7)) []
    ≡ shows (record { id = named "POP"; short = true; compressed = false; content = popularimeter [] 9 (2 ^ 56) }) []
unfolding reading shows
short_counted = refl

short_over : reading Id3v22 (ascii "POP" ++ (0 ∷ 0 ∷ 12 ∷ 0 ∷ 9 ∷ 1 ∷ zeros 8)) [] ≡ refused 35 []
unfolding reading refused
short_over = refl

-- 11 comes first
no_zero : reading Id3v24 (frame24 (ascii "POPM") 0 (replicate 12 0xFF)) [] ≡ refused 11 []
unfolding reading refused frame24
no_zero = refl

no_rating : reading Id3v24 (frame24 (ascii "POPM") 0 (0x61 ∷ 0x00 ∷ [])) [] ≡ refused 11 []
unfolding reading refused frame24
no_rating = refl

-- ---- texts

first_zero : reading Id3v23 (frame23 (ascii "TIT2") 0 (0 ∷ 0x41 ∷ 0x00 ∷ 0x42 ∷ [])) [] ≡ shows (plain (named "TIT2") (text 0 (0x41 ∷ []))) []
unfolding reading shows plain frame23
first_zero = refl

-- the first zero pair at an even place
first_pair : reading Id3v22 (ascii "TT2" ++ (0 ∷ 0 ∷ 8 ∷ 1 ∷ 0x41 ∷ 0x00 ∷ 0x00 ∷ 0x42 ∷ 0x00 ∷ 0x00 ∷ 0x43 ∷ [])) []
    ≡ shows (plain (named "TT2") (text 1 (0x41 ∷ 0x00 ∷ 0x00 ∷ 0x42 ∷ []))) []
unfolding reading shows plain
first_pair = refl

-- `find_closing_delim` by pairs: a last odd byte goes where a pair from index 2 on is not zero
odd_dropped : closing_pairs (0x41 ∷ 0x41 ∷ 0x41 ∷ 0x41 ∷ 0x41 ∷ []) ≡ 4
unfolding closing_pairs trimmed_pairs
odd_dropped = refl

odd_stays : closing_pairs (0x41 ∷ 0x41 ∷ 0x41 ∷ []) ≡ 3
unfolding closing_pairs trimmed_pairs
odd_stays = refl

all_zero_stays : closing (0x41 ∷ 0x00 ∷ 0x00 ∷ []) ≡ 3
unfolding closing trimmed
all_zero_stays = refl

no_encoding : reading Id3v24 (frame24 (ascii "TIT2") 0 []) [] ≡ refused 11 []
unfolding reading refused frame24
no_encoding = refl

encoding_4 : reading Id3v24 (frame24 (ascii "TIT2") 0 (4 ∷ 0x41 ∷ [])) [] ≡ refused 12 []
unfolding reading refused frame24
encoding_4 = refl

-- TXXX and TXX are raw
user_text : reading Id3v24 (frame24 (ascii "TXXX") 0 (9 ∷ [])) [] ≡ shows (plain (named "TXXX") (raw (9 ∷ []))) []
unfolding reading shows plain frame24
user_text = refl

-- ---- tables

-- document 01, "Five kinds": D0 reads as two references
two_references : reading Id3v24 (frame24 (ascii "MLLT") 0 (0 ∷ 1 ∷ 0 ∷ 0 ∷ 2 ∷ 0 ∷ 0 ∷ 3 ∷ 2 ∷ 2 ∷ 0xD0 ∷ [])) []
    ≡ shows (plain (named "MLLT") (table 1 2 3 2 2 (3 ∷ 1 ∷ 0 ∷ 0 ∷ []))) []
unfolding reading shows plain frame24
two_references = refl

-- as many references as fit whole
cut_reference : reading Id3v22 (ascii "MLL" ++ (0 ∷ 0 ∷ 12 ∷ zeros 8 ++ (4 ∷ 8 ∷ 0xA5 ∷ 0xC3 ∷ []))) []
    ≡ shows (plain (named "MLL") (table 0 0 0 4 8 (0x0A ∷ 0x5C ∷ []))) []
unfolding reading shows plain
cut_reference = refl

nine_of_ten : reading Id3v24 (frame24 (ascii "MLLT") 0 (zeros 9)) [] ≡ refused 11 []
unfolding reading refused frame24
nine_of_ten = refl

width_0 : reading Id3v24 (frame24 (ascii "MLLT") 0 (zeros 8 ++ (0 ∷ 8 ∷ []))) [] ≡ refused 30 []
unfolding reading refused frame24
width_0 = refl

width_sum : reading Id3v24 (frame24 (ascii "MLLT") 0 (zeros 8 ++ (4 ∷ 5 ∷ []))) [] ≡ refused 31 []
unfolding reading refused frame24
width_sum = refl

-- ---- short bodies, data lengths, compression

short_24 : reading Id3v24 (ascii "XABC" ++ (0 ∷ 0 ∷ 0 ∷ 3 ∷ 0 ∷ 0 ∷ 1 ∷ 2 ∷ [])) []
    ≡ shows (record { id = named "XABC"; short = true; compressed = false; content = raw (1 ∷ 2 ∷ []) }) []
unfolding reading shows
short_24 = refl

short_22 : reading Id3v22 (ascii "XAB" ++ (0 ∷ 0 ∷ 3 ∷ 1 ∷ 2 ∷ [])) []
    ≡ shows (record { id = named "XAB"; short = true; compressed = false; content = raw (1 ∷ 2 ∷ []) }) []
unfolding reading shows
short_22 = refl

short_23 : reading Id3v23 (ascii "XABC" ++ (0 ∷ 0 ∷ 0 ∷ 3 ∷ 0 ∷ 0 ∷ 1 ∷ 2 ∷ [])) [] ≡ refused 5 []
unfolding reading refused
short_23 = refl

-- 2.4: a size below the data length's four bytes leaves an empty body
length_24 : reading Id3v24 (ascii "XABC" ++ (0 ∷ 0 ∷ 0 ∷ 3 ∷ 0 ∷ 1 ∷ 0 ∷ 0 ∷ 0 ∷ 0 ∷ 9 ∷ [])) [] ≡ shows (plain (named "XABC") (raw [])) []
unfolding reading shows plain
length_24 = refl

length_23 : reading Id3v23 (ascii "XABC" ++ (0 ∷ 0 ∷ 0 ∷ 3 ∷ 0 ∷ 0x80 ∷ 0 ∷ 0 ∷ 0 ∷ 0 ∷ 9 ∷ [])) [] ≡ refused 10 []
unfolding reading refused
length_23 = refl

no_length : reading Id3v24 (ascii "XABC" ++ (0 ∷ 0 ∷ 0 ∷ 3 ∷ 0 ∷ 1 ∷ 0 ∷ 0 ∷ 0 ∷ [])) [] ≡ refused 5 []
unfolding reading refused
no_length = refl

compressed_23 : reading Id3v23 (frame23 (ascii "TIT2") 0x80 (0 ∷ 0 ∷ 0 ∷ 9 ∷ 0x78 ∷ 0x9C ∷ [])) []
    ≡ shows (record { id = named "TIT2"; short = false; compressed = true; content = raw (0x78 ∷ 0x9C ∷ []) }) []
unfolding reading shows frame23
compressed_23 = refl

-- compressed and flagged 0002: the body as it is stored
compressed_24 : reading Id3v24 (frame24 (ascii "POPM") 0x0A (0xFF ∷ 0x00 ∷ [])) []
    ≡ shows (record { id = named "POPM"; short = false; compressed = true; content = raw (0xFF ∷ 0x00 ∷ []) }) []
unfolding reading shows frame24
compressed_24 = refl

-- ---- ids and flags

-- RFC 3629, section 7: overlong forms, surrogates, what is above U+10FFFF
overlong : is_utf8 (0xC0 ∷ 0x80 ∷ []) ≡ false
unfolding utf8_from
overlong = refl

overlong_3 : is_utf8 (0xE0 ∷ 0x9F ∷ 0xBF ∷ []) ≡ false
unfolding utf8_from
overlong_3 = refl

surrogate : is_utf8 (0xED ∷ 0xA0 ∷ 0x8C ∷ []) ≡ false
unfolding utf8_from
surrogate = refl

above : is_utf8 (0xF4 ∷ 0x90 ∷ 0x80 ∷ 0x80 ∷ []) ≡ false
unfolding utf8_from
above = refl

last : is_utf8 (0xF4 ∷ 0x8F ∷ 0xBF ∷ 0xBF ∷ []) ≡ true
unfolding utf8_from
last = refl

bad_id : reading Id3v24 (frame24 (0x54 ∷ 0x41 ∷ 0x80 ∷ 0x42 ∷ []) 0 []) [] ≡ refused 7 []
unfolding reading refused frame24
bad_id = refl

encrypted_23 : reading Id3v23 (frame23 (ascii "XABC") 0x60 []) [] ≡ refused 8 []
unfolding reading refused frame23
encrypted_23 = refl

encrypted_24 : reading Id3v24 (frame24 (ascii "XABC") 0x44 []) [] ≡ refused 8 []
unfolding reading refused frame24
encrypted_24 = refl

grouped_23 : reading Id3v23 (frame23 (ascii "XABC") 0x20 []) [] ≡ refused 9 []
unfolding reading refused frame23
grouped_23 = refl

grouped_24 : reading Id3v24 (frame24 (ascii "XABC") 0x40 []) [] ≡ refused 9 []
unfolding reading refused frame24
grouped_24 = refl

-- ---- resynchronising

-- to the front of the work buffer; the counter owed is 65,280
resynced : reading Id3v24 (frame24 (ascii "POPM") 2 (0 ∷ 9 ∷ 0xFF ∷ 0x00 ∷ 0x00 ∷ [])) (7 ∷ 7 ∷ 7 ∷ 7 ∷ 7 ∷ [])
    ≡ shows (plain (named "POPM") (popularimeter [] 9 65280)) (0 ∷ 9 ∷ 0xFF ∷ 0x00 ∷ 7 ∷ [])
unfolding reading shows plain frame24
resynced = refl

-- a counter that does not fit, once it is resynchronised: FF 00 and seven more
resynced_over : reading Id3v24 (frame24 (ascii "POPM") 2 (0 ∷ 9 ∷ 0xFF ∷ 0x00 ∷ 0x00 ∷ zeros 7)) (replicate 12 7) ≡ refused 35 (0 ∷ 9 ∷ 0xFF ∷ zeros 8 ++ (7 ∷ []))
unfolding reading refused frame24
resynced_over = refl

-- no room: nothing is written
no_room : reading Id3v24 (frame24 (ascii "POPM") 2 (0 ∷ 9 ∷ 0xFF ∷ 0x00 ∷ 0x00 ∷ [])) (7 ∷ 7 ∷ 7 ∷ []) ≡ refused 14 (7 ∷ 7 ∷ 7 ∷ [])
unfolding reading refused frame24
no_room = refl

-- ---- chapters

-- a body of a chapter without a name, with its subframes
chap : List ℕ → List ℕ
chap run = 0 ∷ zeros 16 ++ run

chapter_in_chapter : reading Id3v23 (frame23 (ascii "CHAP") 0 (chap (frame23 (ascii "CHAP") 0 (chap [])))) []
    ≡ shows (plain (named "CHAP") (chapter [] 0 0 0 0 (frame23 (ascii "CHAP") 0 (chap [])))) []
unfolding reading shows plain frame23 chap
chapter_in_chapter = refl

-- flags 3: top level and ordered; two children; a subframe
toc : reading Id3v24 (frame24 (ascii "CTOC") 0 (ascii "t" ++ (0 ∷ 3 ∷ 2 ∷ 0x61 ∷ 0 ∷ 0x62 ∷ 0 ∷ frame24 (ascii "TIT2") 0 (0 ∷ [])))) []
    ≡ shows (plain (named "CTOC") (contents (ascii "t") true true (0x61 ∷ 0 ∷ 0x62 ∷ 0 ∷ []) (frame24 (ascii "TIT2") 0 (0 ∷ [])))) []
unfolding reading shows plain frame24
toc = refl

missing_child : reading Id3v24 (frame24 (ascii "CTOC") 0 (ascii "t" ++ (0 ∷ 3 ∷ 2 ∷ 0x61 ∷ 0 ∷ 0x62 ∷ []))) [] ≡ refused 11 []
unfolding reading refused frame24
missing_child = refl

-- a refusal inside refuses the outer frame
inside : reading Id3v24 (frame24 (ascii "CHAP") 0 (chap (frame24 (ascii "TIT2") 0 (4 ∷ [])))) [] ≡ refused 12 []
unfolding reading refused frame24 chap
inside = refl

-- at every depth
over_inside : reading Id3v23 (frame23 (ascii "CHAP") 0 (chap (frame23 (ascii "CHAP") 0 (chap (frame23 (ascii "POPM") 0 (0 ∷ 9 ∷ 1 ∷ zeros 8)))))) [] ≡ refused 35 []
unfolding reading refused frame23 chap
over_inside = refl

-- A resynchronised chapter stands at the front of the room; its subframes' bodies go after it, siblings at one place: FF 00 05, then 03 04 over it.
siblings : List ℕ
unfolding frame24
siblings = frame24 (ascii "XABC") 2 (0xFF ∷ 0x00 ∷ 0x00 ∷ 5 ∷ []) ++ frame24 (ascii "XABC") 2 (3 ∷ 4 ∷ [])

in_resynced : List ℕ
unfolding frame24 chap siblings unsync
in_resynced = frame24 (ascii "CHAP") 2 (unsynchronised Crate (chap siblings))

behind_it : reading Id3v24 in_resynced (replicate 48 7)
    ≡ shows (plain (named "CHAP") (chapter [] 0 0 0 0 siblings)) (chap siblings ++ (3 ∷ 4 ∷ 5 ∷ 7 ∷ 7 ∷ []))
unfolding reading shows plain chap siblings in_resynced
behind_it = refl

-- One byte less than the first sibling needs: the chapter is there, its subframe is not.
behind_full : reading Id3v24 in_resynced (replicate 45 7) ≡ refused 14 (chap siblings ++ (7 ∷ 7 ∷ []))
unfolding reading refused chap siblings in_resynced
behind_full = refl

-- depth 8 is read, depth 9 refused
nest : ℕ → List ℕ
unfolding frame23 chap
nest zero = []
nest (suc k) = frame23 (ascii "CHAP") 0 (chap (nest k))

depth_8 : reading Id3v23 (nest 8) [] ≡ shows (plain (named "CHAP") (chapter [] 0 0 0 0 (nest 7))) []
unfolding reading shows plain nest
depth_8 = refl

depth_9 : reading Id3v23 (nest 9) [] ≡ refused 13 []
unfolding reading refused nest
depth_9 = refl
