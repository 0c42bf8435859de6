-- Worked cases of writing, by computation: the smallest record for each refusal 12 and 21 to 34, frames and a tag. Assumes nothing.
use mathlib.Core.Path.{◌≡◌, refl}
use Prim.Native.Nat.{ℕ, zero, suc, ◌*◌, ◌^◌}
use mathlib.Core.Bool.{Bool, true, false}
use mathlib.Core.List.{List, [], ◌∷◌, ◌++◌}
use lib.ListN.{length, get_or}
use Rattle.format.specs.Bytes.{first, named, ascii, zero_at, zeros_in, zeros, among}
use Rattle.format.specs.Numbers.{digits, onto}
use Rattle.format.specs.Unsynch.{resync, unsync}
use Rattle.format.specs.Ids.{utf8_from, all_id_bytes, kind_of}
use Rattle.format.specs.Frame.{head_of}
use Rattle.format.specs.Text.{zero_pair_at, trimmed, trimmed_pairs, closing, closing_pairs}
use Rattle.format.specs.Popularimeter.{stripped, counter_bytes}
use Rattle.format.specs.Table.{spread, gathered, filled, pack, width_checks, fit}
use Rattle.format.specs.Chapter.{names_len}
use Rattle.format.specs.Record.{body_refusal, run_of, Rec, Content, text, popularimeter, table, chapter, contents, raw}
use Rattle.format.specs.Walk.{inside_of, resynced_of, on_head, step_of, walk_bytes, walked}
use Rattle.format.specs.Encode.{last_or, body_bytes, encode, refusal_of, tag_of}
use Rattle.format.specs.declared.Version.{Version}
use Rattle.format.specs.declared.Version.TheVariants.{Id3v22, Id3v23, Id3v24}
use Rattle.format.specs.declared.Mode.{Mode}
use Rattle.format.specs.declared.Mode.TheVariants.{Off, Crate, Standard}

plain : ℕ → Content → Rec
plain id c = record { id = id; short = false; compressed = false; content = c }

-- what a writer with its mark off refuses a record with, and what it writes
refused : Version → ℕ → Content → ℕ
unfolding
    plain first zero_at zeros_in among digits onto resync unsync utf8_from all_id_bytes kind_of head_of zero_pair_at trimmed trimmed_pairs closing closing_pairs stripped
    counter_bytes spread gathered filled pack fit names_len body_refusal run_of inside_of resynced_of on_head step_of walk_bytes walked last_or body_bytes refusal_of
refused v id c = refusal_of v Standard false (plain id c)

writes : Version → Mode → ℕ → Content → List ℕ
unfolding plain zeros_in digits onto unsync stripped counter_bytes spread gathered filled pack body_bytes encode
writes v m id c = encode v m (plain id c)

-- ---- 21 and 25: ids, kinds and marks

three_in_24 : refused Id3v24 (named "POP") (popularimeter [] 0 0) ≡ 21
unfolding refused
three_in_24 = refl

four_in_22 : refused Id3v22 (named "POPM") (popularimeter [] 0 0) ≡ 21
unfolding refused
four_in_22 = refl

lower_case : refused Id3v24 (named "XABc") (raw []) ≡ 21
unfolding refused
lower_case = refl

other_kind : refused Id3v24 (named "TIT2") (popularimeter [] 0 0) ≡ 21
unfolding refused
other_kind = refl

chapter_in_22 : refused Id3v22 (named "CHA") (chapter [] 0 0 0 0 []) ≡ 21
unfolding refused
chapter_in_22 = refl

raw_text : refused Id3v24 (named "TIT2") (raw []) ≡ 25
unfolding refused
raw_text = refl

marked_short : refusal_of Id3v24 Off false (record { id = named "XABC"; short = true; compressed = false; content = raw [] }) ≡ 25
unfolding refused
marked_short = refl

marked_compressed : refusal_of Id3v24 Off false (record { id = named "XABC"; short = false; compressed = true; content = raw [] }) ≡ 25
unfolding refused
marked_compressed = refl

-- ---- 12 and 26: texts

encoding_4 : refused Id3v24 (named "TIT2") (text 4 []) ≡ 12
unfolding refused
encoding_4 = refl

ends_early_23 : refused Id3v23 (named "TIT2") (text 0 (0x41 ∷ 0x00 ∷ [])) ≡ 26
unfolding refused
ends_early_23 = refl

ends_early_24 : refused Id3v24 (named "TIT2") (text 0 (0x41 ∷ 0x42 ∷ 0x00 ∷ [])) ≡ 26
unfolding refused
ends_early_24 = refl

-- Latin-1 41 00 stays in 2.4
stays_24 : refused Id3v24 (named "TIT2") (text 0 (0x41 ∷ 0x00 ∷ [])) ≡ 0
unfolding refused
stays_24 = refl

-- ---- 27, 28, 29: names, children, runs

zero_in_user : refused Id3v24 (named "POPM") (popularimeter (0 ∷ []) 0 0) ≡ 27
unfolding refused
zero_in_user = refl

zero_in_element : refused Id3v23 (named "CHAP") (chapter (0 ∷ []) 0 0 0 0 []) ≡ 27
unfolding refused
zero_in_element = refl

open_child : refused Id3v24 (named "CTOC") (contents [] false false (0x61 ∷ []) []) ≡ 28
unfolding refused
open_child = refl

children_256 : refused Id3v24 (named "CTOC") (contents [] false false (zeros 256) []) ≡ 28
unfolding refused
children_256 = refl

children_255 : refused Id3v24 (named "CTOC") (contents [] false false (zeros 255) []) ≡ 0
unfolding refused
children_255 = refl

-- a run of one frame with a flag byte and a body; its size says s
run24 : ℕ → ℕ → List ℕ → List ℕ
run24 size flags body = ascii "XABC" ++ (0 ∷ 0 ∷ 0 ∷ size ∷ 0 ∷ flags ∷ body)

good_run : refused Id3v24 (named "CHAP") (chapter [] 0 0 0 0 (run24 1 0 (9 ∷ []))) ≡ 0
unfolding refused run24
good_run = refl

short_run : refused Id3v24 (named "CHAP") (chapter [] 0 0 0 0 (run24 2 0 (9 ∷ []))) ≡ 29
unfolding refused run24
short_run = refl

padded_run : refused Id3v24 (named "CHAP") (chapter [] 0 0 0 0 (run24 1 0 (9 ∷ 0 ∷ []))) ≡ 29
unfolding refused run24
padded_run = refl

flagged_run : refused Id3v24 (named "CHAP") (chapter [] 0 0 0 0 (run24 1 2 (9 ∷ []))) ≡ 29
unfolding refused run24
flagged_run = refl

-- also where the flagged frame is compressed
flagged_compressed : refused Id3v24 (named "CHAP") (chapter [] 0 0 0 0 (run24 1 0x0A (9 ∷ []))) ≡ 29
unfolding refused run24
flagged_compressed = refl

-- and in the run of a subframe
flagged_inside : refused Id3v24 (named "CTOC") (contents [] false false [] (writes Id3v24 Off (named "CHAP") (chapter [] 0 0 0 0 (run24 1 2 (9 ∷ []))))) ≡ 29
unfolding refused writes run24
flagged_inside = refl

-- a counter in the run that does not fit 64 bits; a longer one that does
counter24 : List ℕ → List ℕ
counter24 counter = ascii "POPM" ++ (0 ∷ 0 ∷ 0 ∷ 11 ∷ 0 ∷ 0 ∷ 0 ∷ 9 ∷ counter)

over_in_run : refused Id3v24 (named "CHAP") (chapter [] 0 0 0 0 (counter24 (1 ∷ zeros 8))) ≡ 29
unfolding refused counter24
over_in_run = refl

nine_in_run : refused Id3v24 (named "CHAP") (chapter [] 0 0 0 0 (counter24 (zeros 8 ++ (7 ∷ [])))) ≡ 0
unfolding refused counter24
nine_in_run = refl

-- chapters in chapters: the record itself is at depth 1
nest : ℕ → List ℕ
unfolding writes
nest zero = []
nest (suc k) = writes Id3v24 Off (named "CHAP") (chapter [] 0 0 0 0 (nest k))

depth_8 : refused Id3v24 (named "CHAP") (chapter [] 0 0 0 0 (nest 7)) ≡ 0
unfolding refused nest
depth_8 = refl

depth_9 : refused Id3v24 (named "CHAP") (chapter [] 0 0 0 0 (nest 8)) ≡ 29
unfolding refused nest
depth_9 = refl

-- ---- 30 to 34: tables

width_33 : refused Id3v24 (named "MLLT") (table 0 0 0 33 3 []) ≡ 30
unfolding refused
width_33 = refl

sum_9 : refused Id3v24 (named "MLLT") (table 0 0 0 4 5 []) ≡ 31
unfolding refused
sum_9 = refl

-- 32 cannot be met by a record, since each width is at most 32; the check itself gives it
sum_80 : get_or (width_checks 40 40) 2 0 ≡ 32
sum_80 = refl

no_pair : refused Id3v24 (named "MLLT") (table 0 0 0 4 8 (1 ∷ [])) ≡ 33
unfolding refused
no_pair = refl

too_wide : refused Id3v24 (named "MLLT") (table 0 0 0 4 8 (0x10 ∷ 0 ∷ [])) ≡ 33
unfolding refused
too_wide = refl

long_step : refused Id3v24 (named "MLLT") (table 0 16777216 0 4 8 []) ≡ 33
unfolding refused
long_step = refl

-- one reference of four bits would read back as two
odd_fours : refused Id3v24 (named "MLLT") (table 0 0 0 2 2 (3 ∷ 1 ∷ [])) ≡ 34
unfolding refused
odd_fours = refl

d0 : pack 2 2 (3 ∷ 1 ∷ []) ≡ 0xD0 ∷ []
unfolding refused
d0 = refl

-- ---- 22, 23, 24: sizes; the skipped ids meet the checks down to 34 and no further

empty_22 : refused Id3v22 (named "XAB") (raw []) ≡ 22
unfolding refused
empty_22 = refl

long_22 : (body : List ℕ) → length body ≡ 2 ^ 24 → refused Id3v22 (named "XAB") (raw body) ≡ 23
unfolding refused
long_22 body h = rw h

long_23 : (body : List ℕ) → length body ≡ 2 ^ 28 → refused Id3v23 (named "XABC") (raw body) ≡ 24
unfolding refused
long_23 body h = rw h

lost : refusal_of Id3v22 Off true (plain (named "CRA") (raw [])) ≡ 0
unfolding refused
lost = refl

not_lost : refusal_of Id3v22 Off true (plain (named "XAB") (raw [])) ≡ 22
unfolding refused
not_lost = refl

lost_refused : refusal_of Id3v22 Off true (plain (named "MLL") (table 0 0 0 0 0 [])) ≡ 30
unfolding refused
lost_refused = refl

-- ---- frames and a tag

frame_22 : writes Id3v22 Standard (named "POP") (popularimeter (0x61 ∷ []) 5 65280)
    ≡ ascii "POP" ++ (0 ∷ 0 ∷ 5 ∷ 0x61 ∷ 0 ∷ 5 ∷ 0xFF ∷ 0x00 ∷ [])
unfolding writes
frame_22 = refl

frame_23 : writes Id3v23 Standard (named "CTOC") (contents (ascii "t") true false (0x61 ∷ 0 ∷ []) [])
    ≡ ascii "CTOC" ++ (0 ∷ 0 ∷ 0 ∷ 6 ∷ 0 ∷ 0 ∷ 0x74 ∷ 0 ∷ 2 ∷ 1 ∷ 0x61 ∷ 0 ∷ [])
unfolding writes
frame_23 = refl

-- 2.4 bodies are unsynchronised one by one: the doubled zero, and a zero before E0
frame_24 : writes Id3v24 Standard (named "XABC") (raw (0xFF ∷ 0x00 ∷ 0xFF ∷ 0xE0 ∷ 0xFF ∷ []))
    ≡ ascii "XABC" ++ (0 ∷ 0 ∷ 0 ∷ 7 ∷ 0 ∷ 2 ∷ 0xFF ∷ 0x00 ∷ 0x00 ∷ 0xFF ∷ 0x00 ∷ 0xE0 ∷ 0xFF ∷ [])
unfolding writes
frame_24 = refl

frame_crate : writes Id3v24 Crate (named "MLLT") (table 1 2 3 4 8 (0x0F ∷ 0xF0 ∷ 0x0E ∷ 0x03 ∷ []))
    ≡ ascii "MLLT" ++ (0 ∷ 0 ∷ 0 ∷ 13 ∷ 0 ∷ 2 ∷ 0 ∷ 1 ∷ 0 ∷ 0 ∷ 2 ∷ 0 ∷ 0 ∷ 3 ∷ 4 ∷ 8 ∷ 0xFF ∷ 0x0E ∷ 0x03 ∷ [])
unfolding writes
frame_crate = refl

-- 2.3 frames are unsynchronised as a whole, before the padding
whole_23 : tag_of Id3v23 Standard 2 (writes Id3v23 Standard (named "XABC") (raw (0xFF ∷ 0xE0 ∷ 0xFF ∷ [])))
    ≡ ascii "ID3" ++ (3 ∷ 0 ∷ 0x80 ∷ 0 ∷ 0 ∷ 0 ∷ 16 ∷ ascii "XABC" ++ (0 ∷ 0 ∷ 0 ∷ 3 ∷ 0 ∷ 0 ∷ 0xFF ∷ 0x00 ∷ 0xE0 ∷ 0xFF ∷ 0 ∷ 0 ∷ []))
unfolding writes tag_of
whole_23 = refl
