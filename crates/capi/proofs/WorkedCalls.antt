-- Worked calls, by computation, word for word: document 01's listing read, metered and written again, what is refused 2, 20 and 21, and numbers beyond their types. Assumes nothing.
use mathlib.Core.Path.{◌≡◌, refl}
use Prim.Native.Nat.{ℕ, ◌^◌}
use mathlib.Core.List.{List, [], ◌∷◌, ◌++◌}
use lib.ListN.{take, drop, set}
use Rattle.format.specs.Bytes.{first, named, ascii, among, zero_at, zeros_in, zeros}
use Rattle.format.specs.Numbers.{digits, onto}
use Rattle.format.specs.Unsynch.{resync, unsync}
use Rattle.format.specs.Ids.{utf8_from, all_id_bytes, kind_of}
use Rattle.format.specs.Header.{ext_of, header_refusal}
use Rattle.format.specs.Frame.{head_of}
use Rattle.format.specs.Text.{trimmed, closing}
use Rattle.format.specs.Table.{spread, gathered, unpack, fit}
use Rattle.format.specs.Popularimeter.{stripped, counter_bytes}
use Rattle.format.specs.Record.{body_refusal, run_of, parts_of}
use Rattle.format.specs.Walk.{inside_of, on_head, step_of as walkStep, walk_bytes, walked, on_shown, frame_of}
use Rattle.format.specs.Encode.{body_bytes, encode, refusal_of, tag_of}
use Rattle.frame.specs.References.{unpack_of}
use Rattle.reader.specs.Reader.{header_of, open_of, step_of}
use Rattle.meter.specs.Meter.{meter_open_of, next_in, next_of}
use Rattle.writer.specs.Writer.{begin_of, add_of, finish_of}
use Rattle.capi.specs.Words.{header_words, reader_words, reader_of, writer_words, writer_of, record_words, fields_of, heading_of}
use Rattle.capi.specs.Calls.{Left1, Left2, Left3, sv_header, sv_open, sv_step, sv_begin, sv_add, sv_finish, sv_references}
use Rattle.capi.specs.Meters.{meter_words, meter_of, metered_words, sv_meter_open, sv_meter_next}

-- each call, with all that it rests on unfolded
on_header : List ℕ → List ℕ → Left1
unfolding first digits onto ext_of header_refusal header_of header_words sv_header
on_header tag words = sv_header tag words

on_open : List ℕ → List ℕ → List ℕ → Left2
unfolding first digits onto ext_of header_refusal open_of reader_words sv_open
on_open tag work reader = sv_open tag work reader

on_step : List ℕ → List ℕ → List ℕ → List ℕ → Left3
unfolding
    first zero_at zeros_in digits onto resync utf8_from kind_of head_of body_refusal run_of parts_of inside_of on_head walkStep walk_bytes walked on_shown frame_of step_of
    reader_of reader_words record_words sv_step
on_step tag work reader words = sv_step tag work reader words

on_meter_open : List ℕ → List ℕ → List ℕ → Left2
unfolding first digits onto ext_of header_refusal open_of meter_open_of meter_words sv_meter_open
on_meter_open tag work meter = sv_meter_open tag work meter

on_meter_next : List ℕ → List ℕ → List ℕ → List ℕ → Left3
unfolding
    first zero_at zeros_in digits onto resync utf8_from kind_of head_of body_refusal run_of parts_of inside_of on_head walkStep walk_bytes walked on_shown frame_of step_of
    next_in next_of meter_of meter_words metered_words sv_meter_next
on_meter_next tag work meter metered = sv_meter_next tag work meter metered

on_begin : ℕ → ℕ → ℕ → List ℕ → Left1
unfolding begin_of writer_words sv_begin
on_begin version mode altered writer = sv_begin version mode altered writer

on_add : List ℕ → List ℕ → List ℕ → List ℕ → List ℕ → List ℕ → List ℕ → List ℕ → Left3
unfolding
    first among zero_at trimmed closing fit digits unsync stripped counter_bytes all_id_bytes kind_of body_bytes encode refusal_of add_of
    writer_of writer_words fields_of heading_of sv_add
on_add words name names rest deviations buffer writer count = sv_add words name names rest deviations buffer writer count

on_finish : ℕ → List ℕ → List ℕ → List ℕ → List ℕ → Left2
unfolding digits unsync tag_of finish_of writer_of sv_finish
on_finish padding buffer output writer count = sv_finish padding buffer output writer count

on_references : List ℕ → List ℕ → List ℕ → List ℕ → Left2
unfolding digits onto spread gathered unpack unpack_of fields_of heading_of sv_references
on_references words rest deviations count = sv_references words rest deviations count

on_each : (List ℕ → Left3) → List (List ℕ) → List Left3
on_each f [] = []
on_each f (x ∷ l) = f x ∷ on_each f l

-- ---- document 01, "The listing program"

listed : List ℕ
listed = ascii "ID3" ++ (4 ∷ 0 ∷ 0 ∷ 0 ∷ 0 ∷ 0 ∷ 18 ∷ ascii "POPM" ++ (0 ∷ 0 ∷ 0 ∷ 8 ∷ 0 ∷ 0 ∷ 0x61 ∷ 0 ∷ 5 ∷ 1 ∷ 0 ∷ 0 ∷ 0 ∷ 0 ∷ []))

-- the words after stay
header_words_lem : on_header listed (9 ∷ 9 ∷ 9 ∷ 9 ∷ 9 ∷ []) ≡ (0, 4 ∷ 0 ∷ 18 ∷ 0 ∷ 9 ∷ [])
unfolding on_header listed
header_words_lem = refl

opened : List ℕ
opened = 4 ∷ 0 ∷ 10 ∷ 10 ∷ 28 ∷ 0 ∷ 0 ∷ []

open_words : on_open listed [] (zeros 7) ≡ (0, [], opened)
unfolding on_open listed opened
open_words = refl

-- the popularimeter of user 61: its body has 8 bytes from 20 on
found : List ℕ
found = 1 ∷ named "POPM" ∷ 0 ∷ 0 ∷ 5 ∷ 4294967296 ∷ 0 ∷ 0 ∷ 0 ∷ 0 ∷ 0 ∷ 20 ∷ 8 ∷ 20 ∷ 1 ∷ 0 ∷ 0 ∷ 0 ∷ 0 ∷ []

step_words : on_step listed [] opened (zeros 19) ≡ (0, [], set opened 3 28, found)
unfolding on_step listed opened found
step_words = refl

-- the end leaves the record's words
end_words : on_step listed [] (set opened 3 28) found ≡ (256, [], 4 ∷ 0 ∷ 10 ∷ 28 ∷ 28 ∷ 1 ∷ 0 ∷ [], found)
unfolding on_step listed opened found
end_words = refl

-- 18 words are too few for a record
short_record : on_step listed [] opened (zeros 18) ≡ (20, [], opened, zeros 18)
unfolding on_step listed opened
short_record = refl

-- ---- words that no call leaves are refused 2; a refused reader says its number again

bad_words : List (List ℕ)
bad_words =
    (1 ∷ 0 ∷ 0 ∷ 0 ∷ 0 ∷ 0 ∷ 0 ∷ [])
    ∷ (5 ∷ 0 ∷ 0 ∷ 0 ∷ 0 ∷ 0 ∷ 0 ∷ [])
    ∷ (4 ∷ 2 ∷ 0 ∷ 0 ∷ 0 ∷ 0 ∷ 0 ∷ [])
    ∷ (4 ∷ 0 ∷ 0 ∷ 0 ∷ 0 ∷ 3 ∷ 0 ∷ [])
    ∷ (4 ∷ 0 ∷ 0 ∷ 0 ∷ 0 ∷ 2 ∷ 0 ∷ [])
    ∷ (4 ∷ 0 ∷ 0 ∷ 0 ∷ 0 ∷ 2 ∷ 256 ∷ [])
    ∷ (4 ∷ 0 ∷ 0 ∷ 0 ∷ 0 ∷ 0 ∷ 7 ∷ [])
    ∷ (4 ∷ 0 ∷ 0 ∷ 0 ∷ 0 ∷ 1 ∷ 7 ∷ [])
    ∷ []

bad : on_each (λ reader. on_step listed [] reader found) bad_words ≡ on_each (λ reader. (2, [], reader, found)) bad_words
unfolding on_step on_each listed found bad_words
bad = refl

refused_again : on_step listed [] (4 ∷ 0 ∷ 0 ∷ 0 ∷ 0 ∷ 2 ∷ 11 ∷ []) found ≡ (11, [], 4 ∷ 0 ∷ 0 ∷ 0 ∷ 0 ∷ 2 ∷ 11 ∷ [], found)
unfolding on_step listed found
refused_again = refl

-- ---- the same tag metered

meter_opened : List ℕ
meter_opened = 4 ∷ 0 ∷ 10 ∷ 10 ∷ 28 ∷ 0 ∷ 0 ∷ 0 ∷ 0 ∷ 0 ∷ 0 ∷ []

meter_open_words : on_meter_open listed [] (zeros 11) ≡ (0, [], meter_opened)
unfolding on_meter_open listed meter_opened
meter_open_words = refl

-- the popularimeter of user 61, frame 0
metered : List ℕ
metered = 0 ∷ 20 ∷ 1 ∷ 5 ∷ 4294967296 ∷ 0 ∷ []

meter_behind : List ℕ
meter_behind = 4 ∷ 0 ∷ 10 ∷ 28 ∷ 28 ∷ 0 ∷ 0 ∷ 1 ∷ 0 ∷ 0 ∷ 0 ∷ []

meter_next_words : on_meter_next listed [] meter_opened (zeros 6) ≡ (0, [], meter_behind, metered)
unfolding on_meter_next listed meter_opened meter_behind metered
meter_next_words = refl

-- the end leaves the popularimeter's words, and an ended meter ends again
meter_end_words : on_meter_next listed [] meter_behind metered ≡ (256, [], set meter_behind 5 1, metered)
unfolding on_meter_next listed meter_behind metered
meter_end_words = refl

meter_end_again : on_meter_next listed [] (set meter_behind 5 1) metered ≡ (256, [], set meter_behind 5 1, metered)
unfolding on_meter_next listed meter_behind metered
meter_end_again = refl

-- a byte fewer than the header says is marked, and so is the frame that it cuts short, which does not count
cut_opened : List ℕ
cut_opened = 4 ∷ 0 ∷ 10 ∷ 10 ∷ 27 ∷ 0 ∷ 0 ∷ 0 ∷ 0 ∷ 0 ∷ 1 ∷ []

cut_open_words : on_meter_open (take 27 listed) [] (zeros 11) ≡ (0, [], cut_opened)
unfolding on_meter_open listed cut_opened
cut_open_words = refl

cut_next_words : on_meter_next (take 27 listed) [] cut_opened metered ≡ (256, [], 4 ∷ 0 ∷ 10 ∷ 27 ∷ 27 ∷ 1 ∷ 0 ∷ 1 ∷ 1 ∷ 0 ∷ 1 ∷ [], metered)
unfolding on_meter_next listed cut_opened metered
cut_next_words = refl

-- in 2.3 that frame is refused, and then again
cut_refused : List ℕ
cut_refused = 3 ∷ 0 ∷ 10 ∷ 10 ∷ 27 ∷ 2 ∷ 5 ∷ 0 ∷ 0 ∷ 0 ∷ 1 ∷ []

cut_refused_words : on_meter_next (set (take 27 listed) 3 3) [] (set cut_opened 0 3) metered ≡ (5, [], cut_refused, metered)
unfolding on_meter_next listed cut_opened cut_refused metered
cut_refused_words = refl

cut_refused_again : on_meter_next (set (take 27 listed) 3 3) [] cut_refused metered ≡ (5, [], cut_refused, metered)
unfolding on_meter_next listed cut_refused metered
cut_refused_again = refl

-- 10 words are too few for a meter, and 5 for a popularimeter
short_meter : on_meter_open listed [] (zeros 10) ≡ (20, [], zeros 10)
unfolding on_meter_open listed
short_meter = refl

short_metered : on_meter_next listed [] meter_opened (zeros 5) ≡ (20, [], meter_opened, zeros 5)
unfolding on_meter_next listed meter_opened
short_metered = refl

-- words that no call leaves: those of a reader, and marks that are neither 0 nor 1
bad_meters : List (List ℕ)
unfolding meter_opened
bad_meters =
    set meter_opened 0 1
    ∷ set meter_opened 0 5
    ∷ set meter_opened 1 2
    ∷ set meter_opened 5 3
    ∷ set meter_opened 5 2
    ∷ set meter_opened 6 7
    ∷ set meter_opened 8 2
    ∷ set meter_opened 9 2
    ∷ set meter_opened 10 2
    ∷ set (set meter_opened 5 1) 10 2
    ∷ []

bad_meter : on_each (λ meter. on_meter_next listed [] meter metered) bad_meters ≡ on_each (λ meter. (2, [], meter, metered)) bad_meters
unfolding on_meter_next on_each listed meter_opened metered bad_meters
bad_meter = refl

-- ---- writers

begun : on_begin 4 2 1 (zeros 4) ≡ (0, 4 ∷ 2 ∷ 1 ∷ 0 ∷ [])
unfolding on_begin
begun = refl

-- nothing of a number is cut off
version_258 : on_begin 258 0 0 (zeros 4) ≡ (2, zeros 4)
unfolding on_begin
version_258 = refl

altered_2 : on_begin 4 0 2 (zeros 4) ≡ (2, zeros 4)
unfolding on_begin
altered_2 = refl

-- ---- the record that was found is written again, and the tag is the one that was read

frame : List ℕ
unfolding listed
frame = drop 10 listed

added : on_add found (0x61 ∷ []) [] [] [] (zeros 20) (4 ∷ 0 ∷ 0 ∷ 0 ∷ []) (9 ∷ []) ≡ (0, frame ++ zeros 2, 4 ∷ 0 ∷ 0 ∷ 18 ∷ [], 18 ∷ [])
unfolding on_add found frame
added = refl

finished : on_finish 0 (frame ++ zeros 2) (zeros 30) (4 ∷ 0 ∷ 0 ∷ 18 ∷ []) (9 ∷ []) ≡ (0, listed ++ zeros 2, 28 ∷ [])
unfolding on_finish listed frame
finished = refl

-- ---- words that are no record are refused 21, and the count is 0

kind_6 : on_add (set found 0 6) (0x61 ∷ []) [] [] [] (zeros 20) (4 ∷ 0 ∷ 0 ∷ 0 ∷ []) (9 ∷ []) ≡ (21, zeros 20, 4 ∷ 0 ∷ 0 ∷ 0 ∷ [], 0 ∷ [])
unfolding on_add found
kind_6 = refl

rating_256 : on_add (set found 4 256) (0x61 ∷ []) [] [] [] (zeros 20) (4 ∷ 0 ∷ 0 ∷ 0 ∷ []) (9 ∷ []) ≡ (21, zeros 20, 4 ∷ 0 ∷ 0 ∷ 0 ∷ [], 0 ∷ [])
unfolding on_add found
rating_256 = refl

-- words that are no writer come before
no_writer : on_add (set found 0 6) (0x61 ∷ []) [] [] [] (zeros 20) (4 ∷ 3 ∷ 0 ∷ 0 ∷ []) (9 ∷ []) ≡ (2, zeros 20, 4 ∷ 3 ∷ 0 ∷ 0 ∷ [], 0 ∷ [])
unfolding on_add found
no_writer = refl

-- ---- the references of document 01's table, widths 4 and 8

table : List ℕ
table = 2 ∷ named "MLLT" ∷ 0 ∷ 0 ∷ 1 ∷ 1 ∷ 1 ∷ 4 ∷ 8 ∷ zeros 10

references : on_references table (0xA5 ∷ 0xC3 ∷ 0x01 ∷ []) (zeros 5) (9 ∷ []) ≡ (0, 0x0A ∷ 0x5C ∷ 0x03 ∷ 0x01 ∷ 0 ∷ [], 4 ∷ [])
unfolding on_references table
references = refl

-- no other record has any
no_references : on_references found (0xA5 ∷ 0xC3 ∷ 0x01 ∷ []) (zeros 5) (9 ∷ []) ≡ (0, zeros 5, 0 ∷ [])
unfolding on_references found
no_references = refl

-- ---- numbers beyond their types: the number of the row that speaks of the field, in the row's place, else 21

-- with the one byte 41 and no deviations, into a begun writer
on_words : List ℕ → Left3
unfolding on_add
on_words words = on_add words [] [] (0x41 ∷ []) [] (zeros 20) (4 ∷ 0 ∷ 0 ∷ 0 ∷ []) (9 ∷ [])

refused : ℕ → List ℕ → Left3
refused k words = (k, zeros 20, 4 ∷ 0 ∷ 0 ∷ 0 ∷ [], 0 ∷ [])

titled : List ℕ
titled = 0 ∷ named "TIT2" ∷ 0 ∷ 0 ∷ 3 ∷ zeros 14

title_added : on_words titled ≡ (0, ascii "TIT2" ++ (0 ∷ 0 ∷ 0 ∷ 2 ∷ 0 ∷ 0 ∷ 3 ∷ 0x41 ∷ zeros 8), 4 ∷ 0 ∷ 0 ∷ 12 ∷ [], 12 ∷ [])
unfolding on_words titled
title_added = refl

-- an encoding of 4, of 256, and of 2^63
beyond_12 : List (List ℕ)
unfolding titled
beyond_12 = set titled 4 4 ∷ set titled 4 256 ∷ set titled 4 (2 ^ 63) ∷ []

gives_12 : on_each on_words beyond_12 ≡ on_each (refused 12) beyond_12
unfolding on_words on_each refused titled beyond_12
gives_12 = refl

-- marks of 1, of 2 and of 2^63, before 12
beyond_25 : List (List ℕ)
unfolding titled
beyond_25 = set titled 2 1 ∷ set titled 2 2 ∷ set titled 3 2 ∷ set titled 3 (2 ^ 63) ∷ set (set titled 2 2) 4 256 ∷ []

gives_25 : on_each on_words beyond_25 ≡ on_each (refused 25) beyond_25
unfolding on_words on_each refused titled beyond_25
gives_25 = refl

-- widths, before 33
beyond_30 : List (List ℕ)
unfolding table
beyond_30 = set table 7 256 ∷ set table 8 256 ∷ set table 8 (2 ^ 63) ∷ set (set table 7 256) 5 (2 ^ 32) ∷ []

gives_30 : on_each on_words beyond_30 ≡ on_each (refused 30) beyond_30
unfolding on_words on_each refused table beyond_30
gives_30 = refl

references_30 : on_references (set table 7 256) (0xA5 ∷ 0xC3 ∷ 0x01 ∷ []) (zeros 5) (9 ∷ []) ≡ (30, zeros 5, 0 ∷ [])
unfolding on_references table
references_30 = refl

-- steps of bytes and of milliseconds
beyond_33 : List (List ℕ)
unfolding table
beyond_33 = set table 5 (2 ^ 24) ∷ set table 5 (2 ^ 32) ∷ set table 6 (2 ^ 32) ∷ set table 6 (2 ^ 63) ∷ []

gives_33 : on_each on_words beyond_33 ≡ on_each (refused 33) beyond_33
unfolding on_words on_each refused table beyond_33
gives_33 = refl

-- the others: kind, id, rating, frame step, time, offset, mark of the contents
beyond_21 : List (List ℕ)
unfolding titled found table
beyond_21 =
    set titled 0 6
    ∷ set titled 1 (2 ^ 32)
    ∷ set found 4 256
    ∷ set table 4 (2 ^ 16)
    ∷ (3 ∷ named "CHAP" ∷ 0 ∷ 0 ∷ 2 ^ 32 ∷ zeros 14)
    ∷ (3 ∷ named "CHAP" ∷ 0 ∷ 0 ∷ 0 ∷ 0 ∷ 0 ∷ 2 ^ 32 ∷ zeros 11)
    ∷ (4 ∷ named "CTOC" ∷ 0 ∷ 0 ∷ 2 ∷ zeros 14)
    ∷ []

gives_21 : on_each on_words beyond_21 ≡ on_each (refused 21) beyond_21
unfolding on_words on_each refused titled found table beyond_21
gives_21 = refl

-- and an id that is none comes before the others
small_id : ℕ
small_id = named "abcd"

beyond_first : List (List ℕ)
unfolding titled table small_id
beyond_first = set (set titled 1 small_id) 4 256 ∷ set (set titled 1 small_id) 2 2 ∷ set (set table 1 small_id) 7 256 ∷ set (set table 1 small_id) 5 (2 ^ 32) ∷ []

first_21 : on_each on_words beyond_first ≡ on_each (refused 21) beyond_first
unfolding on_words on_each refused titled table small_id beyond_first
first_21 = refl
