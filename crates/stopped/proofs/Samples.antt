-- The promise speaks of something: cuts of the sample in each edition and mode, read and metered by computation. Assumes nothing.
use mathlib.Core.Path.{◌≡◌, refl, subst}
use Prim.Native.Nat.{ℕ, ◌-◌, ◌^◌}
use mathlib.Core.Bool.{Bool, true, false}
use mathlib.Core.List.{List, [], ◌∷◌}
use lib.ListN.{length, take, replicate}
use Rattle.format.specs.Bytes.{first, named, ascii, zeros, zero_at, zeros_in}
use Rattle.format.specs.Numbers.{digits, onto}
use Rattle.format.specs.Unsynch.{resync, unsync}
use Rattle.format.specs.Ids.{utf8_from, kind_of}
use Rattle.format.specs.Header.{version_of, ext_of, header_refusal}
use Rattle.format.specs.Numbered.{mode_of}
use Rattle.format.specs.Frame.{head_of}
use Rattle.format.specs.Text.{zero_pair_at, trimmed, closing}
use Rattle.format.specs.Popularimeter.{stripped, counter_bytes}
use Rattle.format.specs.Table.{spread, gathered, filled, pack, unpack}
use Rattle.format.specs.Chapter.{names_len}
use Rattle.format.specs.Record.{Content, text, popularimeter, table, chapter, raw, Rec, body_refusal, run_of, parts_of, view_of}
use Rattle.format.specs.Walk.{inside_of, resynced_of, on_head, walk_bytes, walked, on_shown, frame_of}
use Rattle.format.specs.Walk as walk
use Rattle.format.specs.Encode.{body_bytes, encode, tag_of}
use Rattle.format.specs.declared.Version.{Version}
use Rattle.format.specs.declared.Version.TheVariants.{Id3v22, Id3v23, Id3v24}
use Rattle.format.specs.declared.Mode.{Mode}
use Rattle.format.specs.declared.Mode.TheVariants.{Crate}
use Rattle.reader.specs.Reader.{open_whole, open_of, step_of}
use Rattle.meter.specs.Meter.{meter_open_of, next_in, next_of}
use Rattle.meter.specs.declared.Meter.{Meter}
use Rattle.promises.specs.Written.{Written}
use Rattle.promises.specs.Reading.{Reading, ended, refused, read_from, read_for, read_all}
use Rattle.promises.specs.Promises.{frames_of}
use Rattle.promises.specs.Metering.{Counted, counters_of, meter_from, meter_all}
use Rattle.promises.specs.Samples.{plain, inner, sample_of}
use Rattle.promises.proofs.Adding.{told_written}
use Rattle.promises.proofs.Samples.{Sampled}
use Rattle.promises.proofs.Samples as samples
use Rattle.blocks.specs.Blocks.{and_records}
use Rattle.stopped.specs.Stopped.{most_in, whole_in}

-- ---- a cut, and what is seen of it

-- the tag of a list of records, with three bytes of padding
abbrev pub tag_by : Version → Mode → List Rec → List ℕ
tag_by v m rs = tag_of v m 3 (frames_of v m rs)

unfoldable pub missing_of : List Meter → List Bool
missing_of [] = []
missing_of (m ∷ ms) = m.missing ∷ missing_of ms

-- how many records are there whole, what is read, what is counted, and the mark of missing bytes; with a work buffer as long as what is left less ten bytes
abbrev pub Seen : Type 0
Seen = ℕ × Reading × List Counted × List Bool

unfoldable pub seen_in : ℕ → List ℕ → ℕ → Seen
unfolding
    first zero_at zeros_in digits onto resync utf8_from kind_of ext_of header_refusal head_of zero_pair_at trimmed closing spread gathered unpack names_len
    body_refusal run_of parts_of view_of inside_of resynced_of on_head walk.step_of walk_bytes walked on_shown frame_of open_whole open_of step_of read_from read_for
    meter_open_of next_in next_of meter_from meter_all missing_of
seen_in k tag n =
    let cut = take n tag in
    let work : List ℕ = replicate (n - 10) 7 in
    let o = meter_all cut work in
    (k, read_all cut work, o.counted, missing_of o.last)

pub seen_at : Version → Mode → List Rec → ℕ → Seen
unfolding unsync stripped counter_bytes filled pack body_bytes encode tag_of inner most_in seen_in
seen_at v m rs n = seen_in (whole_in v m n rs) (tag_by v m rs) n

-- after how many bytes, the first so many records, and what is read then
abbrev pub Cut : Type 0
Cut = ℕ × ℕ × Reading

abbrev pub cut : ℕ → ℕ → Reading → Cut
cut n k after = (n, k, after)

pub seen_all : Version → Mode → List Rec → List Cut → List Seen
unfolding seen_at
seen_all v m rs [] = []
seen_all v m rs (c ∷ cs) = seen_at v m rs c.0 ∷ seen_all v m rs cs

-- these records and what is read then; their popularimeters; bytes are missing
abbrev pub expected : List Rec → Reading → Seen
expected rs after = (length rs, and_records rs after, counters_of rs, true ∷ [])

abbrev pub expected_all : List Rec → List Cut → List Seen
expected_all rs [] = []
expected_all rs (c ∷ cs) = expected (take c.1 rs) c.2 ∷ expected_all rs cs

-- cuts of the tag of these records are seen so
abbrev pub AreSeen : Version → Mode → List Rec → List Cut → Type 0
AreSeen v m rs cs = seen_all v m rs cs ≡ expected_all rs cs

-- With a version and a mode the sample is written, and cuts of its tag are seen so.
pub record Cuts (version mode : ℕ) (cs : List Cut) : Type 0 where
  pub is_written : Written version mode 3 (sample_of (version_of version)) (tag_by (version_of version) (mode_of mode) (sample_of (version_of version)))
  pub are_seen : AreSeen (version_of version) (mode_of mode) (sample_of (version_of version)) cs

cuts : {version mode : ℕ} {cs : List Cut} → Sampled version mode → AreSeen (version_of version) (mode_of mode) (sample_of (version_of version)) cs
    → Cuts version mode cs
cuts {version} {mode} s seen =
    let rs = sample_of (version_of version) in
    let t = told_written version mode 3 rs s.tag s.is_written in
    record { is_written = subst (Written version mode 3 rs) t.is_tag_lem s.is_written; are_seen = seen }

-- ---- what is read then

abbrev pub ends : Reading
ends = ([], ended)

abbrev pub stops : Reading
stops = ([], refused 5)

abbrev pub then_short : ℕ → Content → Reading
then_short id c = (record { id = id; short = true; compressed = false; content = c } ∷ [], ended)

-- the last popularimeter without its last byte: seven bytes FF of its counter are there
abbrev pub less_one : Content
less_one = popularimeter (0xFF ∷ 0xE3 ∷ []) 5 (2 ^ 56 - 1)

-- the chapter, of whose run of subframes so many bytes are there
abbrev pub less_chapter : ℕ → Reading
less_chapter n = then_short (named "CHAP") (chapter (ascii "c") 0 0xFF00 0xFFE0 (2 ^ 32 - 1) (take n (inner Id3v24)))

-- ---- cut between two frames, in a header, before the last byte of the text, in the body of a raw frame, in the lookup table or the chapter,
-- before the last byte of the last counter, behind the last FF, in the padding

pub off_22 : Cuts 2 0
    (cut 63 4 ends
    ∷ cut 58 3 ends
    ∷ cut 21 0 (then_short (named "TT2") (text 0 (ascii "titl")))
    ∷ cut 50 2 (then_short (named "XAB") (raw (0xFF ∷ 0x00 ∷ [])))
    ∷ cut 40 1 (then_short (named "MLL") (table 1 2 3 8 8 (0xFF ∷ 0x00 ∷ [])))
    ∷ cut 100 6 (then_short (named "POP") less_one)
    ∷ cut 101 7 ends
    ∷ cut 103 7 ends
    ∷ [])
unfolding seen_all
off_22 = cuts samples.off_22 refl

pub crate_22 : Cuts 2 1
    (cut 65 4 ends
    ∷ cut 60 3 ends
    ∷ cut 21 0 (then_short (named "TT2") (text 0 (ascii "titl")))
    ∷ cut 51 2 (then_short (named "XAB") (raw (0xFF ∷ [])))
    ∷ cut 41 1 (then_short (named "MLL") (table 1 2 3 8 8 (0xFF ∷ 0x00 ∷ [])))
    ∷ cut 103 6 (then_short (named "POP") less_one)
    ∷ cut 104 7 ends
    ∷ cut 106 7 ends
    ∷ [])
unfolding seen_all
crate_22 = cuts samples.crate_22 refl

pub standard_22 : Cuts 2 2
    (cut 68 4 ends
    ∷ cut 63 3 ends
    ∷ cut 21 0 (then_short (named "TT2") (text 0 (ascii "titl")))
    ∷ cut 52 2 (then_short (named "XAB") (raw (0xFF ∷ [])))
    ∷ cut 41 1 (then_short (named "MLL") (table 1 2 3 8 8 (0xFF ∷ 0x00 ∷ [])))
    ∷ cut 115 6 (then_short (named "POP") less_one)
    ∷ cut 116 7 ends
    ∷ cut 118 7 ends
    ∷ [])
unfolding seen_all
standard_22 = cuts samples.standard_22 refl

pub off_23 : Cuts 3 0
    (cut 133 4 ends
    ∷ cut 68 3 ends
    ∷ cut 24 0 stops
    ∷ cut 60 2 stops
    ∷ cut 128 3 stops
    ∷ cut 254 8 stops
    ∷ cut 255 9 ends
    ∷ cut 257 9 ends
    ∷ [])
unfolding seen_all
off_23 = cuts samples.off_23 refl

pub crate_23 : Cuts 3 1
    (cut 135 4 ends
    ∷ cut 69 3 ends
    ∷ cut 24 0 stops
    ∷ cut 60 2 stops
    ∷ cut 130 3 stops
    ∷ cut 257 8 stops
    ∷ cut 258 9 ends
    ∷ cut 260 9 ends
    ∷ [])
unfolding seen_all
crate_23 = cuts samples.crate_23 refl

pub standard_23 : Cuts 3 2
    (cut 142 4 ends
    ∷ cut 72 3 ends
    ∷ cut 25 0 stops
    ∷ cut 61 2 stops
    ∷ cut 137 3 stops
    ∷ cut 273 8 stops
    ∷ cut 274 9 ends
    ∷ cut 276 9 ends
    ∷ [])
unfolding seen_all
standard_23 = cuts samples.standard_23 refl

pub off_24 : Cuts 4 0
    (cut 129 4 ends
    ∷ cut 64 3 ends
    ∷ cut 22 0 (then_short (named "TIT2") (text 0 (0x41 ∷ [])))
    ∷ cut 56 2 (then_short (named "XABC") (raw (0xFF ∷ 0x00 ∷ [])))
    ∷ cut 124 3 (less_chapter 36)
    ∷ cut 250 8 (then_short (named "POPM") less_one)
    ∷ cut 251 9 ends
    ∷ cut 253 9 ends
    ∷ [])
unfolding seen_all
off_24 = cuts samples.off_24 refl

pub crate_24 : Cuts 4 1
    (cut 131 4 ends
    ∷ cut 65 3 ends
    ∷ cut 22 0 (then_short (named "TIT2") (text 0 (0x41 ∷ [])))
    ∷ cut 56 2 (then_short (named "XABC") (raw (0xFF ∷ [])))
    ∷ cut 126 3 (less_chapter 36)
    ∷ cut 253 8 (then_short (named "POPM") less_one)
    ∷ cut 254 9 ends
    ∷ cut 256 9 ends
    ∷ [])
unfolding seen_all
crate_24 = cuts samples.crate_24 refl

pub standard_24 : Cuts 4 2
    (cut 137 4 ends
    ∷ cut 67 3 ends
    ∷ cut 22 0 (then_short (named "TIT2") (text 0 (0x41 ∷ [])))
    ∷ cut 56 2 (then_short (named "XABC") (raw (0xFF ∷ [])))
    ∷ cut 132 3 (less_chapter 36)
    ∷ cut 268 8 (then_short (named "POPM") less_one)
    ∷ cut 269 9 ends
    ∷ cut 271 9 ends
    ∷ [])
unfolding seen_all
standard_24 = cuts samples.standard_24 refl

-- ---- a size with FF in its bytes, and a body of no bytes

-- a body of 255 zeros; one of no bytes, which 2.2 has not; a counter
abbrev pub odd_of : Version → List Rec
odd_of Id3v22 = plain (named "XAB") (raw (zeros 255)) ∷ plain (named "POP") (popularimeter (ascii "a") 1 255) ∷ []
odd_of Id3v23 = plain (named "XABC") (raw (zeros 255)) ∷ plain (named "XNIL") (raw []) ∷ plain (named "POPM") (popularimeter (ascii "a") 1 255) ∷ []
odd_of Id3v24 = plain (named "XABC") (raw (zeros 255)) ∷ plain (named "XNIL") (raw []) ∷ plain (named "POPM") (popularimeter (ascii "a") 1 255) ∷ []

-- behind the FF of the size, which ends the header; behind the 00 that was put in; one byte of the body; all but one; all
pub size_22 : AreSeen Id3v22 Crate (odd_of Id3v22)
    (cut 16 0 (then_short (named "XAB") (raw []))
    ∷ cut 17 0 (then_short (named "XAB") (raw []))
    ∷ cut 18 0 (then_short (named "XAB") (raw (zeros 1)))
    ∷ cut 271 0 (then_short (named "XAB") (raw (zeros 254)))
    ∷ cut 272 1 ends
    ∷ [])
unfolding seen_all
size_22 = refl

-- behind the FF of the size; behind the 00; before the last byte of the body, and behind it; in the header of the next frame, and behind that, which is all of it
pub size_23 : AreSeen Id3v23 Crate (odd_of Id3v23)
    (cut 18 0 ends
    ∷ cut 19 0 ends
    ∷ cut 275 0 stops
    ∷ cut 276 1 ends
    ∷ cut 285 1 ends
    ∷ cut 286 2 ends
    ∷ [])
unfolding seen_all
size_23 = refl

-- before the last byte of the body, and behind it; in the header of the next frame, and behind that
pub none_24 : AreSeen Id3v24 Crate (odd_of Id3v24)
    (cut 274 0 (then_short (named "XABC") (raw (zeros 254)))
    ∷ cut 275 1 ends
    ∷ cut 284 1 ends
    ∷ cut 285 2 ends
    ∷ [])
unfolding seen_all
none_24 = refl
