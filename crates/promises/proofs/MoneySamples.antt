-- The promise on money speaks of something: in each edition and mode the sample's four counters are metered, by the theorem; and each mark comes on for some tag, by computation. Assumes nothing.
use mathlib.Core.Path.{◌≡◌, refl, ◌∙◌}
use Prim.Native.Nat.{ℕ, ◌+◌, ◌-◌, ◌*◌, ◌^◌}
use native.Mathlib.Omega.{arith}
use mathlib.Core.Bool.{Bool, true, false}
use mathlib.Core.List.{List, [], ◌∷◌, ◌++◌}
use lib.ListN.{length, replicate, length-replicate}
use Rattle.format.specs.Bytes.{first, ascii, zero_at, zeros}
use Rattle.format.specs.Numbers.{digits, onto}
use Rattle.format.specs.Ids.{utf8_from, kind_of}
use Rattle.format.specs.Header.{version_of, ext_of, header_refusal}
use Rattle.format.specs.Frame.{head_of}
use Rattle.format.specs.Record.{body_refusal, run_of, parts_of}
use Rattle.format.specs.Walk.{inside_of, on_head, walk_bytes, walked, on_shown, frame_of}
use Rattle.format.specs.Walk as walk
use Rattle.format.specs.declared.Version.{Version}
use Rattle.format.specs.declared.Version.TheVariants.{Id3v22, Id3v23, Id3v24}
use Rattle.reader.specs.Reader.{open_of, step_of}
use Rattle.meter.specs.Meter.{meter_open_of, next_in, next_of}
use Rattle.meter.specs.declared.Meter.{Meter}
use Rattle.promises.specs.Written.{Written}
use Rattle.promises.specs.Reading.{Ending, ended, refused}
use Rattle.promises.specs.Metering.{Counted, counters_of, meter_from, meter_all}
use Rattle.promises.specs.Money.{Clear, total}
use Rattle.promises.specs.Samples.{sample_of}
use Rattle.promises.proofs.Money.{meter_written}
use Rattle.promises.proofs.Samples.{Sampled}
use Rattle.promises.proofs.Samples as samples

abbrev pub counted : List ℕ → ℕ → ℕ → ℕ → Counted
counted user rating counter frame = record { user = user; rating = rating; counter = counter; frame = frame }

-- ---- the sample

abbrev pub four_from : ℕ → List Counted
four_from n =
    counted (ascii "a") 0 0 n
    ∷ counted (ascii "b") 1 255 (n + 1)
    ∷ counted [] 255 65280 (n + 2)
    ∷ counted (0xFF ∷ 0xE3 ∷ []) 5 (2 ^ 64 - 1) (n + 3)
    ∷ []

abbrev pub four_of : Version → List Counted
four_of Id3v22 = four_from 3
four_of Id3v23 = four_from 5
four_of Id3v24 = four_from 5

sample_counters : (v : Version) → counters_of (sample_of v) ≡ four_of v
sample_counters Id3v22 = refl
sample_counters Id3v23 = refl
sample_counters Id3v24 = refl

-- With a version and a mode the sample is written with three bytes of padding, and metering the tag gives the four, then the end, with nothing marked.
pub record SampleMetered (version mode : ℕ) : Type 0 where
  pub tag : List ℕ
  pub is_written : Written version mode 3 (sample_of (version_of version)) tag
  pub last : Meter
  pub is_metered : meter_all tag (replicate (length tag) 7) ≡ record { counted = four_of (version_of version); ending = ended; last = last ∷ [] }
  pub clear : Clear (sample_of (version_of version)) last

metered : {version mode : ℕ} → Sampled version mode → SampleMetered version mode
metered {version} {mode} s =
    let m = meter_written version mode 3 (sample_of (version_of version)) s.tag (replicate (length s.tag) 7) s.is_written (simp length-replicate (omega arith)) in
    record {
      tag = s.tag;
      is_written = s.is_written;
      last = m.0;
      is_metered = m.1 ∙ rw (sample_counters (version_of version));
      clear = m.2;
    }

pub off_22 : SampleMetered 2 0
off_22 = metered samples.off_22

pub crate_22 : SampleMetered 2 1
crate_22 = metered samples.crate_22

pub standard_22 : SampleMetered 2 2
standard_22 = metered samples.standard_22

pub off_23 : SampleMetered 3 0
off_23 = metered samples.off_23

pub crate_23 : SampleMetered 3 1
crate_23 = metered samples.crate_23

pub standard_23 : SampleMetered 3 2
standard_23 = metered samples.standard_23

pub off_24 : SampleMetered 4 0
off_24 = metered samples.off_24

pub crate_24 : SampleMetered 4 1
crate_24 = metered samples.crate_24

pub standard_24 : SampleMetered 4 2
standard_24 = metered samples.standard_24

-- a sum has no limit
pub both : total (0xFF ∷ 0xE3 ∷ []) (four_from 0 ++ four_from 4) ≡ 2 * (2 ^ 64 - 1)
both = refl

-- ---- the marks: tags of 2.4 with one popularimeter

-- short, compressed, missing, and how many frames
abbrev Marks : Type 0
Marks = Bool × Bool × Bool × ℕ

marks_of : List Meter → List Marks
marks_of [] = []
marks_of (m ∷ ms) = (m.short, m.compressed, m.missing, m.frames) ∷ marks_of ms

seen : List ℕ → List Counted × Ending × List Marks
unfolding
    first zero_at digits onto utf8_from kind_of ext_of header_refusal head_of body_refusal run_of parts_of inside_of on_head walk.step_of walk_bytes walked on_shown
    frame_of open_of step_of meter_open_of next_in next_of meter_from meter_all marks_of
seen tag = let o = meter_all tag [] in (o.counted, o.ending, marks_of o.last)

-- what the header says, what the frame says, its flags and its body
tag_with : ℕ → ℕ → ℕ → List ℕ → List ℕ
tag_with size said flags body = ascii "ID3" ++ (4 ∷ 0 ∷ 0 ∷ 0 ∷ 0 ∷ 0 ∷ size ∷ ascii "POPM" ++ (0 ∷ 0 ∷ 0 ∷ said ∷ 0 ∷ flags ∷ body))

whole : seen (tag_with 14 4 0 (0x61 ∷ 0 ∷ 5 ∷ 7 ∷ [])) ≡ (counted (ascii "a") 5 7 0 ∷ [], ended, (false, false, false, 1) ∷ [])
unfolding seen tag_with
whole = refl

-- the last byte is not there
cut : seen (tag_with 14 4 0 (0x61 ∷ 0 ∷ 5 ∷ [])) ≡ ([], ended, (true, false, true, 1) ∷ [])
unfolding seen tag_with
cut = refl

-- nor does the header say that it is
short : seen (tag_with 13 4 0 (0x61 ∷ 0 ∷ 5 ∷ [])) ≡ ([], ended, (true, false, false, 1) ∷ [])
unfolding seen tag_with
short = refl

packed : seen (tag_with 14 4 8 (0x61 ∷ 0 ∷ 5 ∷ 7 ∷ [])) ≡ ([], ended, (false, true, false, 1) ∷ [])
unfolding seen tag_with
packed = refl

-- encrypted: refused, with a meter
sealed : seen (tag_with 14 4 4 (0x61 ∷ 0 ∷ 5 ∷ 7 ∷ [])) ≡ ([], refused 8, (false, false, false, 0) ∷ [])
unfolding seen tag_with
sealed = refl

-- a box's counter of twelve bytes, an hour; one that does not fit 64 bits
long : seen (tag_with 25 15 0 (0x61 ∷ 0 ∷ 5 ∷ zeros 8 ++ (0x00 ∷ 0x36 ∷ 0xEE ∷ 0x80 ∷ []))) ≡ (counted (ascii "a") 5 3600000 0 ∷ [], ended, (false, false, false, 1) ∷ [])
unfolding seen tag_with
long = refl

over : seen (tag_with 22 12 0 (0x61 ∷ 0 ∷ 5 ∷ 1 ∷ zeros 8)) ≡ ([], refused 35, (false, false, false, 0) ∷ [])
unfolding seen tag_with
over = refl

-- no tag: refused, with none
nothing : seen [] ≡ ([], refused 1, [])
unfolding seen
nothing = refl
