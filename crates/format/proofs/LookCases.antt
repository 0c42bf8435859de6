-- Worked cases of the look at a tag, by computation: what is plain, what is odd, and the order of the numbers, each beside its nearest. Assumes nothing.
use mathlib.Core.Path.{◌≡◌, refl}
use Prim.Native.Nat.{ℕ}
use mathlib.Core.List.{List, [], ◌∷◌, ◌++◌}
use Rattle.format.specs.Bytes.{first, ascii, zero_at, zeros_in, zeros}
use Rattle.format.specs.Numbers.{digits, onto}
use Rattle.format.specs.Ids.{utf8_from, kind_of}
use Rattle.format.specs.Header.{ext_of, header_refusal}
use Rattle.format.specs.Frame.{head_of}
use Rattle.format.specs.Chapter.{names_len}
use Rattle.format.specs.Record.{body_refusal, run_of}
use Rattle.format.specs.Looks.{all_zero, frame_look, on_look, look_for, look_at, tag_look}
use Rattle.format.specs.Looks.{Look}
use Rattle.std.specs.Prelude.{true, false, Ok, Err}
use Rattle.format.specs.Refusals.{refusal}

-- ---- tags and frames by hand

-- a tag of an edition with header flags, whose header says a size
abbrev tag_of : ℕ → ℕ → ℕ → List ℕ → List ℕ
tag_of edition flags size s = ascii "ID3" ++ (edition ∷ 0 ∷ flags ∷ 0 ∷ 0 ∷ 0 ∷ size ∷ s)

-- a frame of a 2.4 or 2.3 tag whose size is below 128
abbrev frame : List ℕ → ℕ → ℕ → List ℕ → List ℕ
frame id size flags b = id ++ (0 ∷ 0 ∷ 0 ∷ size ∷ 0 ∷ flags ∷ b)

-- a raw frame of one byte, eleven bytes in all, with flags
abbrev one : ℕ → List ℕ
one flags = frame (ascii "XYZW") 1 flags (7 ∷ [])

-- one whose id is not UTF-8
abbrev bad : List ℕ
bad = frame (0x58 ∷ 0xFF ∷ 0x59 ∷ 0x5A ∷ []) 1 0 (7 ∷ [])

-- a chapter with a run of so many bytes
abbrev chapter : ℕ → List ℕ → List ℕ
chapter n run = frame (ascii "CHAP") n 0 (0x63 ∷ 0 ∷ zeros 16 ++ run)

-- ---- the cases

pub record Looked : Type 0 where
  -- plain: frames and zeros; none; fewer bytes left than a header; bytes after the tag
  pub is_plain : tag_look (tag_of 4 0 13 (one 0 ++ zeros 2)) ≡ Ok true
  pub no_frame : tag_look (tag_of 3 0 0 []) ≡ Ok true
  pub sound_after : tag_look (tag_of 4 0 12 (one 0 ++ (0 ∷ 255 ∷ 251 ∷ []))) ≡ Ok true
  pub other_flags : tag_look (tag_of 4 0x30 11 (one 0)) ≡ Ok true
  -- a data length alone
  pub data_length : tag_look (tag_of 4 0 15 (frame (ascii "XYZW") 5 1 (0 ∷ 0 ∷ 0 ∷ 1 ∷ 7 ∷ []))) ≡ Ok true
  -- a byte of the tag is missing; padding that is not zero, in a header's room and in less
  pub byte_missing : tag_look (tag_of 4 0 14 (one 0 ++ zeros 2)) ≡ Ok false
  pub not_zero : tag_look (tag_of 4 0 13 (one 0 ++ (0 ∷ 1 ∷ []))) ≡ Ok false
  pub not_zero_22 : tag_look (tag_of 2 0 4 (0 ∷ 0 ∷ 0 ∷ 1 ∷ [])) ≡ Ok false
  pub zero_22 : tag_look (tag_of 2 0 4 (zeros 4)) ≡ Ok true
  -- an extended header
  pub extended : tag_look (tag_of 4 0x40 17 (0 ∷ 0 ∷ 0 ∷ 6 ∷ 1 ∷ 0 ∷ one 0)) ≡ Ok false
  pub extended_bad : tag_look (tag_of 4 0x40 17 (0 ∷ 0 ∷ 0 ∷ 6 ∷ 1 ∷ 0 ∷ bad)) ≡ Err (refusal 7)
  pub extended_small : tag_look (tag_of 4 0x40 17 (0 ∷ 0 ∷ 0 ∷ 5 ∷ 1 ∷ 0 ∷ bad)) ≡ Err (refusal 6)
  -- header flag 80: at once in 2.2 and 2.3, behind the header's checks; in 2.4 it is odd
  pub whole_23 : tag_look (tag_of 3 0x80 11 bad) ≡ Err (refusal 40)
  pub whole_22 : tag_look (tag_of 2 0x80 11 bad) ≡ Err (refusal 40)
  pub whole_flags : tag_look (tag_of 3 0x81 11 bad) ≡ Err (refusal 3)
  pub whole_24 : tag_look (tag_of 4 0x80 11 (one 0)) ≡ Ok false
  pub whole_24_bad : tag_look (tag_of 4 0x80 11 bad) ≡ Err (refusal 7)
  -- a compressed frame is odd; a flagged one stops at once, unless it is compressed
  pub compressed : tag_look (tag_of 4 0 11 (one 8)) ≡ Ok false
  pub compressed_bad : tag_look (tag_of 4 0 22 (one 8 ++ bad)) ≡ Err (refusal 7)
  pub flagged_bad : tag_look (tag_of 4 0 22 (one 2 ++ bad)) ≡ Err (refusal 40)
  pub bad_flagged : tag_look (tag_of 4 0 22 (bad ++ one 2)) ≡ Err (refusal 7)
  pub both_flags : tag_look (tag_of 4 0 22 (one 10 ++ bad)) ≡ Err (refusal 7)
  pub both_alone : tag_look (tag_of 4 0 11 (one 10)) ≡ Ok false
  -- a short frame is odd where reading takes it
  pub short_24 : tag_look (tag_of 4 0 11 (frame (ascii "XYZW") 2 0 (7 ∷ []))) ≡ Ok false
  pub short_23 : tag_look (tag_of 3 0 11 (frame (ascii "XYZW") 2 0 (7 ∷ []))) ≡ Err (refusal 5)
  -- a body that is refused
  pub no_rating : tag_look (tag_of 4 0 11 (frame (ascii "POPM") 1 0 (0 ∷ []))) ≡ Err (refusal 11)
  -- in a chapter's run: zeros and other bytes may be left over, and all else is as at the top level
  pub run_padded : tag_look (tag_of 4 0 41 (chapter 31 (one 0 ++ zeros 2))) ≡ Ok true
  pub run_left : tag_look (tag_of 4 0 41 (chapter 31 (one 0 ++ (0 ∷ 1 ∷ [])))) ≡ Ok true
  pub run_compressed : tag_look (tag_of 4 0 39 (chapter 29 (one 8))) ≡ Ok false
  pub run_short : tag_look (tag_of 4 0 39 (chapter 29 (frame (ascii "XYZW") 2 0 (7 ∷ [])))) ≡ Ok false
  pub run_flagged : tag_look (tag_of 4 0 50 (chapter 29 (one 2) ++ bad)) ≡ Err (refusal 40)
  pub run_bad : tag_look (tag_of 4 0 50 (chapter 29 bad ++ one 2)) ≡ Err (refusal 7)

pub looked : Looked
unfolding first zero_at zeros_in digits onto utf8_from kind_of ext_of header_refusal head_of names_len body_refusal run_of all_zero frame_look on_look look_for look_at tag_look
looked = record {
  is_plain = refl;
  no_frame = refl;
  sound_after = refl;
  other_flags = refl;
  data_length = refl;
  byte_missing = refl;
  not_zero = refl;
  not_zero_22 = refl;
  zero_22 = refl;
  extended = refl;
  extended_bad = refl;
  extended_small = refl;
  whole_23 = refl;
  whole_22 = refl;
  whole_flags = refl;
  whole_24 = refl;
  whole_24_bad = refl;
  compressed = refl;
  compressed_bad = refl;
  flagged_bad = refl;
  bad_flagged = refl;
  both_flags = refl;
  both_alone = refl;
  short_24 = refl;
  short_23 = refl;
  no_rating = refl;
  run_padded = refl;
  run_left = refl;
  run_compressed = refl;
  run_short = refl;
  run_flagged = refl;
  run_bad = refl;
}
