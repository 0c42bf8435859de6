-- The header of a finished tag is read back: nothing is refused, and the region is the frames and the padding. Assumes nothing.
use mathlib.Core.Path.{◌≡◌, refl, sym, ap, ◌∙◌}
use Prim.Native.Nat.{ℕ, zero, suc, ◌+◌, ◌%◌, ◌^◌, ◌≤◌, ◌<◌, min}
use native.Mathlib.Omega.{arith}
use mathlib.Core.Bool.{Bool, true, false, not, ◌&&◌, and-false}
use mathlib.Core.List.{List, [], ◌∷◌, ◌++◌}
use lib.ListN.{length, take, drop}
use lib.Seq.{slice, take_all}
use lib.Dec.{leb, eqb}
use borrow.Author.Tests.{le-leb}
use Rattle.format.specs.Bytes.{pick, first, has, ascii, zeros}
use Rattle.format.specs.Numbers.{digits, onto, synchsafe}
use Rattle.format.specs.Unsynch.{is_on}
use Rattle.format.specs.Header.{edition_of, flags_of, size_of, version_of, is_whole, cut_of, is_extended, ext_of, header_refusal, region_end, region_start, region_of}
use Rattle.format.specs.Encode.{edition_byte, flags_byte, region_bytes, tag_of}
use Rattle.format.specs.declared.Version.{Version}
use Rattle.format.specs.declared.Version.TheVariants.{Id3v22, Id3v23, Id3v24}
use Rattle.format.specs.declared.Mode.{Mode}
use Rattle.format.specs.declared.Mode.TheVariants.{Off, Crate, Standard}
use Rattle.format.proofs.Numbers.{synchsafe_back}

-- ---- any edition and flags that are taken, and any region

-- a tag with an edition, flags and a region
unfoldable pub tag_with : ℕ → ℕ → List ℕ → List ℕ
tag_with edition flags region = ascii "ID3" ++ (edition ∷ 0 ∷ flags ∷ synchsafe (length region) ++ region)

module _ (edition flags : ℕ) (region : List ℕ) (small : length region < 2 ^ 28) where
  abbrev tag : List ℕ
  tag = tag_with edition flags region

  size_back : size_of tag ≡ length region
  unfolding tag_with digits
  size_back = synchsafe_back (length region) small

  tag_length : length tag ≡ 10 + length region
  unfolding tag_with digits
  tag_length = omega arith

  cut_back : cut_of tag ≡ tag
  cut_back = take_all (10 + size_of tag) tag (omega (arith, size_back, tag_length))

  region_there : drop 10 tag ≡ region
  unfolding tag_with digits
  region_there = refl

  region_back : slice 10 (10 + length region) tag ≡ region
  region_back = ap (drop 10) (take_all (10 + length region) tag (omega (arith, tag_length))) ∙ region_there

  module _ (known : (leb 2 edition && leb edition 4) ≡ true) (low : eqb (flags % 16) 0 ≡ true) (plain : has 0x40 flags ≡ false) where
    ext_back : ext_of tag ≡ 0
    unfolding ext_of tag_with
    ext_back = rw plain

    refusal_back : header_refusal tag ≡ 0
    unfolding header_refusal first tag_with onto
    refusal_back = rw (le-leb 10 (length tag) (omega (arith, tag_length)), known, low, plain, and-false)

-- ---- a finished tag

edition_known : (v : Version) → (leb 2 (edition_byte v) && leb (edition_byte v) 4) ≡ true
edition_known Id3v22 = refl
edition_known Id3v23 = refl
edition_known Id3v24 = refl

flags_low : (m : Mode) → eqb (flags_byte m % 16) 0 ≡ true
flags_low Off = refl
flags_low Crate = refl
flags_low Standard = refl

flags_plain : (m : Mode) → has 0x40 (flags_byte m) ≡ false
flags_plain Off = refl
flags_plain Crate = refl
flags_plain Standard = refl

-- whether the frames of a tag are resynchronised as a whole
abbrev pub whole_by : Version → Mode → Bool
whole_by Id3v22 m = is_on m
whole_by Id3v23 m = is_on m
whole_by Id3v24 m = false

pub off_whole : (v : Version) → whole_by v Off ≡ false
off_whole Id3v22 = refl
off_whole Id3v23 = refl
off_whole Id3v24 = refl

whole_is : (v : Version) (m : Mode) → (has 0x80 (flags_byte m) && not (eqb (edition_byte v) 4)) ≡ whole_by v m
whole_is Id3v22 Off = refl
whole_is Id3v22 Crate = refl
whole_is Id3v22 Standard = refl
whole_is Id3v23 Off = refl
whole_is Id3v23 Crate = refl
whole_is Id3v23 Standard = refl
whole_is Id3v24 Off = refl
whole_is Id3v24 Crate = refl
whole_is Id3v24 Standard = refl

version_is : (v : Version) → version_of (edition_byte v) ≡ v
version_is Id3v22 = refl
version_is Id3v23 = refl
version_is Id3v24 = refl

-- what a reader finds in the header of a finished tag
pub record Headed (v : Version) (m : Mode) (tag region : List ℕ) : Type 0 where
  pub taken : header_refusal tag ≡ 0
  pub version : version_of (edition_of tag) ≡ v
  pub whole : is_whole tag ≡ whole_by v m
  pub start : region_start tag ≡ 10
  pub end : region_end tag ≡ 10 + length region
  pub lies : slice 10 (10 + length region) tag ≡ region
  pub long : length tag ≡ 10 + length region

pub tag_headed : (v : Version) (m : Mode) (padding : ℕ) (frames : List ℕ) → length (region_bytes v m padding frames) < 2 ^ 28
    → Headed v m (tag_of v m padding frames) (region_bytes v m padding frames)
unfolding tag_of tag_with
tag_headed v m padding frames small =
    let r = region_bytes v m padding frames in
    let e = edition_byte v in
    let f = flags_byte m in
    let long = tag_length e f r small in
    let end : region_end (tag_with e f r) ≡ 10 + length r = ap length (cut_back e f r small) ∙ long in
    record {
      taken = refusal_back e f r small (edition_known v) (flags_low m) (flags_plain m);
      version = version_is v;
      whole = whole_is v m;
      start = rw (ext_back e f r small (edition_known v) (flags_low m) (flags_plain m), end) (omega arith);
      end = end;
      lies = region_back e f r small;
      long = long;
    }
