-- The tag header, the extended header and the region of the frames (document 01, "Header and walk"; 2.4.0 structure, sections 3.1 and 3.2). Assumes nothing.
use Rattle.std.specs.Prelude.{ℕ, ◌+◌, ◌%◌, min, Bool, true, false, not, ◌&&◌, ◌||◌, List, [], ◌∷◌, length, take, drop, get_or, ltb, leb, eqb}
use Rattle.std.proofs.Math.Seq.{slice}
use Rattle.format.specs.Bytes.{pick, first, has, named}
use Rattle.format.specs.Numbers.{number, from_synchsafe}
use Rattle.format.specs.declared.Version.{Version}
use Rattle.format.specs.declared.Version.TheVariants.{Id3v22, Id3v23, Id3v24}

-- ---- the ten bytes

abbrev pub edition_of : List ℕ → ℕ
edition_of tag = get_or tag 3 0

abbrev pub flags_of : List ℕ → ℕ
flags_of tag = get_or tag 5 0

abbrev pub size_of : List ℕ → ℕ
size_of tag = from_synchsafe (slice 6 10 tag)

abbrev pub version_of : ℕ → Version
version_of edition = pick (eqb edition 2) Id3v22 (pick (eqb edition 3) Id3v23 Id3v24)

-- all bytes after the header are unsynchronised (2.2 and 2.3)
abbrev pub is_whole : List ℕ → Bool
is_whole tag = has 0x80 (flags_of tag) && not (eqb (edition_of tag) 4)

-- ---- the tag, cut at its end: ten bytes and the header's size, or where the slice ends

abbrev pub cut_of : List ℕ → List ℕ
cut_of tag = take (10 + size_of tag) tag

-- ---- the extended header: its size stands in its first four bytes

abbrev pub is_extended : List ℕ → Bool
is_extended tag = has 0x40 (flags_of tag)

unfoldable pub ext_of : List ℕ → ℕ
ext_of tag = pick (is_extended tag) (from_synchsafe (slice 10 14 tag)) 0

-- ---- the checks in their order

abbrev pub header_checks : List ℕ → List ℕ
header_checks tag =
    pick (leb 10 (length tag) && eqb (number (take 3 tag)) (named "ID3")) 0 1
    ∷ pick (leb 2 (edition_of tag) && leb (edition_of tag) 4) 0 2
    ∷ pick (eqb (flags_of tag % 16) 0) 0 3
    ∷ pick (eqb (edition_of tag) 2 && is_extended tag) 4 0
    ∷ pick (is_extended tag && ltb (length (cut_of tag)) 16) 5 0
    ∷ pick (is_extended tag && ltb (ext_of tag) 6) 6 0
    ∷ []

unfoldable pub header_refusal : List ℕ → ℕ
header_refusal tag = first (header_checks tag)

-- ---- the region of the frames: from after both headers, or from the end if fewer bytes remain, to the tag's end

abbrev pub region_end : List ℕ → ℕ
region_end tag = length (cut_of tag)

abbrev pub region_start : List ℕ → ℕ
region_start tag = min (10 + ext_of tag) (region_end tag)

abbrev pub region_of : List ℕ → List ℕ
region_of tag = slice (region_start tag) (region_end tag) tag
