-- Laws of the parts of a line: which there are, and how long they are. Assumes nothing.
use mathlib.Core.Path.{◌≡◌, refl}
use mathlib.Core.Bool.{Bool, true, false}
use mathlib.Core.List.{List, [], ◌∷◌}
use Prim.Native.Nat.{ℕ, ◌+◌, ◌*◌, ◌≤◌, ◌<◌}
use native.Mathlib.Omega.{arith}
use lib.ListN.{length, length-append}
use denote.Enum.Declared.{tag_of}
use types.Run.{OneOf, miss}
use Rattle.format.specs.declared.Version.{Version}
use Rattle.format.specs.declared.Version.TheVariants.{Id3v22, Id3v23, Id3v24}
use Rattle.format.specs.declared.Fields.{Fields}
use Rattle.format.specs.Ids.{id_len}
use Rattle.format.specs.Numbers.{bytes_of}
use Rattle.format.specs.Listing.{word_kind, word_short, detail, tag_line, frame_line, end_line, refused_line}
use Rattle.format.specs.contracts.Version as version
use Rattle.format.specs.contracts.Fields as fields
use Rattle.format.proofs.Numbers.{length_digits}
use Rattle.lines.specs.Placed.{shown, counted}
use Rattle.lines.proofs.Numbers.{twenty, five, hex_length}

-- ---- what is not of one kind

pub four_long : (v : Version) → OneOf (1 ∷ 2 ∷ []) (tag_of version.the_type v) → 4 ≡ id_len v
four_long Id3v22 k = absurd (miss (1 ∷ 2 ∷ []) 0 tt k)
four_long Id3v23 k = refl
four_long Id3v24 k = refl

pub no_detail : (f : Fields) → OneOf (0 ∷ 2 ∷ 3 ∷ 4 ∷ 5 ∷ []) (tag_of fields.the_type f) → (n : ℕ) (user : List ℕ) → (0 ≡ shown f n) × ([] ≡ detail f user)
no_detail (Fields.Text e) k n user = (refl, refl)
no_detail (Fields.Popularimeter r c) k n user = absurd (miss (0 ∷ 2 ∷ 3 ∷ 4 ∷ 5 ∷ []) 1 tt k)
no_detail (Fields.Table f b m v w) k n user = (refl, refl)
no_detail (Fields.Chapter a b c d) k n user = (refl, refl)
no_detail (Fields.Contents t o) k n user = (refl, refl)
no_detail Fields.Raw k n user = (refl, refl)

-- ---- how long lines are

kind_length : (f : Fields) → length (word_kind f) ≤ 14
kind_length (Fields.Text e) = omega arith
kind_length (Fields.Popularimeter r c) = omega arith
kind_length (Fields.Table f b m v w) = omega arith
kind_length (Fields.Chapter a b c d) = omega arith
kind_length (Fields.Contents t o) = omega arith
kind_length Fields.Raw = omega arith

short_length : (b : Bool) → length (word_short b) ≤ 6
short_length false = omega arith
short_length true = omega arith

detail_length : (f : Fields) (u : List ℕ) → (2 * shown f (length u) ≤ length (detail f u)) × (length (detail f u) ≤ 64 + 2 * shown f (length u))
detail_length (Fields.Text e) u = omega arith
detail_length (Fields.Popularimeter r c) u = simp length-append (omega (arith, hex_length u, twenty r, twenty c))
detail_length (Fields.Table f b m v w) u = omega arith
detail_length (Fields.Chapter a b c d) u = omega arith
detail_length (Fields.Contents t o) u = omega arith
detail_length Fields.Raw u = omega arith

id_length : (v : Version) (n : ℕ) → length (bytes_of (id_len v) n) ≤ 4
id_length Id3v22 n = omega (arith, length_digits 256 3 n)
id_length Id3v23 n = omega (arith, length_digits 256 4 n)
id_length Id3v24 n = omega (arith, length_digits 256 4 n)

pub tag_length : (edition size flags ext : ℕ) → length (tag_line edition size flags ext) ≤ 105
unfolding tag_line
tag_length edition size flags ext = simp length-append (omega (arith, twenty edition, twenty size, twenty flags, twenty ext))

pub frame_length : (n : ℕ) (v : Version) (id at body : ℕ) (short : Bool) (f : Fields) (u : List ℕ)
    → (2 * shown f (length u) ≤ length (frame_line n (bytes_of (id_len v) id) at body short f u))
    × (length (frame_line n (bytes_of (id_len v) id) at body short f u) ≤ 200 + 2 * shown f (length u))
unfolding frame_line
frame_length n v id at body short f u =
    simp length-append (omega (arith, twenty n, id_length v id, twenty at, twenty body, kind_length f, short_length short, detail_length f u))

pub counted_length : (word : List ℕ) (n : ℕ) → length (counted word n) ≤ length word + 21
counted_length word n = simp length-append (omega (arith, twenty n))

-- ---- how long the lines of a tag are for its bytes

pub end_length : (n : ℕ) → length (end_line n) ≤ 29
unfolding end_line
end_length n = simp length-append (omega (arith, twenty n))

pub refused_length : (k : ℕ) → length (refused_line k) ≤ 29
unfolding refused_line
refused_length k = simp length-append (omega (arith, twenty k))

-- how many bytes a body with a user of n bytes has at least: a popularimeter has a zero and a rating after it
abbrev pub body_least : Fields → ℕ → ℕ
body_least (Fields.Text e) n = 0
body_least (Fields.Popularimeter r c) n = n + 2
body_least (Fields.Table f b m v w) n = 0
body_least (Fields.Chapter a b c d) n = 0
body_least (Fields.Contents t o) n = 0
body_least Fields.Raw n = 0

kind_room : (f : Fields) (u : List ℕ) → length (word_kind f) + length (detail f u) ≤ 53 + 16 * body_least f (length u)
kind_room (Fields.Text e) u = omega arith
kind_room (Fields.Popularimeter r c) u = omega (arith, detail_length (Fields.Popularimeter r c) u)
kind_room (Fields.Table f b m v w) u = omega arith
kind_room (Fields.Chapter a b c d) u = omega arith
kind_room (Fields.Contents t o) u = omega arith
kind_room Fields.Raw u = omega arith

-- where its numbers have at most five digits, a frame's line has at most 16 bytes for each that the frame has
pub frame_room : (n : ℕ) (v : Version) (id at body : ℕ) (short : Bool) (f : Fields) (u : List ℕ) → n < 100000 → at < 100000 → body < 100000
    → length (frame_line n (bytes_of (id_len v) id) at body short f u) ≤ 16 * (6 + body_least f (length u))
unfolding frame_line
frame_room n v id at body short f u h i j =
    simp length-append (omega (arith, five n h, id_length v id, five at i, five body j, kind_room f u, short_length short))
