-- In standard mode no FF of a whole tag is directly followed by E0 or above: header, frame headers, bodies, joints and padding included. Assumes nothing.
use mathlib.Core.Path.{◌≡◌, sym, subst}
use Prim.Native.Nat.{ℕ, zero, suc, ◌<◌, ◌^◌}
use native.Mathlib.Omega.{arith}
use mathlib.Core.Bool.{Bool, true, false}
use mathlib.Core.List.{List, [], ◌∷◌, ◌++◌, append_assoc}
use lib.ListN.{length}
use lib.Dec.{ltb}
use Rattle.laws.proofs.Bools.{and_true}
use Rattle.format.specs.Bytes.{zeros, ascii}
use Rattle.format.specs.Numbers.{digits, bytes_of, synchsafe}
use Rattle.format.specs.Unsynch.{unsynchronised, NoSync, ends_ff}
use Rattle.format.specs.Header.{version_of}
use Rattle.format.specs.Ids.{is_id_byte, all_id_bytes, is_id}
use Rattle.format.specs.Record.{Rec}
use Rattle.format.specs.Encode.{body_bytes, head_bytes, encode, edition_byte, flags_byte, region_bytes, tag_of}
use Rattle.format.specs.declared.Version.{Version}
use Rattle.format.specs.declared.Version.TheVariants.{Id3v22, Id3v23, Id3v24}
use Rattle.format.specs.declared.Mode.TheVariants.{Standard}
use Rattle.format.proofs.Encoded.{head_length}
use Rattle.format.proofs.Ids.{id_byte}
use Rattle.format.proofs.Unsynch.{Quiet, Low, quiet_at, quiet_append, quiet_low, quiet_behind_low, standard_quiet}
use Rattle.promises.specs.Promises.{frames_of, StandardMode}
use Rattle.promises.proofs.Sounds.{Sounds, nothing, also}
use Rattle.promises.proofs.Adding.{told_written}

-- ---- low bytes

id_bytes_low : (s : List ℕ) → all_id_bytes s ≡ true → Low s
unfolding all_id_bytes
id_bytes_low [] e = tt
id_bytes_low (x ∷ s) e =
    let both = and_true (is_id_byte x) (all_id_bytes s) e in
    (omega (arith, id_byte x both.0), id_bytes_low s both.1)

zeros_low : (n : ℕ) → Low (zeros n)
zeros_low zero = tt
zeros_low (suc n) = (omega arith, zeros_low n)

zeros_quiet : (prev : Bool) (n : ℕ) → Quiet prev (zeros n)
zeros_quiet prev n = quiet_low prev (zeros n) (zeros_low n)

-- ---- the frames of 2.4

-- a frame's header
head_low : (id size : ℕ) → is_id Id3v24 id ≡ true → Low (head_bytes Id3v24 Standard id size)
unfolding digits
head_low id size is =
    let both = and_true (ltb id (256 ^ 4)) (all_id_bytes (bytes_of 4 id)) is in
    omega (arith, id_bytes_low (bytes_of 4 id) both.1)

-- after it an unsynchronised body, which may end in FF
frame_quiet : (prev : Bool) (r : Rec) (more : List ℕ) → is_id Id3v24 r.id ≡ true → ((p : Bool) → Quiet p more) → Quiet prev (encode Id3v24 Standard r ++ more)
unfolding encode
frame_quiet prev r more is q =
    let b = body_bytes r.content in
    let stored : List ℕ = unsynchronised Standard b in
    let head : List ℕ = head_bytes Id3v24 Standard r.id (length stored) in
    let some : 0 < length head = omega (arith, head_length Id3v24 Standard r.id (length stored)) in
    rw (append_assoc head stored more)
    (quiet_behind_low prev head (stored ++ more) some (head_low r.id (length stored) is)
    (quiet_append false stored more (standard_quiet false b) (q (ends_ff false stored))))

frames_quiet : (prev : Bool) (padding : ℕ) {rs : List Rec} → Sounds Id3v24 Standard rs → Quiet prev (frames_of Id3v24 Standard rs ++ zeros padding)
frames_quiet prev padding nothing = zeros_quiet prev padding
frames_quiet prev padding (also {r} {rs} s ss) =
    rw append_assoc (frame_quiet prev r (frames_of Id3v24 Standard rs ++ zeros padding) s.is_id_lem (λ p. frames_quiet p padding ss))

-- ---- the region

-- frames that are unsynchronised as a whole, whatever they are
whole_quiet : (padding : ℕ) (frames : List ℕ) → Quiet false (unsynchronised Standard frames ++ zeros padding)
whole_quiet padding frames =
    let u : List ℕ = unsynchronised Standard frames in
    quiet_append false u (zeros padding) (standard_quiet false frames) (zeros_quiet (ends_ff false u) padding)

region_quiet : (v : Version) (padding : ℕ) {rs : List Rec} → Sounds v Standard rs → Quiet false (region_bytes v Standard padding (frames_of v Standard rs))
region_quiet Id3v22 padding {rs} ss = whole_quiet padding (frames_of Id3v22 Standard rs)
region_quiet Id3v23 padding {rs} ss = whole_quiet padding (frames_of Id3v23 Standard rs)
region_quiet Id3v24 padding ss = frames_quiet false padding ss

-- ---- the tag

-- the header, with a size
header_low : (v : Version) (size : ℕ) → Low (ascii "ID3" ++ (edition_byte v ∷ 0 ∷ flags_byte Standard ∷ synchsafe size))
unfolding digits
header_low Id3v22 size = omega arith
header_low Id3v23 size = omega arith
header_low Id3v24 size = omega arith

-- In standard mode no FF of a whole tag is directly followed by E0 or above.
pub standard_tag : (v : Version) (padding : ℕ) (rs : List Rec) → Sounds v Standard rs → NoSync (tag_of v Standard padding (frames_of v Standard rs))
unfolding tag_of
standard_tag v padding rs ss =
    let region : List ℕ = region_bytes v Standard padding (frames_of v Standard rs) in
    let header : List ℕ = ascii "ID3" ++ (edition_byte v ∷ 0 ∷ flags_byte Standard ∷ synchsafe (length region)) in
    quiet_at false (header ++ region) (quiet_behind_low false header region (omega arith) (header_low v (length region)) (region_quiet v padding ss))

-- ---- the promise

pub standard : StandardMode
standard version padding records tag w =
    let t = told_written version 2 padding records tag w in
    subst NoSync (sym t.is_tag_lem) (standard_tag (version_of version) padding records t.sounds)
