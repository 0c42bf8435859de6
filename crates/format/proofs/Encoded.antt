-- The header of a frame that was encoded is read back, whatever follows the frame. Assumes nothing.
use mathlib.Core.Path.{◌≡◌, refl}
use Prim.Native.Nat.{ℕ, ◌+◌, ◌-◌, ◌^◌, ◌≤◌, ◌<◌, min}
use native.Mathlib.Nat.{add-zero, sub-zero}
use native.Mathlib.Omega.{arith}
use mathlib.Core.Bool.{Bool, true, false, and-false}
use mathlib.Core.List.{List, ◌++◌, append_assoc}
use lib.ListN.{length, take, drop, get_or, length-append}
use lib.Seq.{take-append_seam, drop_at}
use lib.Dec.{eqb}
use borrow.Author.Tests.{leb-false, le-ltb}
use Rattle.format.specs.Bytes.{first}
use Rattle.format.specs.Numbers.{digits, number, bytes_of}
use Rattle.format.specs.Unsynch.{is_on}
use Rattle.format.specs.Ids.{id_len, is_id, is_utf8}
use Rattle.format.specs.Frame.{head_len, frame_size, is_encrypted, is_grouped, is_compressed, is_flagged, has_length, head_of}
use Rattle.format.specs.Record.{Rec}
use Rattle.format.specs.Encode.{body_bytes, stored_of, head_bytes, encode, size_checks}
use Rattle.format.specs.declared.Version.{Version}
use Rattle.format.specs.declared.Version.TheVariants.{Id3v22, Id3v23, Id3v24}
use Rattle.format.specs.declared.Mode.{Mode}
use Rattle.format.specs.declared.Mode.TheVariants.{Off, Crate, Standard}
use Rattle.format.specs.declared.Head.{Head}
use Rattle.format.proofs.Checks.{none_of, none_refused}
use Rattle.format.proofs.Numbers.{number_back, synchsafe_back}
use Rattle.format.proofs.Ids.{id_back, id_is_utf8, id_starts}
use Rattle.std.specs.Prelude.{Ok, Some}
use Rattle.format.specs.Frame.{head}

-- whether a frame is flagged 0002 when it is written
abbrev pub flagged_by : Version → Mode → Bool
flagged_by Id3v22 m = false
flagged_by Id3v23 m = false
flagged_by Id3v24 m = is_on m

pub off_flagged : (v : Version) → flagged_by v Off ≡ false
off_flagged Id3v22 = refl
off_flagged Id3v23 = refl
off_flagged Id3v24 = refl

-- what a size has to be below
abbrev pub size_limit : Version → ℕ
size_limit Id3v22 = 2 ^ 24
size_limit Id3v23 = 2 ^ 28
size_limit Id3v24 = 2 ^ 28

-- ---- the bytes of a header, and more after them

pub head_length : (v : Version) (m : Mode) (id size : ℕ) → length (head_bytes v m id size) ≡ head_len v
unfolding digits
head_length Id3v22 m id size = refl
head_length Id3v23 m id size = refl
head_length Id3v24 m id size = refl

pub id_there : (v : Version) (m : Mode) (id size : ℕ) (more : List ℕ) → take (id_len v) (head_bytes v m id size ++ more) ≡ bytes_of (id_len v) id
unfolding digits
id_there Id3v22 m id size more = refl
id_there Id3v23 m id size more = refl
id_there Id3v24 m id size more = refl

first_there : (v : Version) (m : Mode) (id size : ℕ) (more : List ℕ) → get_or (head_bytes v m id size ++ more) 0 0 ≡ get_or (bytes_of (id_len v) id) 0 0
unfolding digits
first_there Id3v22 m id size more = refl
first_there Id3v23 m id size more = refl
first_there Id3v24 m id size more = refl

pub size_there : (v : Version) (m : Mode) (id size : ℕ) (more : List ℕ) → size < size_limit v → frame_size v (head_bytes v m id size ++ more) ≡ size
unfolding digits
size_there Id3v22 m id size more h = number_back 3 size h
size_there Id3v23 m id size more h = number_back 4 size (omega arith)
size_there Id3v24 m id size more h = synchsafe_back size h

-- of the flags that are looked at only 0002 may be set
pub record Flags (v : Version) (flagged : Bool) (s : List ℕ) : Type 0 where
  pub encrypted : is_encrypted v s ≡ false
  pub grouped : is_grouped v s ≡ false
  pub compressed : is_compressed v s ≡ false
  pub no_length : has_length v s ≡ false
  pub is_flagged_lem : is_flagged v s ≡ flagged

pub flags_there : (v : Version) (m : Mode) (id size : ℕ) (more : List ℕ) → Flags v (flagged_by v m) (head_bytes v m id size ++ more)
unfolding digits
flags_there Id3v22 m id size more = search
flags_there Id3v23 m id size more = search
flags_there Id3v24 Off id size more = search
flags_there Id3v24 Crate id size more = search
flags_there Id3v24 Standard id size more = search

-- ---- what reading such a header gives

-- a header without a data length, and its body there whole
pub head_found : (v : Version) (depth : ℕ) (s : List ℕ) (id size : ℕ) (flagged : Bool) → depth ≤ 8 → eqb (get_or s 0 0) 0 ≡ false
    → is_utf8 (take (id_len v) s) ≡ true → number (take (id_len v) s) ≡ id → frame_size v s ≡ size → Flags v flagged s → head_len v + size ≤ length s
    → head_of v depth s ≡ Ok (Some (head id false flagged false (head_len v) size))
unfolding head_of first
head_found v depth s id size flagged shallow starts utf8 is_id_lem is-size flags whole =
    let least : min size (length s - head_len v) ≡ size = omega arith in
    rw (
      flags.no_length,
      is-size,
      add-zero,
      sub-zero,
      least,
      le-ltb (length s) (head_len v) (omega arith),
      starts,
      le-ltb 8 depth shallow,
      utf8,
      flags.encrypted,
      flags.grouped,
      le-ltb size 0 (omega arith),
      le-ltb (length s - head_len v) size (omega arith),
      and-false,
      flags.compressed,
      flags.is_flagged_lem,
      is_id_lem,
    )

-- ---- a frame

-- the checks of the size leave what can be read back
pub size_small : (v : Version) (m : Mode) (r : Rec) → first (size_checks v m r) ≡ 0 → length (stored_of v m (body_bytes r.content)) < size_limit v
size_small Id3v22 m r e = leb-false _ _ (none_refused _ 22 (none_of (size_checks Id3v22 m r) e 1))
size_small Id3v23 m r e = leb-false _ _ (none_refused _ 23 (none_of (size_checks Id3v23 m r) e 0))
size_small Id3v24 m r e = leb-false _ _ (none_refused _ 23 (none_of (size_checks Id3v24 m r) e 0))

module _ (v : Version) (m : Mode) (r : Rec) where
  abbrev stored : List ℕ
  stored = stored_of v m (body_bytes r.content)

  pub encode_length : length (encode v m r) ≡ head_len v + length (stored_of v m (body_bytes r.content))
  unfolding encode
  encode_length = rw (length-append, head_length)

  module _ (rest : List ℕ) where
    -- header, body, rest
    encode_parts : encode v m r ++ rest ≡ head_bytes v m r.id (length stored) ++ (stored ++ rest)
    unfolding encode
    encode_parts = append_assoc (head_bytes v m r.id (length stored)) stored rest

    pub body_there : take (length (stored_of v m (body_bytes r.content))) (drop (head_len v) (encode v m r ++ rest)) ≡ stored_of v m (body_bytes r.content)
    body_there =
        let head = head_bytes v m r.id (length stored) in
        rw (encode_parts, drop_at head (stored ++ rest) (head_len v) (head_length v m r.id (length stored)), take-append_seam)

    pub rest_there : drop (head_len v + length (stored_of v m (body_bytes r.content))) (encode v m r ++ rest) ≡ rest
    rest_there = drop_at (encode v m r) rest _ encode_length

pub head_back : (v : Version) (m : Mode) (depth : ℕ) (r : Rec) (rest : List ℕ) → depth ≤ 8 → is_id v r.id ≡ true → first (size_checks v m r) ≡ 0
    → head_of v depth (encode v m r ++ rest)
    ≡ Ok (Some (head r.id false (flagged_by v m) false (head_len v) (length (stored_of v m (body_bytes r.content)))))
head_back v m depth r rest shallow is passed =
    let id = r.id in
    let body : List ℕ = stored v m r in
    let size = length body in
    let more : List ℕ = body ++ rest in
    let s : List ℕ = head_bytes v m id size ++ more in
    let whole : head_len v + size ≤ length s = simp (length-append, head_length) (omega arith) in
    rw encode_parts
    (head_found v depth s id size (flagged_by v m) shallow
    (rw first_there (id_starts v id is))
    (rw id_there (id_is_utf8 v id is))
    (rw id_there (id_back v id is))
    (size_there v m id size more (size_small v m r passed))
    (flags_there v m id size more)
    whole)
