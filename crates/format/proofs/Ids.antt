-- Laws of frame ids: what they are made of is UTF-8 and no zero, and an id is read back. Assumes nothing.
use mathlib.Core.Path.{◌≡◌, refl}
use Prim.Native.Nat.{ℕ, ◌≤◌, ◌<◌, ◌^◌}
use native.Mathlib.Omega.{arith}
use mathlib.Core.Bool.{Bool, true, false, ◌&&◌, ◌||◌}
use mathlib.Core.List.{List, [], ◌∷◌}
use lib.ListN.{length, get_or}
use lib.Dec.{leb, eqb, ltb}
use borrow.Author.Tests.{ltb-true, leb-true, lt-ltb, ne_eqb}
use Rattle.laws.proofs.Bools.{and_true}
use Rattle.format.specs.Numbers.{digits, number, bytes_of}
use Rattle.format.specs.Ids.{utf8_from, is_utf8, id_len, is_id_byte, all_id_bytes, is_id}
use Rattle.format.specs.declared.Version.{Version}
use Rattle.format.specs.declared.Version.TheVariants.{Id3v22, Id3v23, Id3v24}
use Rattle.format.proofs.Numbers.{number_back}

-- ---- one byte

within : (b : ℕ) (letter : Bool) → (leb 0x41 b && leb b 0x5A) ≡ letter → (letter || (leb 0x30 b && leb b 0x39)) ≡ true → (0x30 ≤ b) × (b ≤ 0x5A)
within b true h e =
    let p = and_true (leb 0x41 b) (leb b 0x5A) h in
    omega (arith, leb-true 0x41 b p.0, leb-true b 0x5A p.1)
within b false h e =
    let p = and_true (leb 0x30 b) (leb b 0x39) e in
    omega (arith, leb-true 0x30 b p.0, leb-true b 0x39 p.1)

pub id_byte : (b : ℕ) → is_id_byte b ≡ true → (0x30 ≤ b) × (b ≤ 0x5A)
id_byte b e = within b (leb 0x41 b && leb b 0x5A) refl e

-- ---- the bytes of an id

pub bytes_utf8 : (s : List ℕ) → all_id_bytes s ≡ true → is_utf8 s ≡ true
unfolding all_id_bytes utf8_from
bytes_utf8 [] e = refl
bytes_utf8 (x ∷ s) e =
    let p = and_true (is_id_byte x) (all_id_bytes s) e in
    let ascii : ltb x 0x80 ≡ true = lt-ltb x 0x80 (omega (arith, id_byte x p.0)) in
    rw ascii (bytes_utf8 s p.1)

-- the first is not the zero that ends a walk
pub bytes_start : (s : List ℕ) → 0 < length s → all_id_bytes s ≡ true → eqb (get_or s 0 0) 0 ≡ false
unfolding all_id_bytes
bytes_start [] h e = absurd (omega arith)
bytes_start (x ∷ s) h e =
    let p = and_true (is_id_byte x) (all_id_bytes s) e in
    ne_eqb x 0 (λ z. omega (arith, id_byte x p.0))

-- ---- an id that may be written

id_some : (v : Version) (id : ℕ) → 0 < length (bytes_of (id_len v) id)
unfolding digits
id_some Id3v22 id = omega arith
id_some Id3v23 id = omega arith
id_some Id3v24 id = omega arith

module _ (v : Version) (id : ℕ) (is : is_id v id ≡ true) where
  id_parts : (ltb id (256 ^ id_len v) ≡ true) × (all_id_bytes (bytes_of (id_len v) id) ≡ true)
  id_parts = and_true (ltb id (256 ^ id_len v)) (all_id_bytes (bytes_of (id_len v) id)) is

  pub id_back : number (bytes_of (id_len v) id) ≡ id
  id_back = number_back (id_len v) id (ltb-true id (256 ^ id_len v) id_parts.0)

  pub id_is_utf8 : is_utf8 (bytes_of (id_len v) id) ≡ true
  id_is_utf8 = bytes_utf8 (bytes_of (id_len v) id) id_parts.1

  pub id_starts : eqb (get_or (bytes_of (id_len v) id) 0 0) 0 ≡ false
  id_starts = bytes_start (bytes_of (id_len v) id) (id_some v id) id_parts.1
