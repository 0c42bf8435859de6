-- A frame is its header and its stored body, put one after the other. Assumes nothing.
use mathlib.Core.Path.{◌≡◌, refl, sym, ap, ◌∙◌}
use Prim.Native.Nat.{ℕ, ◌+◌, ◌≤◌}
use native.Mathlib.Omega.{arith}
use mathlib.Core.Bool.{false}
use mathlib.Core.List.{List, ◌++◌}
use lib.ListN.{length}
use lib.Seq.{sets, length-sets}
use Rattle.laws.proofs.Stores.{sets_append}
use Rattle.format.specs.Bytes.{pick}
use Rattle.format.specs.Numbers.{digits, bytes_of, synchsafe}
use Rattle.format.specs.Unsynch.{is_on, guards, unsync}
use Rattle.format.specs.Frame.{head_len}
use Rattle.format.specs.Record.{Rec}
use Rattle.format.specs.Encode.{body_bytes, stored_of, head_bytes, encode}
use Rattle.format.specs.declared.Version.{Version}
use Rattle.format.specs.declared.Version.TheVariants.{Id3v22, Id3v23, Id3v24}
use Rattle.format.specs.declared.Mode.{Mode}
use Rattle.format.specs.declared.Mode.TheVariants.{Off, Crate, Standard}
use Rattle.format.proofs.Numbers.{length_digits}
use Rattle.format.proofs.Unsynch.{unsync_off}
use Rattle.format.proofs.Encoded.{head_length, encode_length}
use Rattle.writer.specs.Pens.{Putting, put_of}
use Rattle.writer.specs.Layouts.{body_mode}
use Rattle.writer.specs.declared.pens.Pen.{Pen}

-- ---- the header

-- the bytes of a number, then more
pub bytes_put : {o₁ o₂ : List ℕ} {p : ℕ} (o : List ℕ) (at k n : ℕ) (l : List ℕ) → o₁ ≡ sets o at (bytes_of k n) → o₂ ≡ sets o₁ p l → p ≡ at + k
    → o₂ ≡ sets o at (bytes_of k n ++ l)
bytes_put o at k n l e₁ e₂ ep =
    let d = bytes_of k n in
    e₂ ∙ rw (ep, e₁) (ap (λ (j : ℕ). sets (sets o at d) (at + j) l) (sym (length_digits 256 k n)) ∙ sym (sets_append o at d l))

pub long_head : (m : Mode) (id size : ℕ) → bytes_of 4 id ++ (synchsafe size ++ bytes_of 2 (pick (is_on m) 2 0)) ≡ head_bytes Id3v24 m id size
unfolding digits
long_head Off id size = refl
long_head Crate id size = refl
long_head Standard id size = refl

pub plain_head : (m : Mode) (id size : ℕ) → bytes_of 4 id ++ (bytes_of 4 size ++ bytes_of 2 0) ≡ head_bytes Id3v23 m id size
unfolding digits
plain_head m id size = refl

-- ---- the body

pub stored_is : (v : Version) (m : Mode) (b : List ℕ) → unsync (guards (body_mode v m)) false b ≡ stored_of v m b
stored_is Id3v22 m b = unsync_off false b
stored_is Id3v23 m b = unsync_off false b
stored_is Id3v24 m b = refl

pub stored_length : {mode : Mode} (v : Version) (m : Mode) (b : List ℕ) → mode ≡ body_mode v m → 0 + length (unsync (guards mode) false b) ≡ length (stored_of v m b)
stored_length v m b e = rw (e, stored_is v m b) (omega arith)

-- ---- both

module _ (v : Version) (m : Mode) (r : Rec) (o : List ℕ) (at : ℕ) where
  abbrev stored : List ℕ
  stored = stored_of v m (body_bytes r.content)

  pub head_lies : at + length (encode v m r) ≤ length o → at + head_len v ≤ length o
  head_lies h = omega (arith, encode_length v m r)

  -- the header is put, and the body is stored by a mode
  module _ {o₁ : List ℕ} {k size : ℕ} {mode : Mode} (es : size ≡ length (stored_of v m (body_bytes r.content))) (ek : k ≡ at + head_len v)
      (e₁ : o₁ ≡ sets o at (head_bytes v m r.id size)) (em : mode ≡ body_mode v m) where
    stored_by : unsync (guards mode) false (body_bytes r.content) ≡ stored
    stored_by = rw em (stored_is v m (body_bytes r.content))

    pub body_lies : at + length (encode v m r) ≤ length o → k + length (unsync (guards mode) false (body_bytes r.content)) ≤ length o₁
    body_lies h = rw stored_by (omega (arith, ek, encode_length v m r, ap length e₁, length-sets o at (head_bytes v m r.id size)))

    pub frame_put : {o₂ : List ℕ} {pen : Pen} → ◌≡◌ {A = Putting} (pen, o₂) (put_of mode (record { at = k; prev = false }) (body_bytes r.content) o₁)
        → (pen.at ≡ at + length (encode v m r)) × (o₂ ≡ sets o at (encode v m r))
    unfolding encode
    frame_put e₂ =
        let head = head_bytes v m r.id (length stored) in
        let n : length head ≡ head_len v = head_length v m r.id (length stored) in
        let first : o₁ ≡ sets o at head = e₁ ∙ ap (λ (j : ℕ). sets o at (head_bytes v m r.id j)) es in (
          ap (λ (z : Putting). z.0.at) e₂ ∙ omega (arith, ek, ap length stored_by, encode_length v m r),
          ap (λ (z : Putting). z.1) e₂ ∙ rw (stored_by, ek, first, ← n) (sym (sets_append o at head stored)),
        )
