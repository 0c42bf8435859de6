-- A lift of a frame without a data length frees no bytes. Assumes nothing.
use mathlib.Core.Path.{◌≡◌, refl, sym, ap, ◌∙◌}
use Prim.Native.Nat.{ℕ, zero, suc, ◌+◌, ◌^◌, ◌≤◌, ◌<◌}
use native.Mathlib.Nat.{pow-le-pow_right}
use native.Mathlib.Omega.{arith}
use mathlib.Core.Bool.{Bool, true, false}
use mathlib.Core.List.{List, [], ◌∷◌}
use lib.ListN.{length, drop, set, length-append}
use lib.Seq.{length-take-le, length-sets}
use lib.Dec.{leb}
use borrow.Author.Tests.{ltb-false, leb-true, leb-false}
use Rattle.format.specs.Bytes.{pick, zero_at}
use Rattle.format.specs.Frame.{head_len, has_length, length_bytes}
use Rattle.format.specs.Popularimeter.{counter_bytes}
use Rattle.format.specs.Record.{Rec}
use Rattle.format.specs.Encode.{encode}
use Rattle.format.specs.declared.Version.{Version}
use Rattle.format.specs.declared.Version.TheVariants.{Id3v22, Id3v23, Id3v24}
use Rattle.format.specs.declared.Mode.TheVariants.{Off}
use Rattle.format.specs.Looks.{look_at}
use Rattle.format.proofs.Heads.{stands}
use Rattle.format.proofs.Looking.{frame_plain}
use Rattle.blocks.specs.Blocks.{joined}
use Rattle.blocks.proofs.Seen.{zero_le}
use Rattle.raise.specs.Raise.{user_of, field_in, field_at, field_of, block_at, tag_version, tag_blocks}
use Rattle.raise.proofs.Plainness.{PlainBlock, plain_at, tag_plain}
use Rattle.raise.proofs.Stored.{body_is, at_is, field_ends}
use Rattle.edit.specs.Lift.{recounted}
use Rattle.edit.specs.LiftPromises.{NoLength}
use Rattle.edit.proofs.LiftMeters.{Meter, meter_again, counted_block, frame_long}
use Rattle.edit.proofs.LiftCounters.{counter_holds}
use Rattle.edit.proofs.LiftAccepting.{fits_in, lift_block}

-- one block for another: the sum of lengths changes by these two
pub joined_set : (bs : List (List ℕ)) (i : ℕ) (b : List ℕ) → i < length bs → length (joined (set bs i b)) + length (block_at bs i) ≡ length (joined bs) + length b
joined_set [] i b lt = absurd (omega arith)
joined_set (c ∷ bs) zero b lt = omega (arith, length-append b (joined bs), length-append c (joined bs))
joined_set (c ∷ bs) (suc i) b lt = omega (arith, joined_set bs i b (omega arith), length-append c (joined (set bs i b)), length-append c (joined bs))

-- fewer bytes do not hold what outgrows as many
more_bytes : (m value : ℕ) → value < 2 ^ 64 → 256 ^ m ≤ value → m < length (counter_bytes value)
more_bytes m value small wide = by (leb (length (counter_bytes value)) m) refl
  where
    by : (t : Bool) → leb (length (counter_bytes value)) m ≡ t → m < length (counter_bytes value)
    by true e =
        let grows : 256 ^ length (counter_bytes value) ≤ 256 ^ m = pow-le-pow_right {n = 256} (omega arith) (leb-true _ _ e) in
        absurd (omega (arith, counter_holds value small))
    by false e = leb-false _ _ e

module _ {v : Version} {b user : List ℕ} {rating counter : ℕ} (m : Meter v b user rating counter) where
  -- its length by its parts
  pub meter_long : length b ≡ head_len v + (length_bytes v b + (length user + (2 + length (field_in v b))))
  meter_long =
      let w = m.plain.block in
      let body = drop w.start b in
      let s = stands v 1 b w.id w.compressed w.flagged false w.start w.len w.head in
      let name : length user ≡ zero_at body =
      ap length (sym m.name) ∙ ap (λ (l : List ℕ). length (user_of l)) (body_is w) ∙ length-take-le (zero_at body) body (zero_le body) in
      omega (arith, s.is_start, at_is w, field_ends m.plain m.kind, name)

  -- without a data length a lift does not make it shorter
  pub lift_grows : (value : ℕ) → value < 2 ^ 64 → has_length v b ≡ false → length b ≤ length (lift_block v b value)
  lift_grows value small none = by (fits_in v b value) refl
    where
      by : (t : Bool) → fits_in v b value ≡ t → length b ≤ length (pick t (counted_block v b value) (encode v Off (recounted v b value)))
      by true e = omega (arith, length-sets b (field_at v b) (field_of (field_in v b) value))
      by false e =
          let bytes : length_bytes v b ≡ 0 = rw none in
          let new : length (encode v Off (recounted v b value)) ≡ head_len v + (length user + (2 + length (counter_bytes value))) =
          ap (λ (r : Rec). length (encode v Off r)) (meter_again m value) ∙ frame_long v user rating value in
          omega (arith, meter_long, more_bytes (length (field_in v b)) value small (ltb-false _ _ e))

-- a plain block of 2.2 or 2.3 has none
early : (v : Version) (b : List ℕ) → PlainBlock v b → (v ≡ Id3v24 → ⊥) → has_length v b ≡ false
early Id3v22 b p ne = refl
early Id3v23 b p ne =
    let w = p.block in
    let s = stands Id3v23 1 b w.id w.compressed w.flagged false w.start w.len w.head in
    sym s.is_compressed_lem ∙ (frame_plain Id3v23 (look_at Id3v23 2) w.id w.compressed w.flagged false (drop w.start b) p.looks).no_compressed
early Id3v24 b p ne = absurd (ne refl)

pub no_length : NoLength
no_length tag i looks lt ne = early (tag_version tag) (block_at (tag_blocks tag) i) (plain_at (tag_plain tag looks).blocks i lt) ne
