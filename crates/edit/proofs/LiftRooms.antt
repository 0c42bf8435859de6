-- A sum that outgrows its bytes: 20 exactly when the frames together are too long; adding refuses the frame for nothing but its size. Assumes nothing.
use mathlib.Core.Path.{◌≡◌, refl, sym, ap, ◌∙◌, subst}
use Prim.Native.Nat.{ℕ, suc, ◌+◌, ◌^◌, ◌≤◌, ◌<◌}
use native.Mathlib.Omega.{arith}
use mathlib.Core.Bool.{Bool, true, false}
use mathlib.Core.List.{List, [], ◌++◌}
use lib.ListN.{length, take, drop, length-append}
use lib.Dec.{ltb, leb, eqb, eqb-suc-zero}
use borrow.Author.Tests.{ltb-true, ltb-false, lt-leb}
use Rattle.format.specs.Bytes.{pick}
use Rattle.format.specs.Header.{size_of}
use Rattle.format.specs.Frame.{head_len}
use Rattle.format.specs.Popularimeter.{rating_in, counter_of, counter_bytes}
use Rattle.format.specs.Encode.{refusal_of}
use Rattle.format.specs.declared.Version.{Version}
use Rattle.format.specs.declared.Version.TheVariants.{Id3v22, Id3v23, Id3v24}
use Rattle.format.specs.declared.Mode.{Mode}
use Rattle.blocks.specs.Blocks.{joined}
use Rattle.blocks.proofs.Edits.{splice_one}
use Rattle.blocks.proofs.Places.{joined_split}
use Rattle.blocks.proofs.Plain.{plain_size}
use Rattle.raise.specs.Raise.{body_in, field_in, block_at, Answer, tag_version, tag_blocks}
use Rattle.raise.proofs.Plainness.{plain_at, tag_plain}
use Rattle.raise.proofs.Search.{found}
use Rattle.edit.specs.Edit.{refuse, frame_for, fitted}
use Rattle.edit.specs.Lift.{counts_in, lifted_of}
use Rattle.edit.specs.LiftPromises.{adding_refusal, sum_in, lift_rec, Outgrows, frames_then, RoomFor, LiftNoRoom, LiftAddRefused, too_long, LiftAdds, LiftAddsLate}
use Rattle.edit.proofs.LiftMeters.{Meter, found_meter, meter_again, adding_meter}
use Rattle.edit.proofs.LiftCounters.{counter_eight}
use Rattle.edit.proofs.LiftAccepting.{place_lt, lift_out, put_is, lift_accept}
use Rattle.edit.proofs.LiftCame.{replaced_blocks, replaced_lifted}
use Rattle.edit.proofs.LiftGrows.{meter_long}
use Rattle.edit.proofs.LiftAfter.{no_zero_in}
use Rattle.std.specs.Prelude.{Ok, Err}
use Rattle.format.specs.Refusals.{refusal}

module _ {tag user : List ℕ} {amount : ℕ} (o : Outgrows tag user amount) where
  abbrev v : Version
  v = tag_version tag

  abbrev bs : List (List ℕ)
  bs = tag_blocks tag

  abbrev b : List ℕ
  b = block_at bs o.i

  abbrev value : ℕ
  value = sum_in tag o.i amount

  grown_lt : o.i < length (tag_blocks tag)
  grown_lt = place_lt tag user amount o.i o.looks o.only

  pub grown_meter : Meter (tag_version tag) (block_at (tag_blocks tag) o.i) user (rating_in (body_in (tag_version tag) (block_at (tag_blocks tag) o.i)))
      (counter_of (field_in (tag_version tag) (block_at (tag_blocks tag) o.i)))
  grown_meter = found_meter (plain_at (tag_plain tag o.looks).blocks o.i grown_lt) (found v user bs o.i [] o.only).1

  -- ---- what adding says

  adds : adding_refusal tag o.i amount ≡ too_long (tag_version tag) (length user + (2 + length (counter_bytes (sum_in tag o.i amount))))
  adds = ap (refusal_of v Mode.Off false) (meter_again grown_meter value) ∙ adding_meter v user (rating_in (body_in v b)) value (no_zero_in grown_meter)

  pub adding_not : adding_refusal tag o.i amount < 25
  adding_not = subst (λ (k : ℕ). k < 25) (sym adds) (by v _)
    where
      one : (t : Bool) (k : ℕ) → k < 25 → pick t k 0 < 25
      one true k h = h
      one false k h = omega arith

      by : (u : Version) (n : ℕ) → too_long u n < 25
      by Id3v22 n = one (leb (2 ^ 24) n) 23 (omega arith)
      by Id3v23 n = one (leb (2 ^ 28) n) 24 (omega arith)
      by Id3v24 n = one (leb (2 ^ 28) n) 24 (omega arith)

  -- the block ends in the tag
  block_within : length b ≤ size_of tag
  block_within =
      let p = tag_plain tag o.looks in
      let rest = joined (drop (suc o.i) bs) in
      omega (
        arith,
        ap length (joined_split bs o.i grown_lt),
        length-append (joined (take o.i bs)) (b ++ rest),
        length-append b rest,
        plain_size p.is,
      )

  -- and has more bytes than its header and the user
  block_long : head_len v + (length user + 2) ≤ length b
  block_long = omega (arith, meter_long grown_meter)

  late : (u : Version) → (u ≡ Id3v22 → ⊥) → head_len u + (length user + 2) ≤ length b → size_of tag < 2 ^ 28
      → too_long u (length user + (2 + length (counter_bytes value))) ≡ 0
  late Id3v22 ne long small = absurd (ne refl)
  late Id3v23 ne long small =
      let n = length user + (2 + length (counter_bytes value)) in
      let low : n < 2 ^ 28 = omega (arith, block_within, counter_eight value) in
      rw (lt-leb (2 ^ 28) n low)
  late Id3v24 ne long small =
      let n = length user + (2 + length (counter_bytes value)) in
      let low : n < 2 ^ 28 = omega (arith, block_within, counter_eight value) in
      rw (lt-leb (2 ^ 28) n low)

  adds_late : (tag_version tag ≡ Id3v22 → ⊥) → size_of tag < 2 ^ 28 → adding_refusal tag o.i amount ≡ 0
  adds_late ne small = adds ∙ late v ne block_long small

  -- ---- the room

  abbrev frames : ℕ
  frames = frames_then tag o.i amount

  pub frames_is : frames_then tag o.i amount ≡ length (joined (replaced_blocks tag o.i amount))
  frames_is = ap (λ (l : List (List ℕ)). length (joined l)) (splice_one o.i (frame_for tag (lift_rec tag o.i amount)) bs grown_lt)

  out_is : lifted_of tag user amount
      ≡ counts_in value (pick (eqb (adding_refusal tag o.i amount) 0) (fitted (replaced_blocks tag o.i amount) tag) (refuse (adding_refusal tag o.i amount) tag))
  out_is =
      lift_out tag user amount o.i o.looks o.only o.small o.wide
      ∙ ap (counts_in value) (put_is tag user amount o.i o.looks o.only o.small)

  add_refused : (k : ℕ) → adding_refusal tag o.i amount ≡ suc k → lifted_of tag user amount ≡ (Err (refusal (suc k)), tag)
  add_refused k e = out_is ∙ rw (e, eqb-suc-zero k)

  module _ (taken : adding_refusal tag o.i amount ≡ 0) where
    room_none : size_of tag < frames → lifted_of tag user amount ≡ (Err (refusal 20), tag)
    unfolding fitted
    room_none h =
        let n = length (joined (replaced_blocks tag o.i amount)) in
        out_is ∙ rw (taken, lt-leb n (size_of tag) (omega (arith, frames_is)))

    room_enough : frames ≤ size_of tag → (lifted_of tag user amount).0 ≡ Ok value
    unfolding replaced_lifted
    room_enough h = ap (λ (x : Answer). x.0) (lift_accept (replaced_lifted o taken (omega (arith, frames_is))))

    room_for : RoomFor tag user amount o
    room_for = record { none = room_none; only_then = only; enough = room_enough }
      where
        by : (tag' : List ℕ) (t : Bool) → ltb (size_of tag) frames ≡ t → lifted_of tag user amount ≡ (Err (refusal 20), tag') → size_of tag < frames
        by tag' true e f = ltb-true _ _ e
        by tag' false e f =
            let r : Ok value ≡ Err (refusal 20) = sym (room_enough (ltb-false _ _ e)) ∙ ap (λ (x : Answer). x.0) f in
            absurd (let z : ◌≡◌ {A = ℕ} 0 1 = cc in omega arith)

        only : (tag' : List ℕ) → lifted_of tag user amount ≡ (Err (refusal 20), tag') → size_of tag < frames
        only tag' e = by tag' (ltb (size_of tag) frames) refl e

pub lift_adds : LiftAdds
lift_adds tag user amount o = adds o

pub lift_adds_late : LiftAddsLate
lift_adds_late tag user amount o = adds_late o

pub lift_add_refused : LiftAddRefused
lift_add_refused tag user amount o = add_refused o

pub lift_no_room : LiftNoRoom
lift_no_room tag user amount o taken = room_for o taken
