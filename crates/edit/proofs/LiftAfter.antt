-- The tag after an accepted lift: plain, with that one block changed, and read with that one counter. Assumes nothing.
use mathlib.Core.Path.{◌≡◌, refl, sym, ap, ◌∙◌, subst}
use Prim.Native.Nat.{ℕ, suc, ◌+◌, ◌-◌, ◌^◌, ◌<◌}
use native.Mathlib.Omega.{arith}
use mathlib.Core.Bool.{Bool, true, false}
use mathlib.Core.List.{List, [], ◌∷◌}
use lib.ListN.{length, take, drop, get_or, set}
use borrow.Author.Tests.{ltb-true}
use Rattle.format.specs.Bytes.{pick, has, zero_at}
use Rattle.format.specs.Header.{flags_of, size_of}
use Rattle.format.specs.Popularimeter.{rating_in, counter_of}
use Rattle.format.specs.Record.{Rec}
use Rattle.format.specs.Encode.{encode, refusal_of}
use Rattle.format.specs.Looks.{tag_look}
use Rattle.format.specs.declared.Version.{Version}
use Rattle.format.specs.declared.Mode.{Mode}
use Rattle.format.proofs.Fronts.{front_byte}
use Rattle.blocks.specs.Blocks.{joined, blocks_in, Reads, PlainTag, splice, region_in}
use Rattle.blocks.proofs.Headers.{same_size}
use Rattle.blocks.proofs.Edits.{splice_one, reads_splice}
use Rattle.blocks.proofs.Bodies.{reads_length}
use Rattle.blocks.proofs.Plain.{plain_with, plain_blocks}
use Rattle.raise.specs.Raise.{body_in, field_in, places_from, block_at, tag_version, tag_blocks}
use Rattle.raise.proofs.Plainness.{plain_at, plain_set, records_of, records_at, Plain, tag_plain, plain_tag}
use Rattle.raise.proofs.Search.{found, places_set}
use Rattle.raise.proofs.Accepting.{sum_at}
use Rattle.raise.proofs.Absent.{no_zero}
use Rattle.edit.specs.Lift.{recounted}
use Rattle.edit.proofs.OtherBlocks.{with_front, with_length, with_behind}
use Rattle.edit.proofs.LiftMeters.{Meter, meter_of, found_meter, meter_reads, meter_shows, meter_mine, meter_again, counted_block, counted_meter, encoded_meter}
use Rattle.edit.proofs.LiftAccepting.{fits_in, lift_block, lift_refusal, lift_blocks, tag_lifted, Lifted}
use Rattle.std.specs.Prelude.{Ok}

-- ---- the block that a lift puts is a popularimeter of the same user and rating

pub no_zero_in : {v : Version} {b user : List ℕ} {rating counter : ℕ} → Meter v b user rating counter → zero_at user ≡ length user
no_zero_in {v} {b} m = ap zero_at (sym m.name) ∙ no_zero (body_in v b) ∙ ap length m.name

lift_meter : {v : Version} {b user : List ℕ} {rating counter : ℕ} (m : Meter v b user rating counter) (value : ℕ) → value < 2 ^ 64
    → lift_refusal v b value ≡ 0 → Meter v (lift_block v b value) user rating value
lift_meter {v} {b} {user} {rating} {counter} m value small taken = by (fits_in v b value) refl taken
  where
    by : (t : Bool) → fits_in v b value ≡ t → pick t 0 (refusal_of v Mode.Off false (recounted v b value)) ≡ 0
        → Meter v (pick t (counted_block v b value) (encode v Mode.Off (recounted v b value))) user rating value
    by true e h = counted_meter m value small (ltb-true _ _ e)
    by false e h =
        subst (λ (r : Rec). Meter v (encode v Mode.Off r) user rating value) (sym (meter_again m value))
        (encoded_meter v user rating value (no_zero_in m) small (subst (λ (r : Rec). refusal_of v Mode.Off false r ≡ 0) (meter_again m value) h))

-- ---- the tag after a lift

module _ {tag user : List ℕ} {amount : ℕ} (a : Lifted tag user amount) where
  abbrev v : Version
  v = tag_version tag

  abbrev bs : List (List ℕ)
  bs = tag_blocks tag

  abbrev i : ℕ
  i = a.i

  abbrev b : List ℕ
  b = block_at bs i

  abbrev value : ℕ
  value = sum_at tag i amount

  abbrev tag' : List ℕ
  tag' = tag_lifted tag i amount

  pub was_plain : Plain tag
  was_plain = tag_plain tag a.looks

  pub lt : a.i < length (tag_blocks tag)
  lt = (found v user bs i [] a.only).0

  -- the block as it was, and then
  abbrev pub rating : ℕ
  rating = rating_in (body_in (tag_version tag) (block_at (tag_blocks tag) a.i))

  pub old_meter : Meter (tag_version tag) (block_at (tag_blocks tag) a.i) user rating (counter_of (field_in (tag_version tag) (block_at (tag_blocks tag) a.i)))
  old_meter = found_meter (plain_at was_plain.blocks i lt) (found v user bs i [] a.only).1

  pub new_meter : Meter (tag_version tag) (lift_block (tag_version tag) (block_at (tag_blocks tag) a.i) (sum_at tag a.i amount)) user rating (sum_at tag a.i amount)
  new_meter = lift_meter old_meter value a.small a.taken

  abbrev pub records_before : List Rec
  records_before = records_of was_plain.blocks

  abbrev pub record_after : Rec
  record_after = meter_of (tag_version tag) user rating (sum_at tag a.i amount)

  pub record_was : get_or records_before a.i record_after ≡ meter_of (tag_version tag) user rating (counter_of (field_in (tag_version tag) (block_at (tag_blocks tag) a.i)))
  unfolding old_meter found_meter
  record_was = records_at was_plain.blocks i record_after lt ∙ meter_reads old_meter

  after_reads : Reads (tag_version tag) 0 (lift_blocks tag a.i (sum_at tag a.i amount)) (set records_before a.i record_after)
  after_reads =
      let new = lift_block v b value in
      let lt' : i < length records_before = omega (arith, lt, reads_length was_plain.is.reads) in
      let one : Reads v 0 (new ∷ []) (record_after ∷ []) = Reads.also new_meter.plain.block (meter_shows new_meter) Reads.none in
      let s = reads_splice i (suc i) was_plain.is.reads one in
      subst (λ (l : List (List ℕ)). Reads v 0 l (set records_before i record_after)) (splice_one i new bs lt)
      (subst (λ (l : List Rec). Reads v 0 (splice i (suc i) (new ∷ []) bs) l) (splice_one i record_after records_before lt') s)

  pub after_plain : PlainTag (tag_version tag) (lift_blocks tag a.i (sum_at tag a.i amount)) (set records_before a.i record_after)
      (size_of tag - length (joined (lift_blocks tag a.i (sum_at tag a.i amount)))) (tag_lifted tag a.i amount)
  after_plain = plain_with was_plain.is after_reads a.room

  pub front_same : take 10 (tag_lifted tag a.i amount) ≡ take 10 tag
  front_same = with_front tag was_plain.is.all_there (lift_blocks tag i value)

  pub length_same : length (tag_lifted tag a.i amount) ≡ length tag
  length_same = with_length tag was_plain.is.all_there (lift_blocks tag i value) a.room

  pub size_same : size_of (tag_lifted tag a.i amount) ≡ size_of tag
  size_same = same_size tag tag' (sym front_same)

  pub back_same : drop (10 + size_of tag) (tag_lifted tag a.i amount) ≡ drop (10 + size_of tag) tag
  back_same = with_behind tag was_plain.is.all_there (lift_blocks tag i value) a.room

  pub version_same : tag_version (tag_lifted tag a.i amount) ≡ tag_version tag
  version_same = after_plain.version

  pub after_blocks : tag_blocks (tag_lifted tag a.i amount) ≡ lift_blocks tag a.i (sum_at tag a.i amount)
  after_blocks = ap (λ (u : Version). blocks_in u (region_in tag')) version_same ∙ plain_blocks after_plain

  pub after_looks : tag_look (tag_lifted tag a.i amount) ≡ Ok true
  after_looks =
      let flags : flags_of tag' ≡ flags_of tag = front_byte 10 tag' tag front_same 5 (omega arith) in
      plain_tag after_plain (plain_set was_plain.blocks i new_meter.plain) (ap (has 0x80) flags ∙ was_plain.unflagged)

  -- every user is found where it was
  pub after_places : (other : List ℕ) → places_from (tag_version (tag_lifted tag a.i amount)) other 0 (tag_blocks (tag_lifted tag a.i amount))
      ≡ places_from (tag_version tag) other 0 (tag_blocks tag)
  after_places other =
      ap (λ (u : Version). places_from u other 0 (tag_blocks tag')) version_same
      ∙ ap (places_from v other 0) after_blocks
      ∙ places_set v other 0 bs i (lift_block v b value) (meter_mine new_meter other ∙ sym (meter_mine old_meter other))
