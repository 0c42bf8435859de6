-- In tags that were written with mode off lifting is accepted whenever the padding has room. Assumes nothing.
use mathlib.Core.Path.{◌≡◌, refl, sym, ap, ◌∙◌, subst}
use Prim.Native.Nat.{ℕ, ◌+◌, ◌^◌, ◌≤◌, ◌<◌}
use native.Mathlib.Omega.{arith}
use mathlib.Core.Bool.{Bool, true, false}
use mathlib.Core.List.{List, [], ◌∷◌}
use lib.ListN.{length, get_or}
use borrow.Author.Tests.{ltb-true, ltb-false}
use Rattle.format.specs.Frame.{head_len}
use Rattle.format.specs.Header.{version_of}
use Rattle.format.specs.Popularimeter.{rating_in, counter_of, counter_bytes}
use Rattle.format.specs.Record.{Rec, popularimeter}
use Rattle.format.specs.Encode.{encode, refusal_of}
use Rattle.format.specs.Looks.{tag_look}
use Rattle.format.specs.declared.Version.{Version}
use Rattle.format.specs.declared.Mode.{Mode}
use Rattle.format.specs.declared.Mode.TheVariants.{Off}
use Rattle.promises.specs.Reading.{Reading}
use Rattle.promises.specs.Written.{Written}
use Rattle.blocks.specs.Blocks.{PlainTag}
use Rattle.blocks.proofs.Encoded.{encoded}
use Rattle.blocks.proofs.Plain.{plain_reads}
use Rattle.blocks.proofs.Writes.{written_plain}
use Rattle.raise.specs.Raise.{body_in, field_in, places_from, block_at, Answer, tag_version, tag_blocks}
use Rattle.raise.specs.Promises.{counted, records_from, PlainRuns}
use Rattle.raise.proofs.Plainness.{plain_at, records_of, records_at, tag_plain}
use Rattle.raise.proofs.Search.{found}
use Rattle.raise.proofs.Absent.{search_reads}
use Rattle.raise.proofs.Written.{encoded_at, written_looks}
use Rattle.edit.specs.Lift.{meter_id, lifted_of}
use Rattle.edit.specs.LiftPromises.{sum_in, lift_rec, Outgrows, WrittenLifts}
use Rattle.edit.proofs.Written.{Framed, framed}
use Rattle.edit.proofs.LiftMeters.{meter_of, found_meter, meter_reads, meter_again, meter_len, frame_long}
use Rattle.edit.proofs.LiftAccepting.{fits_in, lift_in}
use Rattle.edit.proofs.LiftGrows.{joined_set}
use Rattle.edit.proofs.LiftRooms.{grown_meter, frames_is, lift_no_room}
use Rattle.std.specs.Prelude.{Ok}

-- the parts of a popularimeter's record
same_parts : {id id' rating rating' counter counter' : ℕ} {user : List ℕ} → counted id user rating counter ≡ counted id' user rating' counter'
    → (id ≡ id') × (rating ≡ rating') × (counter ≡ counter')
same_parts {id} {id'} {rating} {rating'} {counter} {counter'} {user} e =
    let c : popularimeter user rating counter ≡ popularimeter user rating' counter' = ap (λ (r : Rec). r.content) e in
    (ap (λ (r : Rec). r.id) e, (cc), (cc))

module _ {version padding : ℕ} {records : List Rec} {tag user : List ℕ} {i id rating counter : ℕ} (w : Written version 0 padding records tag)
    (runs : PlainRuns (version_of version) records) (only : records_from user 0 records ≡ i ∷ [])
    (is : get_or records i (counted id user rating counter) ≡ counted id user rating counter) where
  p : PlainTag (version_of version) (encoded (version_of version) Off records) records padding tag
  p = written_plain version padding records tag w

  f : Framed padding records tag
  f = (framed version padding records tag w).1

  looks : tag_look tag ≡ Ok true
  looks = written_looks version padding records tag w runs

  written_place : places_from (tag_version tag) user 0 (tag_blocks tag) ≡ i ∷ []
  written_place = search_reads tag user [] looks ∙ ap (λ (o : Reading). records_from user 0 o.0) (plain_reads p []) ∙ only

  lt : i < length (tag_blocks tag)
  lt = (found (tag_version tag) user (tag_blocks tag) i [] written_place).0

  -- what the block reads as is the record that was written
  block_reads : meter_of (tag_version tag) user (rating_in (body_in (tag_version tag) (block_at (tag_blocks tag) i))) (counter_of (field_in (tag_version tag) (block_at (tag_blocks tag) i)))
      ≡ counted id user rating counter
  unfolding found_meter
  block_reads =
      let q = tag_plain tag looks in
      let r = counted id user rating counter in
      let same : records_of q.blocks ≡ records = ap (λ (o : Reading). o.0) (sym (plain_reads q.is []) ∙ plain_reads p []) in
      let m = found_meter (plain_at q.blocks i lt) (found (tag_version tag) user (tag_blocks tag) i [] written_place).1 in
      sym (meter_reads m) ∙ sym (records_at q.blocks i r lt) ∙ ap (λ (l : List Rec). get_or l i r) same ∙ is

  abbrev u : Version
  u = tag_version tag

  abbrev b : List ℕ
  b = block_at (tag_blocks tag) i

  block_parts : (meter_id u ≡ id) × (rating_in (body_in u b) ≡ rating) × (counter_of (field_in u b) ≡ counter)
  block_parts = same_parts block_reads

  block_is : block_at (tag_blocks tag) i ≡ encode (tag_version tag) Off (counted id user rating counter)
  block_is =
      let r = counted id user rating counter in
      ap (λ (l : List (List ℕ)). block_at l i) f.blocks ∙ encoded_at u records i r (omega (arith, lt, f.count)) ∙ ap (encode u Off) is

  module _ (amount : ℕ) (fits : counter + amount < 2 ^ 64) (room : length (counter_bytes (counter + amount)) ≤ length (counter_bytes counter) + padding)
      (taken : refusal_of (version_of version) Mode.Off false (counted id user rating (counter + amount)) ≡ 0) where
    sum_is : sum_in tag i amount ≡ counter + amount
    sum_is = ap (λ (n : ℕ). n + amount) block_parts.2

    lower : sum_in tag i amount < 2 ^ 64
    lower = subst (λ (n : ℕ). n < 2 ^ 64) (sym sum_is) fits

    wide_lifts : 256 ^ length (field_in u b) ≤ sum_in tag i amount → (lifted_of tag user amount).0 ≡ Ok (sum_in tag i amount)
    wide_lifts wide =
        let o : Outgrows tag user amount = record { looks = looks; i = i; only = written_place; small = lower; wide = wide } in
        let m = grown_meter o in
        let same_rec : lift_rec tag i amount ≡ counted id user rating (counter + amount) =
        meter_again m (sum_in tag i amount) ∙ (λ j. counted (block_parts.0 j) user (block_parts.1 j) (sum_is j)) in
        let fine : refusal_of u Mode.Off false (lift_rec tag i amount) ≡ 0 =
        ap (refusal_of u Mode.Off false) same_rec ∙ ap (λ (x : Version). refusal_of x Mode.Off false (counted id user rating (counter + amount))) p.version ∙ taken in
        let long : (n : ℕ) → length (encode u Off (counted id user rating n)) ≡ head_len u + meter_len user n =
        λ n. ap (λ (k : ℕ). length (encode u Off (counted k user rating n))) (sym block_parts.0) ∙ frame_long u user rating n in
        let old : length b ≡ head_len u + meter_len user counter = ap length block_is ∙ long counter in
        let new : length (encode u Off (lift_rec tag i amount)) ≡ head_len u + meter_len user (counter + amount) =
        ap (λ (r : Rec). length (encode u Off r)) same_rec ∙ long (counter + amount) in
        let sum = joined_set (tag_blocks tag) i (encode u Off (lift_rec tag i amount)) lt in
        (lift_no_room tag user amount o fine).enough (omega (arith, frames_is o, f.size))

    lifts_by : (t : Bool) → fits_in u b (sum_in tag i amount) ≡ t → (lifted_of tag user amount).0 ≡ Ok (sum_in tag i amount)
    lifts_by true e = ap (λ (x : Answer). x.0) (lift_in tag user amount i looks written_place lower (ltb-true _ _ e)).0
    lifts_by false e = wide_lifts (ltb-false _ _ e)

    lifts : (lifted_of tag user amount).0 ≡ Ok (counter + amount)
    lifts = lifts_by (fits_in u b (sum_in tag i amount)) refl ∙ ap Ok sum_is

pub written_lifts : WrittenLifts
written_lifts version padding records tag user i id rating counter amount w runs only is fits room taken = lifts w runs only is amount fits room taken
