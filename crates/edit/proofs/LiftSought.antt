-- A lift by what was sought is one by the places of the blocks. Assumes nothing.
use mathlib.Core.Path.{◌≡◌, refl, sym, ap, ◌∙◌}
use Prim.Native.Nat.{ℕ, suc, ◌+◌, ◌-◌, ◌^◌, ◌<◌}
use native.Mathlib.Omega.{arith}
use mathlib.Core.Bool.{Bool, true, false, not}
use mathlib.Core.List.{List, [], ◌∷◌, ◌++◌, append_assoc, append-nil}
use lib.ListN.{length, take, drop, get_or, length-append, length-drop, get_or-append}
use lib.Seq.{get_or-take, get_or-drop, get_or-append-add, take-suc, length-take-le}
use lib.Dec.{ltb, eqb}
use Rattle.format.specs.Bytes.{pick, zero_at, zeros}
use Rattle.format.specs.Header.{size_of, is_whole, cut_of, header_refusal, region_start}
use Rattle.format.specs.Popularimeter.{rating_in, counter_of}
use Rattle.format.specs.Record.{Rec}
use Rattle.format.specs.Looks.{is_simple, tag_look, Look}
use Rattle.format.specs.declared.Version.{Version}
use Rattle.format.proofs.Popularimeter.{taken_counted}
use Rattle.writer.specs.declared.between.Gap.{Gap}
use Rattle.writer.specs.Between.{placed_of}
use Rattle.blocks.specs.Blocks.{joined, region_in}
use Rattle.blocks.proofs.Edits.{joined_append}
use Rattle.blocks.proofs.Places.{joined_split}
use Rattle.raise.specs.declared.seeking.Sought.{Sought}
use Rattle.raise.specs.Frames.{framed_of, looked_as, framed_with}
use Rattle.raise.specs.Raise.{user_of, body_in, is_mine, field_in, field_at, places_from, block_at, place_of, counted_tag, Answer, on_tag, tag_version, tag_blocks}
use Rattle.raise.specs.Promises.{counted}
use Rattle.raise.specs.Seeks.{sought_by, sought_on, sought_of, raised_at}
use Rattle.raise.proofs.Plainness.{PlainBlock, plain_at, Plain, tag_plain}
use Rattle.raise.proofs.Stored.{body_is, at_is, mine_kind, mine_user, kind_taken}
use Rattle.raise.proofs.Search.{found}
use Rattle.raise.proofs.Sums.{field_there}
use Rattle.raise.proofs.Along.{found_at, found_places, ends_here, in_tag}
use Rattle.edit.specs.Edit.{put_in}
use Rattle.edit.specs.Lift.{meter_id, recounted, counts_in, lift_to, lift_places, lifted_of}
use Rattle.edit.specs.Lifting.{byte_before, gap_of, outgrown_in, outgrown_at, or_else, lifted_at, lifted_by}
use Rattle.edit.proofs.Places.{gap_at, placed_put}
use Rattle.std.specs.Prelude.{Result, Ok, Err}
use Rattle.format.specs.declared.refusals.Refusal.{Refusal}
use Rattle.format.specs.Refusals.{refusal}
use Rattle.raise.specs.declared.frames.Framed.{Framed}

-- ---- a block of a plain tag

-- it ends where the next one begins
block_end : (bs : List (List ℕ)) (i : ℕ) → i < length bs → length (joined (take (suc i) bs)) ≡ length (joined (take i bs)) + length (block_at bs i)
block_end bs i lt =
    let b = block_at bs i in
    let whole : joined (take (suc i) bs) ≡ joined (take i bs) ++ (b ++ []) = ap joined (take-suc bs i [] lt) ∙ joined_append (take i bs) (b ∷ []) in
    ap length (whole ∙ ap (λ (l : List ℕ). joined (take i bs) ++ l) (append-nil b)) ∙ length-append (joined (take i bs)) b

module _ {tag : List ℕ} (t : Plain tag) (i : ℕ) (lt : i < length (tag_blocks tag)) where
  abbrev bs : List (List ℕ)
  bs = tag_blocks tag

  abbrev front : List ℕ
  front = joined (take i bs)

  abbrev b : List ℕ
  b = block_at bs i

  abbrev behind : List ℕ
  behind = joined (drop (suc i) bs)

  region_parts : region_in tag ≡ front ++ (b ++ (behind ++ zeros t.padding))
  region_parts =
      let z = zeros t.padding in
      t.is.region
      ∙ ap (λ (l : List ℕ). l ++ z) (joined_split bs i lt)
      ∙ append_assoc front (b ++ behind) z
      ∙ ap (λ (l : List ℕ). front ++ l) (append_assoc b behind z)

  -- the bytes of the block, where they lie in the tag
  block_byte : (k : ℕ) → k < length b → get_or tag (10 + (length front + k)) 0 ≡ get_or b k 0
  block_byte k le =
      let rest = behind ++ zeros t.padding in
      let there : length (region_in tag) ≡ size_of tag = length-take-le (size_of tag) (drop 10 tag) (omega (arith, length-drop 10 tag, t.is.all_there)) in
      let inside : length front + k < size_of tag = omega (arith, there, ap length region_parts, length-append front (b ++ rest), length-append b rest) in
      sym (get_or-drop 10 tag (length front + k) 0)
      ∙ sym (get_or-take (size_of tag) (drop 10 tag) (length front + k) 0 inside)
      ∙ ap (λ (l : List ℕ). get_or l (length front + k) 0) region_parts
      ∙ get_or-append-add front (b ++ rest) k 0
      ∙ get_or-append b rest 0 k le

-- the frames of a plain tag end with the bytes that its header counts
framed_plain : {tag : List ℕ} → Plain tag → framed_of tag ≡ Ok (framed_with (tag_version tag) (region_start tag) (10 + size_of tag) (not (is_simple tag)))
unfolding framed_of
framed_plain {tag} t =
    let ends : length (cut_of tag) ≡ 10 + size_of tag = length-take-le (10 + size_of tag) tag t.is.all_there in
    let found : Result Framed Refusal = Ok (framed_with (tag_version tag) (region_start tag) (length (cut_of tag)) (not (is_simple tag))) in
    let known : pick (eqb (header_refusal tag) 0) (pick (is_whole tag) (Err (refusal 40)) found) (Err (refusal (header_refusal tag))) ≡ found =
    rw (t.is.taken, t.is.no_whole) in
    known ∙ ap (λ (n : ℕ). Ok (framed_with (tag_version tag) (region_start tag) n (not (is_simple tag)))) ends

-- ---- the one popularimeter of a user

module _ (tag user : List ℕ) (looks : tag_look tag ≡ Ok true) (i : ℕ) (is : places_from (tag_version tag) user 0 (tag_blocks tag) ≡ i ∷ []) where
  abbrev t : Plain tag
  t = tag_plain tag looks

  abbrev v : Version
  v = tag_version tag

  abbrev block : List ℕ
  block = block_at (tag_blocks tag) i

  abbrev before : ℕ
  before = length (joined (take i (tag_blocks tag)))

  here : (i < length (tag_blocks tag)) × (is_mine (tag_version tag) user (block_at (tag_blocks tag) i) ≡ true)
  here = found v user (tag_blocks tag) i [] is

  plainly : PlainBlock (tag_version tag) (block_at (tag_blocks tag) i)
  plainly = plain_at t.blocks i here.0

  -- the user given is the block's own
  user_same : user_of (body_in v block) ≡ user
  user_same = ap user_of (body_is plainly.block) ∙ mine_user plainly.block user here.1

  -- the byte before the counter's is the rating
  rating_same : byte_before tag (place_of v (tag_blocks tag) i) ≡ rating_in (body_in v block)
  rating_same =
      let w = plainly.block in
      let body = drop w.start block in
      let rated = (taken_counted body (kind_taken plainly (mine_kind w user here.1))).rated in
      let k = w.start + (zero_at body + 1) in
      let inside : k < length block = omega (arith, rated, length-drop w.start block) in
      let place : 10 + (before + field_at v block) ≡ suc (10 + (before + k)) = omega (arith, at_is w) in
      ap (byte_before tag) place
      ∙ block_byte t i here.0 k inside
      ∙ sym (get_or-drop w.start block (zero_at body + 1) 0)
      ∙ ap rating_in (sym (body_is w))

  -- so that the record is the block's, with another counter
  record_same : (value : ℕ) → counted (meter_id v) user (byte_before tag (place_of v (tag_blocks tag) i)) value ≡ recounted v block value
  record_same value =
      ap (λ (n : ℕ). counted (meter_id v) user n value) rating_same ∙ ap (λ (u : List ℕ). counted (meter_id v) u (rating_in (body_in v block)) value) (sym user_same)

  -- what gives way is the block
  gap_same : gap_of (10 + before) (10 + (before + length block)) (10 + length (joined (tag_blocks tag))) (10 + size_of tag) ≡ gap_at i (suc i) tag
  gap_same =
      let to : 10 + (before + length block) ≡ 10 + length (joined (take (suc i) (tag_blocks tag))) = omega (arith, block_end (tag_blocks tag) i here.0) in
      ap (λ (n : ℕ). gap_of (10 + before) n (10 + length (joined (tag_blocks tag))) (10 + size_of tag)) to

  -- the frame outgrown is the block replaced
  outgrown_put : (value : ℕ)
      → outgrown_at (10 + before) (place_of v (tag_blocks tag) i) (10 + (before + length block)) (10 + length (joined (tag_blocks tag))) user value tag
      ≡ counts_in value (put_in i (suc i) (recounted v block value) tag)
  unfolding outgrown_at
  outgrown_put value =
      let start = place_of v (tag_blocks tag) i in
      let last = 10 + length (joined (tag_blocks tag)) in
      let r = counted (meter_id v) user (byte_before tag start) value in
      ap (outgrown_in (10 + before) start (10 + (before + length block)) last user value tag) (framed_plain t)
      ∙ ap (λ (g : Gap). counts_in value (placed_of v g r tag)) gap_same
      ∙ ap (λ (x : Rec). counts_in value (placed_of v (gap_at i (suc i) tag) x tag)) (record_same value)
      ∙ ap (counts_in value) (placed_put t i (suc i) (omega arith) (recounted v block value))

  -- in its bytes, or where these are too few the frame is replaced
  lifted_one : (amount : ℕ)
      → lift_to v (tag_blocks tag) i (counter_of (field_in v block) + amount) tag
      ≡ lifted_at (10 + before) (place_of v (tag_blocks tag) i) (10 + (before + length block)) (counter_of (field_in v block)) (10 + length (joined (tag_blocks tag))) user amount tag
  unfolding lift_to lifted_at raised_at counted_tag
  lifted_one amount =
      let start = place_of v (tag_blocks tag) i in
      let stop = 10 + (before + length block) in
      let n : length (field_in v block) ≡ stop - start = omega (arith, ends_here tag user looks i [] is) in
      let there = field_there start stop tag (omega (arith, ends_here tag user looks i [] is)) (in_tag tag user looks i [] is) in
      let value = counter_of (field_in v block) + amount in
      rw (n, there, outgrown_put value) (by (ltb value (2 ^ 64)) (ltb value (256 ^ (stop - start))) _ _ _)
    where
      by : (small fits : Bool) (n : ℕ) (s : List ℕ) (on : Answer)
          → pick small (pick fits (Ok n, s) on) (Err (refusal 43), tag)
          ≡ or_else (pick small (pick fits (Ok n, s) (Err (refusal 44), tag)) (Err (refusal 43), tag)) on
      by true true n s on = refl
      by true false n s on = refl
      by false fits n s on = refl

-- ---- the lift by what was sought

module _ (tag user : List ℕ) (amount : ℕ) where
  lifted_places : (l : List ℕ) → places_from (tag_version tag) user 0 (tag_blocks tag) ≡ l → tag_look tag ≡ Ok true
      → lift_places (tag_version tag) (tag_blocks tag) amount tag l
      ≡ lifted_by (sought_by (found_at (tag_version tag) 10 (tag_blocks tag) l) (10 + length (joined (tag_blocks tag)))) user amount tag
  lifted_places [] is looks = refl
  lifted_places (i ∷ []) is looks = lifted_one tag user looks i is amount
  lifted_places (i ∷ k ∷ l) is looks = refl

  lifted_look : (x : Look) → tag_look tag ≡ x
      → on_tag tag (lift_places (tag_version tag) (tag_blocks tag) amount tag (places_from (tag_version tag) user 0 (tag_blocks tag))) x
      ≡ lifted_by (looked_as x (sought_on (tag_version tag) user 10 (tag_blocks tag))) user amount tag
  unfolding sought_on
  lifted_look (Err k) e = refl
  lifted_look (Ok false) e = refl
  lifted_look (Ok true) e =
      rw (found_places (tag_version tag) user 10 (tag_blocks tag)) (lifted_places (places_from (tag_version tag) user 0 (tag_blocks tag)) refl e)

  lifted_sought : lifted_of tag user amount ≡ lifted_by (sought_of tag user) user amount tag
  unfolding lifted_of sought_of
  lifted_sought = lifted_look (tag_look tag) refl

  pub lift_unsought : {k : Refusal} → sought_of tag user ≡ Err k → ◌≡◌ {A = Answer} (Err k, tag) (lifted_of tag user amount)
  lift_unsought e = ap (λ (o : Result Sought Refusal). lifted_by o user amount tag) (sym e) ∙ sym lifted_sought

  pub lift_sought : {o : Sought} → sought_of tag user ≡ Ok o → lifted_at o.begin o.start o.stop o.counter o.last user amount tag ≡ lifted_of tag user amount
  lift_sought e = ap (λ (o : Result Sought Refusal). lifted_by o user amount tag) (sym e) ∙ sym lifted_sought
