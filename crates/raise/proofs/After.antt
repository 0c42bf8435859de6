-- The tag after an accepted raise: plain, with that one block changed, and read with that one counter. Assumes nothing.
use mathlib.Core.Path.{◌≡◌, sym, ap, ◌∙◌, subst}
use Prim.Native.Nat.{ℕ, suc, ◌+◌, ◌^◌, ◌≤◌, ◌<◌}
use native.Mathlib.Omega.{arith}
use mathlib.Core.Bool.{Bool, true, false}
use mathlib.Core.List.{List, [], ◌∷◌}
use lib.ListN.{length, take, drop, get_or, set, length-append, length-take}
use lib.Seq.{sets, length-sets}
use Rattle.laws.proofs.Stores.{take_sets}
use Rattle.format.specs.Bytes.{has, zeros, zero_at}
use Rattle.format.specs.Header.{flags_of, size_of}
use Rattle.format.specs.Popularimeter.{rating_in, counter_of}
use Rattle.format.specs.Record.{Rec, popularimeter}
use Rattle.format.specs.Walk.{is_resynced, shown_kind, shown_body}
use Rattle.format.specs.declared.Version.{Version}
use Rattle.format.specs.declared.Kind.{Kind}
use Rattle.blocks.specs.Blocks.{Block, joined, blocks_in, PlainTag, splice, region_in}
use Rattle.blocks.proofs.Seen.{content_in}
use Rattle.blocks.proofs.Edits.{splice_one}
use Rattle.blocks.proofs.Bodies.{reads_length}
use Rattle.blocks.proofs.Plain.{plain_blocks, plain_count}
use Rattle.blocks.proofs.Places.{within_blocks}
use Rattle.format.specs.Looks.{look_at, tag_look}
use Rattle.raise.specs.Raise.{is_mine, field_in, field_at, field_of, places_from, block_at, place_of, counted_tag, tag_version, tag_blocks}
use Rattle.raise.specs.Promises.{counted}
use Rattle.format.proofs.Fronts.{front_byte}
use Rattle.format.proofs.Looking.{Plainly, frame_plain}
use Rattle.raise.proofs.Plainness.{PlainBlock, plain_at, plain_set, records_of, records_at, Plain, tag_plain, plain_tag}
use Rattle.raise.proofs.Fields.{field_length, field_counter}
use Rattle.raise.proofs.Stored.{field_is, at_is, mine_kind, mine_user, kind_taken, field_ends, long_is, new_plain, new_mine}
use Rattle.raise.proofs.Search.{found, places_set}
use Rattle.raise.proofs.Stores.{same_begin}
use Rattle.raise.proofs.Accepting.{sum_at, tag_after, Accepted}
use Rattle.std.specs.Prelude.{Ok}

module _ {tag user : List ℕ} {amount : ℕ} (a : Accepted tag user amount) where
  abbrev v : Version
  v = tag_version tag

  abbrev bs : List (List ℕ)
  bs = tag_blocks tag

  abbrev i : ℕ
  i = a.i

  abbrev b : List ℕ
  b = block_at bs i

  abbrev value : ℕ
  value = sum_at tag i amount

  abbrev x : List ℕ
  x = field_of (field_in v b) value

  abbrev tag' : List ℕ
  tag' = tag_after tag i amount

  pub was_plain : Plain tag
  was_plain = tag_plain tag a.looks

  pub lt : a.i < length (tag_blocks tag)
  lt = (found v user bs i [] a.only).0

  pub mine : is_mine (tag_version tag) user (block_at (tag_blocks tag) a.i) ≡ true
  mine = (found v user bs i [] a.only).1

  pub at_block : PlainBlock (tag_version tag) (block_at (tag_blocks tag) a.i)
  at_block = plain_at was_plain.blocks i lt

  abbrev w : Block v b
  w = at_block.block

  pub kind : shown_kind (tag_version tag) at_block.block.id at_block.block.compressed ≡ Kind.Popularimeter
  kind = mine_kind w user mine

  pub long : length (field_of (field_in (tag_version tag) (block_at (tag_blocks tag) a.i)) (sum_at tag a.i amount)) ≡ length (field_in (tag_version tag) (block_at (tag_blocks tag) a.i))
  long = field_length (field_in v b) value

  -- and their number is the sum
  pub small : counter_of (field_of (field_in (tag_version tag) (block_at (tag_blocks tag) a.i)) (sum_at tag a.i amount)) < 2 ^ 64
  small = subst (λ (n : ℕ). n < 2 ^ 64) (sym (field_counter (field_in v b) value a.fits)) a.small

  -- the block then
  abbrev pub block_after : List ℕ
  block_after = sets (block_at (tag_blocks tag) a.i) (field_at (tag_version tag) (block_at (tag_blocks tag) a.i))
      (field_of (field_in (tag_version tag) (block_at (tag_blocks tag) a.i)) (sum_at tag a.i amount))

  abbrev body : List ℕ
  body = drop w.start b

  known : Plainly v (look_at v 2) w.id w.compressed w.flagged false body
  known = frame_plain v (look_at v 2) w.id w.compressed w.flagged false body at_block.looks

  -- the records before, and the one that changes
  abbrev pub records_before : List Rec
  records_before = records_of was_plain.blocks

  abbrev pub rating : ℕ
  rating = rating_in (drop at_block.block.start (block_at (tag_blocks tag) a.i))

  abbrev pub record_before : Rec
  record_before = counted at_block.block.id user rating (counter_of (field_in (tag_version tag) (block_at (tag_blocks tag) a.i)))

  abbrev pub record_after : Rec
  record_after = counted at_block.block.id user rating (sum_at tag a.i amount)

  content_was : content_in v (shown_body (is_resynced w.compressed w.flagged) body) (shown_kind v w.id w.compressed)
      ≡ popularimeter user rating (counter_of (field_in v b))
  content_was =
      ap (λ (t : Bool). content_in v (shown_body (is_resynced w.compressed t) body) (shown_kind v w.id w.compressed)) known.no_flagged
      ∙ ap (content_in v body) kind
      ∙ ap (λ (u : List ℕ). popularimeter u rating (counter_of (drop (zero_at body + 2) body))) (mine_user w user mine)
      ∙ ap (λ (f : List ℕ). popularimeter user rating (counter_of f)) (sym (field_is w))

  pub record_was : get_or records_before a.i record_after ≡ record_before
  unfolding at_block
  record_was =
      records_at was_plain.blocks i record_after lt
      ∙ (λ j. record { id = w.id; short = false; compressed = known.no_compressed j; content = content_was j })

  -- what a raise leaves is a plain tag with that one block and that one record changed
  pub after_plain : PlainTag (tag_version tag) (set (tag_blocks tag) a.i block_after) (set records_before a.i record_after) was_plain.padding (tag_after tag a.i amount)
  unfolding counted_tag
  after_plain =
      let c = w.compressed in
      let r : Rec = record { id = w.id; short = false; compressed = c; content = popularimeter (take (zero_at body) body) rating (counter_of x) } in
      let unflagged : is_resynced c w.flagged ≡ false = ap (is_resynced c) known.no_flagged in
      let p = plain_count was_plain.is i x lt w kind unflagged (kind_taken at_block kind) (long_is at_block kind x long small) small in
      let q = subst (λ (n : ℕ). PlainTag v (splice i (suc i) (sets b n x ∷ []) bs) (splice i (suc i) (r ∷ []) records_before) was_plain.padding
      (sets tag (10 + (length (joined (take i bs)) + n)) x)) (sym (at_is w)) p in
      let new : r ≡ record_after = (λ j. record {
        id = w.id;
        short = false;
        compressed = known.no_compressed j;
        content = popularimeter (mine_user w user mine j) rating (field_counter (field_in v b) value a.fits j);
      }) in
      let lt' : i < length records_before = omega (arith, lt, reads_length was_plain.is.reads) in
      let s = splice_one i block_after bs lt in
      let t : splice i (suc i) (r ∷ []) records_before ≡ set records_before i record_after = splice_one i r records_before lt' ∙ ap (set records_before i) new in
      subst (λ (l : List (List ℕ)). PlainTag v l (set records_before i record_after) was_plain.padding (sets tag (place_of v bs i) x)) s
      (subst (λ (l : List Rec). PlainTag v (splice i (suc i) (block_after ∷ []) bs) l was_plain.padding (sets tag (place_of v bs i) x)) t q)

  pub front_same : take 10 (tag_after tag a.i amount) ≡ take 10 tag
  unfolding counted_tag
  front_same = take_sets 10 tag (place_of v bs i) x (omega arith)

  pub length_same : length (tag_after tag a.i amount) ≡ length tag
  unfolding counted_tag
  length_same = length-sets tag (place_of v bs i) x

  pub version_same : tag_version (tag_after tag a.i amount) ≡ tag_version tag
  version_same = after_plain.version

  pub after_blocks : tag_blocks (tag_after tag a.i amount) ≡ set (tag_blocks tag) a.i block_after
  after_blocks = ap (λ (u : Version). blocks_in u (region_in tag')) version_same ∙ plain_blocks after_plain

  pub block_plain : PlainBlock (tag_version tag) block_after
  block_plain = new_plain at_block kind x long small

  pub after_looks : tag_look (tag_after tag a.i amount) ≡ Ok true
  after_looks =
      let flags : flags_of tag' ≡ flags_of tag = front_byte 10 tag' tag front_same 5 (omega arith) in
      plain_tag after_plain (plain_set was_plain.blocks i block_plain) (ap (has 0x80) flags ∙ was_plain.unflagged)

  -- every user is found where it was
  pub after_places : (other : List ℕ) → places_from (tag_version (tag_after tag a.i amount)) other 0 (tag_blocks (tag_after tag a.i amount))
      ≡ places_from (tag_version tag) other 0 (tag_blocks tag)
  after_places other =
      ap (λ (u : Version). places_from u other 0 (tag_blocks tag')) version_same
      ∙ ap (places_from v other 0) after_blocks
      ∙ places_set v other 0 bs i block_after (new_mine at_block kind x long small other)

  pub block_length : length block_after ≡ length (block_at (tag_blocks tag) a.i)
  block_length = length-sets b (field_at v b) x

  -- every block begins where it began
  pub after_begin_lem : (j : ℕ) → length (joined (take j (tag_blocks (tag_after tag a.i amount)))) ≡ length (joined (take j (tag_blocks tag)))
  after_begin_lem j =
      ap (λ (l : List (List ℕ)). length (joined (take j l))) after_blocks
      ∙ same_begin bs i block_after block_length j

  -- the bytes that change lie in the tag, behind its header
  pub inside_tag : place_of (tag_version tag) (tag_blocks tag) a.i + length (field_in (tag_version tag) (block_at (tag_blocks tag) a.i)) ≤ 10 + size_of tag
  inside_tag =
      let h = within_blocks bs i (field_at v b) x lt (omega (arith, field_ends at_block kind, long)) in
      omega (
        arith,
        long,
        ap length was_plain.is.region,
        length-append (joined bs) (zeros was_plain.padding),
        length-take (size_of tag) (drop 10 tag),
      )
