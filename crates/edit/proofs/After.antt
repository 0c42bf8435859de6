-- The tag after an accepted edit: its blocks and its records are the old ones with that one edit, and then zeros. Assumes nothing.
use mathlib.Core.Path.{◌≡◌, sym, ap, ◌∙◌, subst}
use Prim.Native.Nat.{ℕ, suc, ◌+◌, ◌-◌, ◌≤◌, ◌<◌}
use native.Mathlib.Omega.{arith}
use mathlib.Core.Bool.{false}
use mathlib.Core.List.{List, [], ◌∷◌, ◌++◌}
use lib.ListN.{length, take, drop, set, take-append-drop}
use lib.Seq.{take_all, drop-length}
use Rattle.format.specs.Bytes.{zeros}
use Rattle.format.specs.Header.{size_of}
use Rattle.format.specs.Record.{Rec, Fits}
use Rattle.format.specs.Encode.{refusal_of, encode}
use Rattle.format.specs.declared.Version.{Version}
use Rattle.format.specs.declared.Mode.{Mode}
use Rattle.format.proofs.Accepted as sounds
use Rattle.promises.specs.Reading.{Reading, ended, read_all}
use Rattle.blocks.specs.Blocks.{joined, blocks_in, Reads, PlainTag, region_in, splice}
use Rattle.blocks.proofs.Edits.{joined_append, splice_one}
use Rattle.blocks.proofs.Plain.{plain_size, plain_reads, plain_blocks, plain_with}
use Rattle.blocks.proofs.Bodies.{reads_length}
use Rattle.raise.specs.Raise.{tag_version, tag_blocks}
use Rattle.raise.proofs.Plainness.{Plain, records_of, tag_plain}
use Rattle.raise.proofs.OffFrames.{off_block, off_shows}
use Rattle.edit.specs.Promises.{Change, replacing, removing, appending, given_in, frames_for, from_of, up_to, edited, Missing, AllFit, adding_of, Editing, EditReads, ReplaceReads, RemoveReads, AppendReads}
use Rattle.edit.proofs.Accepting.{blocks_then, tag_then, Accepted, accepted}
use Rattle.edit.proofs.OtherBlocks.{with_front, with_part, with_length, with_behind, with_rest, with_same}
use Rattle.edit.proofs.EditedReads.{reads_whole, reads_edited}

-- ---- what is given

pub sound : (v : Version) (r : Rec) → refusal_of v Mode.Off false r ≡ 0 → Fits r.content → sounds.Sound v Mode.Off r
sound v r e f = sounds.accepted v Mode.Off r e f

one_reads : (v : Version) (r : Rec) → sounds.Sound v Mode.Off r → Reads v 0 (encode v Mode.Off r ∷ []) (r ∷ [])
one_reads v r s = Reads.also (off_block v r s) (off_shows v r s) Reads.none

pub given_reads : (tag : List ℕ) (c : Change) → AllFit c → adding_of tag c ≡ 0 → Reads (tag_version tag) 0 (frames_for tag c) (given_in c)
given_reads tag (replacing i r) f e = one_reads (tag_version tag) r (sound (tag_version tag) r e f)
given_reads tag (removing i) f e = Reads.none
given_reads tag (appending r) f e = one_reads (tag_version tag) r (sound (tag_version tag) r e f)

-- ---- the padding is what the blocks leave of the size

pub padding_is : {v : Version} {bs : List (List ℕ)} {rs : List Rec} {p : ℕ} {tag : List ℕ} → PlainTag v bs rs p tag
    → region_in tag ≡ joined bs ++ zeros (size_of tag - length (joined bs))
padding_is {v} {bs} {rs} {p} {tag} t =
    let rest : p ≡ size_of tag - length (joined bs) = omega (arith, plain_size t) in
    t.region ∙ ap (λ (n : ℕ). joined bs ++ zeros n) rest

-- ---- the tag then

module _ {tag : List ℕ} {c : Change} (a : Accepted tag c) where
  pub was : Plain tag
  was = tag_plain tag a.looks

  abbrev pub records_before : List Rec
  records_before = records_of was.blocks

  pub front_same : take 10 (tag_then tag c) ≡ take 10 tag
  front_same = with_front tag was.is.all_there (blocks_then tag c)

  -- all bytes before the edited frame
  part_same : let n = 10 + length (joined (take (from_of (length (tag_blocks tag)) c) (tag_blocks tag))) in take n (tag_then tag c) ≡ take n tag
  part_same =
      let bs = tag_blocks tag in
      let i = from_of (length bs) c in
      let front = joined (take i bs) in
      let now = joined_append (take i bs) (frames_for tag c ++ drop (up_to (length bs) c) bs) in
      let before : joined bs ≡ front ++ joined (drop i bs) = ap joined (sym (take-append-drop i bs)) ∙ joined_append (take i bs) (drop i bs) in
      with_part tag was.is.all_there (blocks_then tag c) front _ now
      ∙ sym (with_part tag was.is.all_there bs front _ before)
      ∙ ap (take (10 + length front)) (with_same tag bs (padding_is was.is))

  -- and all behind the frames of before and of now
  rest_same : (m : ℕ) → length (joined (tag_blocks tag)) ≤ m → length (joined (blocks_then tag c)) ≤ m → m ≤ size_of tag → drop (10 + m) (tag_then tag c) ≡ drop (10 + m) tag
  rest_same m le now in_size =
      let bs = tag_blocks tag in
      with_rest tag was.is.all_there (blocks_then tag c) a.fits m now in_size
      ∙ sym (with_rest tag was.is.all_there bs (omega arith) m le in_size)
      ∙ ap (drop (10 + m)) (with_same tag bs (padding_is was.is))

  module _ (f : AllFit c) where
    pub then_plain : PlainTag (tag_version tag) (blocks_then tag c) (edited c (given_in c) records_before) (size_of tag - length (joined (blocks_then tag c))) (tag_then tag c)
    then_plain = plain_with was.is (reads_edited c was.is.reads (given_reads tag c f a.added)) a.fits

    pub then_blocks : tag_blocks (tag_then tag c) ≡ blocks_then tag c
    then_blocks = ap (λ (u : Version). blocks_in u (region_in (tag_then tag c))) then_plain.version ∙ plain_blocks then_plain

    editing : Editing c tag (tag_then tag c)
    editing =
        let reads = was.is.reads in
        record {
          records = records_before;
          before = plain_reads was.is;
          there = λ m. a.there (subst (λ (n : ℕ). Missing n c) (sym (reads_length reads)) m);
          after = plain_reads then_plain;
          none_short = reads_whole reads;
          none_short_after = reads_whole then_plain.reads;
          same_header = front_same;
          same_length = with_length tag was.is.all_there (blocks_then tag c) a.fits;
          same_behind = with_behind tag was.is.all_there (blocks_then tag c) a.fits;
          same_front =
              subst (λ (m : ℕ). let n = 10 + length (joined (take (from_of m c) (tag_blocks tag))) in take n (tag_then tag c) ≡ take n tag) (reads_length reads) part_same;
          same_rest = λ m le now in_size. rest_same m le (subst (λ (l : List (List ℕ)). length (joined l) ≤ m) then_blocks now) in_size;
          frames = reads;
          frames_after = subst (λ (l : List (List ℕ)). Reads (tag_version tag) 0 l (edited c (given_in c) records_before)) (sym then_blocks) then_plain.reads;
          moved = then_blocks;
          padding = padding_is was.is;
          padding_after =
              then_plain.region
              ∙ ap (λ (l : List (List ℕ)). joined l ++ zeros (size_of tag - length (joined l))) (sym then_blocks);
        }

pub edit_reads : EditReads
edit_reads c tag tag' f e =
    let g = accepted tag c e in
    subst (Editing c tag) (sym g.1) (editing g.0 f)

-- ---- each by itself

read_records : (o : Reading) {rs : List Rec} → o ≡ (rs, ended) → o.0 ≡ rs
read_records o e = ap (λ (x : Reading). x.0) e

pub below : (i n : ℕ) → (n ≤ i → ⊥) → i < n
below i n h = omega arith

pub replace_reads : ReplaceReads
replace_reads tag tag' i r work f e =
    let g = edit_reads (replacing i r) tag tag' f e in
    let rs = read_records (read_all tag work) (g.before work) in
    let lt : i < length g.records = below i (length g.records) g.there in (
      subst (λ (l : List Rec). i < length l) (sym rs) lt,
      g.after work ∙ ap {B = Reading} (λ (l : List Rec). (l, ended)) (splice_one i r g.records lt ∙ ap (λ (l : List Rec). set l i r) (sym rs)),
    )

pub remove_reads : RemoveReads
remove_reads tag tag' i work e =
    let g = edit_reads (removing i) tag tag' tt e in
    let rs = read_records (read_all tag work) (g.before work) in
    let lt : i < length g.records = below i (length g.records) g.there in (
      subst (λ (l : List Rec). i < length l) (sym rs) lt,
      g.after work ∙ ap {B = Reading} (λ (l : List Rec). (take i l ++ drop (suc i) l, ended)) (sym rs),
    )

-- after the last
pub edited_last : {A : Type 0} (x : A) (l : List A) → splice (length l) (length l) (x ∷ []) l ≡ l ++ (x ∷ [])
edited_last x l = rw (take_all (length l) l (omega arith), drop-length l)

pub append_reads : AppendReads
append_reads tag tag' r work f e =
    let g = edit_reads (appending r) tag tag' f e in
    g.after work ∙ ap {B = Reading} (λ (l : List Rec). (l, ended)) (edited_last r g.records ∙ ap (λ (l : List Rec). l ++ (r ∷ [])) (sym (read_records (read_all tag work) (g.before work))))
