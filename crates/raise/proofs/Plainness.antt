-- A plain tag is plain block by block, and reads as the records of its blocks. Assumes nothing.
use mathlib.Core.Path.{◌≡◌, refl, sym, ap, ◌∙◌}
use Prim.Native.Nat.{ℕ, zero, suc, ◌+◌, ◌≤◌, ◌<◌}
use native.Mathlib.Omega.{arith}
use mathlib.Core.Bool.{false, not, true}
use mathlib.Core.List.{List, [], ◌∷◌, ◌++◌, append_assoc}
use lib.ListN.{length, take, drop, get_or, set, length-drop}
use lib.Seq.{take_all, take_at, drop_at, drop-append-le}
use lib.Dec.{leb}
use borrow.Author.Tests.{leb-true, le-leb, not-true}
use Rattle.laws.proofs.Bools.{and_true, false_not_true}
use Rattle.format.specs.Bytes.{has, zeros}
use Rattle.format.specs.Header.{edition_of, flags_of, size_of, version_of, is_whole, is_extended, header_refusal, region_of}
use Rattle.format.specs.Frame.{head_of}
use Rattle.format.specs.Record.{Rec, run_of}
use Rattle.format.specs.Walk.{Out, shown_kind, inside_of, walked}
use Rattle.format.specs.declared.Version.{Version}
use Rattle.format.specs.declared.Head.{Head}
use Rattle.format.proofs.Fronts.{same_head}
use Rattle.format.proofs.Strict.{inside_run}
use Rattle.blocks.specs.Blocks.{Block, NoBlock, Sight, sight_of, joined, AllBlocks, blocks_in, Reads, PlainTag, region_in, Shows}
use Rattle.blocks.proofs.Reading.{block_front}
use Rattle.blocks.proofs.Sights.{out_of, rec_in, verdict, sight_is}
use Rattle.blocks.proofs.Regions.{needs_none, quiet_head}
use Rattle.blocks.proofs.Edits.{zeros_quiet}
use Rattle.blocks.proofs.Headers.{same_region}
use Rattle.blocks.proofs.Tails.{no_block_short}
use Rattle.blocks.proofs.CutUp.{cut_up}
use Rattle.format.specs.Looks.{both, plain_if, all_zero, frame_look, on_look, look_at, is_simple, tag_look, Look}
use Rattle.raise.specs.Raise.{tag_version, tag_blocks}
use Rattle.format.proofs.Looking.{look_head, both_plain, if_plain, unless_plain, picked_plain, frame_plain, walk_plain, zero_zeros, zeros_zero, not_plain}
use Rattle.std.specs.Prelude.{Result, Option, Ok, Err, Some, None}
use Rattle.format.specs.declared.refusals.Refusal.{Refusal}

-- ---- a block

-- what a look at a block comes to
abbrev pub block_look : {v : Version} {b : List ℕ} → Block v b → Look
block_look {v} {b} w = frame_look v (look_at v 2) w.id w.compressed w.flagged false (drop w.start b)

pub record PlainBlock (v : Version) (b : List ℕ) : Type 0 where
  pub block : Block v b
  pub looks : block_look block ≡ Ok true

pub body_all : {v : Version} {b : List ℕ} (w : Block v b) → take w.len (drop w.start b) ≡ drop w.start b
body_all {v} {b} w = take_all w.len (drop w.start b) (omega (arith, length-drop w.start b, w.ends))

-- A look at bytes that begin with a block: at the block, then at what follows.
pub look_block : {v : Version} {b : List ℕ} (w : Block v b) (t : List ℕ) → look_at v 1 (b ++ t) ≡ both (block_look w) (look_at v 1 t)
unfolding on_look
look_block {v} {b} w t =
    let head = same_head v 1 b (b ++ t) w.head (block_front (w.start + w.len) b t w.ends) in
    let body : take w.len (drop w.start (b ++ t)) ≡ drop w.start b =
    ap (take w.len) (drop-append-le w.start b t (omega (arith, w.ends)))
    ∙ take_at (drop w.start b) t w.len (omega (arith, length-drop w.start b, w.ends)) in
    let rest : drop (w.start + w.len) (b ++ t) ≡ t = drop_at b t (w.start + w.len) (sym w.ends) in
    look_head v 1 (b ++ t) _ head ∙ rw (body, rest)

-- ---- blocks

pub data AllPlain (v : Version) : List (List ℕ) → Type 0 where
  none : AllPlain v []
  also : {b : List ℕ} {bs : List (List ℕ)} → PlainBlock v b → AllPlain v bs → AllPlain v (b ∷ bs)

pub plain_at : {v : Version} {bs : List (List ℕ)} → AllPlain v bs → (i : ℕ) → i < length bs → PlainBlock v (get_or bs i [])
plain_at AllPlain.none i lt = absurd (omega arith)
plain_at (AllPlain.also p ps) zero lt = p
plain_at (AllPlain.also p ps) (suc i) lt = plain_at ps i (omega arith)

pub plain_set : {v : Version} {bs : List (List ℕ)} {b : List ℕ} → AllPlain v bs → (i : ℕ) → PlainBlock v b → AllPlain v (set bs i b)
plain_set AllPlain.none i q = AllPlain.none
plain_set (AllPlain.also p ps) zero q = AllPlain.also q ps
plain_set (AllPlain.also p ps) (suc i) q = AllPlain.also p (plain_set ps i q)

split_plain : {v : Version} {bs : List (List ℕ)} (rest : List ℕ) → AllBlocks v bs → look_at v 1 (joined bs ++ rest) ≡ Ok true
    → AllPlain v bs × (look_at v 1 rest ≡ Ok true)
split_plain rest AllBlocks.none e = (AllPlain.none, e)
split_plain {v} rest (AllBlocks.also {b} {bs} w ws) e =
    let s = append_assoc b (joined bs) rest in
    let q = both_plain (block_look w) (look_at v 1 (joined bs ++ rest)) (sym (look_block w (joined bs ++ rest)) ∙ ap (look_at v 1) (sym s) ∙ e) in
    let r = split_plain rest ws q.1 in
    (AllPlain.also (record { block = w; looks = q.0 }) r.0, r.1)

-- plain blocks and zeros are plain
pub joined_plain : {v : Version} {bs : List (List ℕ)} (p : ℕ) → AllPlain v bs → look_at v 1 (joined bs ++ zeros p) ≡ Ok true
unfolding on_look
joined_plain {v} p AllPlain.none = look_head v 1 (zeros p) (Ok None) (quiet_head v (zeros p) (zeros_quiet v p)) ∙ rw (zeros_zero p)
joined_plain {v} p (AllPlain.also {b} {bs} q ps) =
    ap (look_at v 1) (append_assoc b (joined bs) (zeros p)) ∙ look_block q.block (joined bs ++ zeros p) ∙ rw (q.looks, joined_plain p ps)

rest_zeros : (v : Version) (s : List ℕ) → NoBlock v s → look_at v 1 s ≡ Ok true → s ≡ zeros (length s)
unfolding on_look
rest_zeros v s no_block e = by (head_of v 1 s) refl (sym (look_head v 1 s (head_of v 1 s) refl) ∙ e)
  where
    by : (x : Result (Option Head) Refusal) → head_of v 1 s ≡ x → on_look v (look_at v) 1 s x ≡ Ok true → s ≡ zeros (length s)
    by (Ok None) h p = zero_zeros s (if_plain (all_zero s) p)
    by (Err k) h p = not_plain k.number p
    by (Ok (Some h')) h p =
        let q = both_plain (frame_look v (look_at v 2) h'.id h'.compressed h'.flagged h'.short (take h'.len (drop h'.start s))) _ p in
        let t = frame_plain v (look_at v 2) h'.id h'.compressed h'.flagged h'.short (take h'.len (drop h'.start s)) q.0 in
        absurd (false_not_true (sym t.no_short ∙ no_block_short v s no_block h))

-- What is plain is plain blocks, and zeros.
pub record PlainRegion (v : Version) (s : List ℕ) : Type 0 where
  pub padding : ℕ
  pub blocks : AllPlain v (blocks_in v s)
  pub is : s ≡ joined (blocks_in v s) ++ zeros padding

pub plain_region : (v : Version) (s : List ℕ) → look_at v 1 s ≡ Ok true → PlainRegion v s
plain_region v s e =
    let c = cut_up v s in
    let q = split_plain c.rest c.whole (ap (look_at v 1) (sym c.is) ∙ e) in
    let z = rest_zeros v c.rest c.none q.1 in
    record { padding = length c.rest; blocks = q.0; is = c.is ∙ ap (λ (l : List ℕ). joined (blocks_in v s) ++ l) z }

-- ---- they read without a room

-- what a plain block reads as
abbrev pub record_in : {v : Version} {b : List ℕ} → Block v b → Rec
record_in {v} {b} w = rec_in v w.id w.compressed w.flagged false (drop w.start b)

pub plain_shows : {v : Version} {b : List ℕ} (p : PlainBlock v b) → Shows v 0 b (record_in p.block)
plain_shows {v} {b} p =
    let w = p.block in
    let body = drop w.start b in
    let kind = shown_kind v w.id w.compressed in
    let t = frame_plain v (look_at v 2) w.id w.compressed w.flagged false body p.looks in
    let inside : inside_of (walked false v 2) kind body [] ≡ (0, []) =
    inside_run (walked false v 2) kind body [] t.taken ∙ walk_plain v 2 (run_of kind body) [] t.run in
    let out : out_of v w.id w.compressed w.flagged body [] ≡ (0, []) = rw t.no_flagged inside in
    let is = ap (λ (x : Sight × List ℕ). x.0) (sight_is v w.id w.compressed w.flagged false w.start w.len b w.head []) in
    let sees : (sight_of v b []).0 ≡ verdict (out_of v w.id w.compressed w.flagged body []).0 (record_in w) = rw (body_all w) at is in
    needs_none v b (sees ∙ ap (λ (o : Out). verdict o.0 (record_in w)) out)

abbrev pub records_of : {v : Version} {bs : List (List ℕ)} → AllPlain v bs → List Rec
records_of AllPlain.none = []
records_of (AllPlain.also p ps) = record_in p.block ∷ records_of ps

pub plain_read : {v : Version} {bs : List (List ℕ)} (ps : AllPlain v bs) → Reads v 0 bs (records_of ps)
plain_read AllPlain.none = Reads.none
plain_read (AllPlain.also p ps) = Reads.also p.block (plain_shows p) (plain_read ps)

-- the i-th record of plain blocks
pub records_at : {v : Version} {bs : List (List ℕ)} (ps : AllPlain v bs) (i : ℕ) (d : Rec) (lt : i < length bs) → get_or (records_of ps) i d ≡ record_in (plain_at ps i lt).block
unfolding plain_at
records_at AllPlain.none i d lt = absurd (omega arith)
records_at (AllPlain.also p ps) zero d lt = refl
records_at (AllPlain.also p ps) (suc i) d lt = records_at ps i d (omega arith)

-- ---- tags

-- a plain tag: its blocks are plain, and reading finds a plain tag too
pub record Plain (tag : List ℕ) : Type 0 where
  pub padding : ℕ
  pub blocks : AllPlain (tag_version tag) (tag_blocks tag)
  pub unflagged : has 0x80 (flags_of tag) ≡ false
  pub is : PlainTag (tag_version tag) (tag_blocks tag) (records_of blocks) padding tag

pub tag_plain : (tag : List ℕ) → tag_look tag ≡ Ok true → Plain tag
unfolding tag_look
tag_plain tag e =
    let v = tag_version tag in
    let a = unless_plain (header_refusal tag) _ e in
    let b = picked_plain (is_whole tag) 40 _ a.1 in
    let c = both_plain (look_at v 1 (region_of tag)) (plain_if (is_simple tag)) b.1 in
    let d = and_true (leb (10 + size_of tag) (length tag)) _ (if_plain (is_simple tag) c.1) in
    let f = and_true (not (is_extended tag)) (not (has 0x80 (flags_of tag))) d.1 in
    let there : 10 + size_of tag ≤ length tag = leb-true (10 + size_of tag) (length tag) d.0 in
    let no_extended = not-true (is_extended tag) f.0 in
    let region : region_of tag ≡ region_in tag = same_region tag tag refl (omega arith) no_extended in
    let r = plain_region v (region_in tag) (ap (look_at v 1) (sym region) ∙ c.0) in
    record {
      padding = r.padding;
      blocks = r.blocks;
      unflagged = not-true (has 0x80 (flags_of tag)) f.1;
      is = record {
        taken = a.0;
        version = refl;
        no_whole = b.0;
        no_extended = no_extended;
        all_there = there;
        reads = plain_read r.blocks;
        region = r.is;
      };
    }

-- and a tag of plain blocks is plain
pub plain_tag : {v : Version} {bs : List (List ℕ)} {rs : List Rec} {p : ℕ} {tag : List ℕ} → PlainTag v bs rs p tag → AllPlain v bs → has 0x80 (flags_of tag) ≡ false
    → tag_look tag ≡ Ok true
unfolding tag_look
plain_tag {v} {bs} {rs} {p} {tag} t ps unflagged =
    let region : region_of tag ≡ joined bs ++ zeros p = same_region tag tag refl (omega (arith, t.all_there)) t.no_extended ∙ t.region in
    let looks : look_at (version_of (edition_of tag)) 1 (region_of tag) ≡ Ok true = rw (t.version, region) (joined_plain p ps) in
    rw (t.taken, t.no_whole, looks, le-leb (10 + size_of tag) (length tag) t.all_there, t.no_extended, unflagged)
