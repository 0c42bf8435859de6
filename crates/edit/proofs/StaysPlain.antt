-- After an accepted edit the tag is plain again, but where a compressed subframe was given. Assumes nothing.
use mathlib.Core.Path.{◌≡◌, refl, sym, ap, ◌∙◌}
use mathlib.Core.Logic.{◌⊎◌, inl, inr}
use Prim.Native.Nat.{ℕ, zero, suc, ◌+◌, ◌-◌}
use native.Mathlib.Omega.{arith}
use mathlib.Core.Bool.{false, true}
use mathlib.Core.List.{List, [], ◌∷◌, ◌++◌, append_assoc}
use lib.ListN.{length, take, drop}
use borrow.Author.Tests.{le-leb}
use Rattle.format.specs.Bytes.{has, zeros}
use Rattle.format.specs.Header.{edition_of, flags_of, size_of, version_of, region_of}
use Rattle.format.specs.Record.{Rec}
use Rattle.format.specs.Looks.{both, look_at, tag_look}
use Rattle.format.specs.declared.Version.{Version}
use Rattle.walk.proofs.Looks.{both_end}
use Rattle.blocks.specs.Blocks.{Block, joined, splice, PlainTag}
use Rattle.blocks.proofs.Edits.{joined_append}
use Rattle.blocks.proofs.Headers.{same_region, same_flags}
use Rattle.raise.specs.Raise.{tag_version, tag_blocks}
use Rattle.raise.specs.Promises.{run_within}
use Rattle.raise.proofs.Plainness.{block_look, AllPlain, look_block, joined_plain}
use Rattle.raise.proofs.OffFrames.{off_block, off_look}
use Rattle.edit.specs.Promises.{Change, replacing, removing, appending, edited_of, AllFit, long_then, Uncompressed, GivenUncompressed, PlainAgain, RemovePlain}
use Rattle.edit.proofs.Accepting.{blocks_then, tag_then, Accepted, accepted}
use Rattle.edit.proofs.Runs.{PlainOrOdd, run_looks}
use Rattle.edit.proofs.After.{sound, was, front_same, then_plain}
use Rattle.std.specs.Prelude.{Ok}

-- ---- parts of plain blocks

pub plain_take : {v : Version} {bs : List (List ℕ)} (i : ℕ) → AllPlain v bs → AllPlain v (take i bs)
plain_take zero ps = AllPlain.none
plain_take (suc i) AllPlain.none = AllPlain.none
plain_take (suc i) (AllPlain.also p ps) = AllPlain.also p (plain_take i ps)

pub plain_drop : {v : Version} {bs : List (List ℕ)} (i : ℕ) → AllPlain v bs → AllPlain v (drop i bs)
plain_drop zero ps = ps
plain_drop (suc i) AllPlain.none = AllPlain.none
plain_drop (suc i) (AllPlain.also p ps) = plain_drop i ps

plain_append : {v : Version} {bs cs : List (List ℕ)} → AllPlain v bs → AllPlain v cs → AllPlain v (bs ++ cs)
plain_append AllPlain.none qs = qs
plain_append (AllPlain.also p ps) qs = AllPlain.also p (plain_append ps qs)

-- ---- a look at edited blocks

-- plain blocks in front change nothing
look_front : {v : Version} {bs : List (List ℕ)} (t : List ℕ) → AllPlain v bs → look_at v 1 (joined bs ++ t) ≡ look_at v 1 t
look_front t AllPlain.none = refl
look_front {v} t (AllPlain.also {b} {bs} q ps) =
    ap (look_at v 1) (append_assoc b (joined bs) t) ∙ look_block q.block (joined bs ++ t) ∙ rw q.looks (look_front t ps)

module _ {v : Version} {bs : List (List ℕ)} (i j p : ℕ) (ps : AllPlain v bs) where
  look_without : look_at v 1 (joined (splice i j [] bs) ++ zeros p) ≡ Ok true
  look_without = joined_plain p (plain_append (plain_take i ps) (plain_drop j ps))

  -- one block among plain ones
  look_with : {b : List ℕ} (w : Block v b) → look_at v 1 (joined (splice i j (b ∷ []) bs) ++ zeros p) ≡ block_look w
  look_with {b} w =
      let front = joined (take i bs) in
      let rest = joined (drop j bs) in
      let is : joined (splice i j (b ∷ []) bs) ++ zeros p ≡ front ++ (b ++ (rest ++ zeros p)) =
      ap (λ (l : List ℕ). l ++ zeros p) (joined_append (take i bs) (b ∷ drop j bs))
      ∙ append_assoc front (b ++ rest) (zeros p)
      ∙ ap (λ (l : List ℕ). front ++ l) (append_assoc b rest (zeros p)) in
      ap (look_at v 1) is
      ∙ look_front (b ++ (rest ++ zeros p)) (plain_take i ps)
      ∙ look_block w (rest ++ zeros p)
      ∙ ap (both (block_look w)) (joined_plain p (plain_drop j ps))
      ∙ both_end (block_look w)

-- A look at a tag that reading finds plain is one at its blocks.
tag_looks : {v : Version} {bs : List (List ℕ)} {rs : List Rec} {p : ℕ} {tag : List ℕ} → PlainTag v bs rs p tag → has 0x80 (flags_of tag) ≡ false
    → tag_look tag ≡ look_at v 1 (joined bs ++ zeros p)
unfolding tag_look
tag_looks {v} {bs} {rs} {p} {tag} t unflagged =
    let region : region_of tag ≡ joined bs ++ zeros p = same_region tag tag refl (omega (arith, t.all_there)) t.no_extended ∙ t.region in
    let looks : look_at (version_of (edition_of tag)) 1 (region_of tag) ≡ look_at v 1 (joined bs ++ zeros p) = rw (t.version, region) in
    rw (t.taken, t.no_whole, looks, le-leb (10 + size_of tag) (length tag) t.all_there, t.no_extended, unflagged) (both_end (look_at v 1 (joined bs ++ zeros p)))

-- ---- the tag then

abbrev padding_then : List ℕ → Change → ℕ
padding_then tag c = size_of tag - long_then tag c

module _ {tag : List ℕ} {c : Change} (a : Accepted tag c) (f : AllFit c) where
  then_looks : tag_look (tag_then tag c) ≡ look_at (tag_version tag) 1 (joined (blocks_then tag c) ++ zeros (padding_then tag c))
  then_looks =
      let flags : flags_of (tag_then tag c) ≡ flags_of tag = same_flags tag (tag_then tag c) (sym (front_same a)) in
      tag_looks (then_plain a f) (ap (has 0x80) flags ∙ (was a).unflagged)

as_run : (v : Version) (run tag : List ℕ) → tag_look tag ≡ look_at v 2 run → PlainOrOdd v 2 run
    → ((tag_look tag ≡ Ok true) × Uncompressed v 2 run) ⊎ ((tag_look tag ≡ Ok false) × (Uncompressed v 2 run → ⊥))
as_run v run tag e (inl p) = inl (e ∙ p.0, p.1)
as_run v run tag e (inr p) = inr (e ∙ p.0, p.1)

abbrev Looking : List ℕ → Change → Type 0
Looking tag c =
    ((tag_look (tag_then tag c) ≡ Ok true) × GivenUncompressed (tag_version tag) c) ⊎ ((tag_look (tag_then tag c) ≡ Ok false) × (GivenUncompressed (tag_version tag) c → ⊥))

then_again : (tag : List ℕ) (c : Change) (a : Accepted tag c) → AllFit c → Looking tag c
then_again tag (replacing i r) a f =
    let v = tag_version tag in
    let s = sound v r a.added f in
    as_run v (run_within r.content) (tag_then tag (replacing i r))
    (then_looks a f ∙ look_with i (suc i) (padding_then tag (replacing i r)) (was a).blocks (off_block v r s) ∙ off_look v r s)
    (run_looks v 2 (run_within r.content) [] s.run)
then_again tag (removing i) a f = inl (then_looks a f ∙ look_without i (suc i) (padding_then tag (removing i)) (was a).blocks, tt)
then_again tag (appending r) a f =
    let v = tag_version tag in
    let n = length (tag_blocks tag) in
    let s = sound v r a.added f in
    as_run v (run_within r.content) (tag_then tag (appending r))
    (then_looks a f ∙ look_with n n (padding_then tag (appending r)) (was a).blocks (off_block v r s) ∙ off_look v r s)
    (run_looks v 2 (run_within r.content) [] s.run)

pub plain_again : PlainAgain
plain_again c tag tag' f e =
    let g = accepted tag c e in
    rw g.1 (then_again tag c g.0 f)

-- where no compressed subframe is given
pub still_plain : (c : Change) (tag tag' : List ℕ) → AllFit c → GivenUncompressed (tag_version tag) c → edited_of tag c ≡ (Ok tt, tag') → tag_look tag' ≡ Ok true
still_plain c tag tag' f u e = by (plain_again c tag tag' f e)
  where
    by : ((tag_look tag' ≡ Ok true) × GivenUncompressed (tag_version tag) c) ⊎ ((tag_look tag' ≡ Ok false) × (GivenUncompressed (tag_version tag) c → ⊥)) → tag_look tag' ≡ Ok true
    by (inl p) = p.0
    by (inr p) = absurd (p.1 u)

pub remove_plain : RemovePlain
remove_plain tag tag' i e = still_plain (removing i) tag tag' tt tt e
