-- Two edits: what was added is removed, and all is as it was; what was removed makes room; two frames are replaced in either order. And a frame replaced by what was read of it. Assumes nothing.
use mathlib.Core.Path.{◌≡◌, refl, sym, ap, ◌∙◌}
use Prim.Native.Nat.{ℕ, suc, ◌<◌}
use native.Mathlib.Omega.{arith}
use mathlib.Core.Bool.{false, true}
use mathlib.Core.List.{List, [], ◌∷◌, ◌++◌, append-nil}
use lib.ListN.{length, take, get_or, set, length-append, drop_of_length-le}
use lib.Seq.{take_at, set_split, split_at, set_comm}
use Rattle.format.specs.Header.{size_of}
use Rattle.format.specs.Record.{Rec, Fits}
use Rattle.format.specs.Encode.{refusal_of, encode}
use Rattle.format.specs.Looks.{tag_look}
use Rattle.format.specs.declared.Version.{Version}
use Rattle.format.specs.declared.Mode.{Mode}
use Rattle.promises.specs.Reading.{Reading, ended, read_all}
use Rattle.blocks.specs.Blocks.{joined, splice, with_blocks}
use Rattle.blocks.proofs.Edits.{splice_one}
use Rattle.blocks.proofs.Headers.{same_version, same_size}
use Rattle.raise.specs.Raise.{tag_version, tag_blocks}
use Rattle.edit.specs.Edit.{Edit, frame_for, replaced_of, removed_of}
use Rattle.edit.specs.Promises.{replacing, removing, appending, RemoveAppended, FreedServes, ReplaceSame, ReplacesCommute}
use Rattle.edit.proofs.Accepting.{blocks_then, tag_then, accepted}
use Rattle.edit.proofs.OtherBlocks.{with_again, with_same}
use Rattle.edit.proofs.After.{padding_is, was, front_same, then_blocks, edit_reads, below, replace_reads, edited_last}
use Rattle.edit.proofs.StaysPlain.{still_plain, remove_plain}
use Rattle.edit.proofs.Rooms.{no_room, splice_long, one_long, removal_fits}
use Rattle.std.specs.Prelude.{Ok}
use Rattle.format.specs.Refusals.{refusal}

-- ---- lists

-- without the one after the last
last_removed : {A : Type 0} (x : A) (l : List A) → splice (length l) (suc (length l)) [] (l ++ (x ∷ [])) ≡ l
last_removed x l =
    let none = drop_of_length-le (l ++ (x ∷ [])) {i = suc (length l)} (omega (arith, length-append l (x ∷ []))) in
    rw (take_at l (x ∷ []) (length l) refl, none) (append-nil l)

-- one that is there already
set_same : {A : Type 0} (l : List A) (i : ℕ) (x : A) → i < length l → get_or l i x ≡ x → set l i x ≡ l
set_same l i x lt e = set_split l i x lt ∙ sym (split_at l i x lt ∙ rw e)

-- ---- removed

-- what a removal gives
removed_is : (tag : List ℕ) (i : ℕ) → tag_look tag ≡ Ok true → i < length (tag_blocks tag) → removed_of tag i ≡ (Ok tt, tag_then tag (removing i))
removed_is tag i looks lt =
    let done : (removed_of tag i).0 ≡ (Ok tt) = (no_room (removing i) tag looks (λ le. omega arith) refl).1.1 (removal_fits tag i looks) in
    let e : removed_of tag i ≡ (Ok tt, (removed_of tag i).1) = (λ j. (done j, (removed_of tag i).1)) in
    e ∙ ap {B = Edit} (λ (t : List ℕ). (Ok tt, t)) (accepted tag (removing i) e).1

pub remove_appended : RemoveAppended
remove_appended tag t r f u e =
    let c = appending r in
    let bs = tag_blocks tag in
    let n = length bs in
    let g = accepted tag c e in
    let a = g.0 in
    let blocks : tag_blocks t ≡ bs ++ (frame_for tag r ∷ []) = ap tag_blocks g.1 ∙ then_blocks a f ∙ edited_last (frame_for tag r) bs in
    let looks : tag_look t ≡ (Ok true) = still_plain c tag t f u e in
    let lt : n < length (tag_blocks t) = omega (arith, ap length blocks, length-append bs (frame_for tag r ∷ [])) in
    let back : splice n (suc n) [] (tag_blocks t) ≡ bs = ap (splice n (suc n) []) blocks ∙ last_removed (frame_for tag r) bs in
    let same : tag_then t (removing n) ≡ tag =
    ap (λ (l : List (List ℕ)). with_blocks l t) back
    ∙ ap (with_blocks bs) g.1
    ∙ with_again tag (was a).is.all_there (blocks_then tag c) a.fits bs
    ∙ with_same tag bs (padding_is (was a).is) in
    removed_is t n looks lt ∙ ap {B = Edit} (λ (s : List ℕ). (Ok tt, s)) same

-- ---- replaced by what was read

pub replace_same : ReplaceSame
replace_same tag t i r work f is e =
    let g = replace_reads tag t i r work f e in
    let before = (edit_reads (replacing i r) tag t f e).before work in
    g.1
    ∙ ap {B = Reading} (λ (l : List Rec). (l, ended)) (set_same (read_all tag work).0 i r g.0 is ∙ ap (λ (o : Reading). o.0) before)
    ∙ sym before

-- ---- added after a removal

pub freed_serves : FreedServes
freed_serves tag t i r e refusal room =
    let c = removing i in
    let bs = tag_blocks tag in
    let g = accepted tag c e in
    let a = g.0 in
    let front : take 10 tag ≡ take 10 t = sym (ap (take 10) g.1 ∙ front_same a) in
    let looks = remove_plain tag t i e in
    let version : tag_version t ≡ tag_version tag = same_version tag t front in
    let size : size_of t ≡ size_of tag = same_size tag t front in
    let blocks : tag_blocks t ≡ splice i (suc i) [] bs = ap tag_blocks g.1 ∙ then_blocks a tt in
    let lt : i < length bs = below i (length bs) a.there in
    let gone = splice_long i (suc i) [] bs (omega arith) in
    let old = one_long i bs lt in
    let left : length (joined (tag_blocks t)) ≡ length (joined (splice i (suc i) [] bs)) = ap (λ (l : List (List ℕ)). length (joined l)) blocks in
    let n = length (tag_blocks t) in
    let more = splice_long n n (frame_for t r ∷ []) (tag_blocks t) (omega arith) in
    let new : length (joined (frame_for t r ∷ [])) ≡ length (frame_for tag r) =
    ap length (append-nil (frame_for t r)) ∙ ap (λ (v : Version). length (encode v Mode.Off r)) version in
    (no_room (appending r) t looks (λ z. z) (ap (λ (v : Version). refusal_of v Mode.Off false r) version ∙ refusal)).1.1 (omega arith)

-- ---- two frames replaced

-- what one replacement after another leaves
twice : (tag t s : List ℕ) (i j : ℕ) (r q : Rec) → Fits r.content → replaced_of tag i r ≡ (Ok tt, t) → replaced_of t j q ≡ (Ok tt, s)
    → s ≡ with_blocks (set (set (tag_blocks tag) i (frame_for tag r)) j (frame_for tag q)) tag
twice tag t s i j r q f e h =
    let bs = tag_blocks tag in
    let g = accepted tag (replacing i r) e in
    let a = g.0 in
    let k = accepted t (replacing j q) h in
    let front : take 10 tag ≡ take 10 t = sym (ap (take 10) g.1 ∙ front_same a) in
    let blocks : tag_blocks t ≡ set bs i (frame_for tag r) =
    ap tag_blocks g.1 ∙ then_blocks a f ∙ splice_one i (frame_for tag r) bs (below i (length bs) a.there) in
    k.1
    ∙ ap (λ (l : List (List ℕ)). with_blocks l t) (splice_one j (frame_for t q) (tag_blocks t) (below j (length (tag_blocks t)) k.0.there))
    ∙ ap (λ (l : List (List ℕ)). with_blocks (set l j (frame_for t q)) t) blocks
    ∙ ap (λ (v : Version). with_blocks (set (set bs i (frame_for tag r)) j (encode v Mode.Off q)) t) (same_version tag t front)
    ∙ ap (with_blocks (set (set bs i (frame_for tag r)) j (frame_for tag q))) g.1
    ∙ with_again tag (was a).is.all_there (blocks_then tag (replacing i r)) a.fits (set (set bs i (frame_for tag r)) j (frame_for tag q))

pub replaces_commute : ReplacesCommute
replaces_commute tag t s t' s' i j r q ne f k e h e' h' =
    twice tag t s i j r q f e h
    ∙ ap (λ (l : List (List ℕ)). with_blocks l tag) (set_comm (tag_blocks tag) i j (frame_for tag r) (frame_for tag q) ne)
    ∙ sym (twice tag t' s' j i q r k e' h')
