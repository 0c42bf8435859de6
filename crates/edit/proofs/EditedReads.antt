-- Blocks that are read, read as records none of which is short; edits of both go side by side. Assumes nothing.
use mathlib.Core.Path.{◌≡◌, refl, sym, ap, ◌∙◌, subst}
use Prim.Native.Nat.{ℕ}
use native.Mathlib.Omega.{arith}
use mathlib.Core.Bool.{Bool, true, false}
use mathlib.Core.List.{List}
use lib.ListN.{length, take, drop, length-replicate}
use lib.Dec.{eqb}
use Rattle.format.specs.Bytes.{pick, zeros}
use Rattle.format.specs.Record.{Rec}
use Rattle.format.specs.declared.Version.{Version}
use Rattle.promises.specs.Promises.{NoneShort}
use Rattle.blocks.specs.Blocks.{Block, Sight, shows, refuses, sight_of, Shows, Reads, splice}
use Rattle.blocks.proofs.Sights.{out_of, rec_in, verdict, sight_is}
use Rattle.blocks.proofs.Edits.{reads_splice}
use Rattle.blocks.proofs.Bodies.{reads_length}
use Rattle.edit.specs.Promises.{Change, from_of, up_to, edited}

shown_short : (t : Bool) (k : ℕ) (q r : Rec) → q.short ≡ false → pick t (shows q) (refuses k) ≡ shows r → r.short ≡ false
shown_short true k q r h e = let z : q ≡ r = cc in ap (λ (x : Rec). x.short) (sym z) ∙ h
shown_short false k q r h e = absurd (let z : ◌≡◌ {A = ℕ} 0 1 = cc in omega arith)

block_whole : {v : Version} {b : List ℕ} (n : ℕ) (r : Rec) → Block v b → Shows v n b r → r.short ≡ false
block_whole {v} {b} n r w s =
    let room = zeros n in
    let stored = take w.len (drop w.start b) in
    let k = (out_of v w.id w.compressed w.flagged stored room).0 in
    let q = rec_in v w.id w.compressed w.flagged false stored in
    let is : (sight_of v b room).0 ≡ verdict k q = ap (λ (x : Sight × List ℕ). x.0) (sight_is v w.id w.compressed w.flagged false w.start w.len b w.head room) in
    shown_short (eqb k 0) k q r refl (sym is ∙ (s room (omega (arith, length-replicate {A = ℕ} n 0))).0)

pub reads_whole : {v : Version} {n : ℕ} {bs : List (List ℕ)} {rs : List Rec} → Reads v n bs rs → NoneShort rs
reads_whole Reads.none = NoneShort.none
reads_whole {v} {n} (Reads.also {r = r} w s h) = NoneShort.also (block_whole n r w s) (reads_whole h)

-- the same edit of the blocks and of the records
pub reads_edited : {v : Version} {n : ℕ} {bs new : List (List ℕ)} {rs ss : List Rec} (c : Change) → Reads v n bs rs → Reads v n new ss
    → Reads v n (edited c new bs) (edited c ss rs)
reads_edited {v} {n} {bs} {new} {rs} {ss} c h k =
    subst (λ (m : ℕ). Reads v n (edited c new bs) (splice (from_of m c) (up_to m c) ss rs)) (reads_length h)
    (reads_splice (from_of (length bs) c) (up_to (length bs) c) h k)
