-- A 00 goes in where it has to, then the byte. Assumes nothing.
use mathlib.Core.Path.{◌≡◌, refl, sym, ◌∙◌}
use mathlib.Core.Bool.{Bool, true, false, ◌&&◌}
use mathlib.Core.List.{List, [], ◌∷◌}
use Prim.Native.Nat.{ℕ, ◌≤◌}
use lib.ListN.{length}
use Rattle.laws.proofs.Stores.{Storing, begin, same_list, next_lies, put, done}
use Rattle.format.specs.Unsynch.{guards, unsync, ends_ff}
use Rattle.format.specs.declared.Mode.{Mode}
use Rattle.writer.specs.Pens.{pen_after}
use Rattle.writer.specs.declared.pens.Pen.{Pen}
use Rattle.writer.proofs.Puts.{byte_bytes, pen_put}
use Rattle.writer.proofs.pens.put_byte.Goals as goal
use Rattle.writer.proofs.pens.put_byte.Goals.{then-is_guarded, else-is_guarded}

-- f says that a 00 goes in: what is left to store
module _ (m : Mode) (pen : Pen) (x : ℕ) (o : List ℕ) {f : Bool} (room : (pen_after m pen (x ∷ [])).at ≤ length o) (is : f ≡ (pen.prev && guards m x)) where
  both : f ≡ true → Storing o pen.at (unsync (guards m) pen.prev (x ∷ [])) o pen.at (0 ∷ x ∷ [])
  both t = same_list (byte_bytes m pen x true (sym t ∙ is)) (begin _ _ _ room)

  alone : f ≡ false → Storing o pen.at (unsync (guards m) pen.prev (x ∷ [])) o pen.at (x ∷ [])
  alone t = same_list (byte_bytes m pen x false (sym t ∙ is)) (begin _ _ _ room)

pub bounds-buffer-at : goal.bounds-buffer-at
bounds-buffer-at c = next_lies (both c.args.mode c.args.pen c.args.b c.args.buffer.now c.requires c.is_guarded.ensures c.if-is_guarded.true)

pub bounds-buffer-at-2 : goal.bounds-buffer-at-2
bounds-buffer-at-2 c =
    let a = c.args in
    elim c.if-is_guarded.branch [
      | then-is_guarded w ↦ rw (w.buffer-is, w.at-is) (next_lies (put (both a.mode a.pen a.b a.buffer.now c.requires c.is_guarded.ensures w.if-is_guarded.true)))
      | else-is_guarded w ↦ rw (w.buffer-is, w.at-is) (next_lies (alone a.mode a.pen a.b a.buffer.now c.requires c.is_guarded.ensures w.if-is_guarded.false))
    ]

pub returns : goal.returns
unfolding ends_ff
returns c =
    let a = c.args in
    elim c.if-is_guarded.branch [
      | then-is_guarded w ↦
          rw (w.buffer-is, w.at-is)
          (pen_put a.mode a.pen (a.b ∷ []) a.buffer.now (done refl (put (put (both a.mode a.pen a.b a.buffer.now c.requires c.is_guarded.ensures w.if-is_guarded.true)))) refl)
      | else-is_guarded w ↦
          rw (w.buffer-is, w.at-is)
          (pen_put a.mode a.pen (a.b ∷ []) a.buffer.now (done refl (put (alone a.mode a.pen a.b a.buffer.now c.requires c.is_guarded.ensures w.if-is_guarded.false))) refl)
    ]
