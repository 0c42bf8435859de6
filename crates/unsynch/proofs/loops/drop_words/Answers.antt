-- What is left to show of `unsynch::loops::drop_words`. Assumes nothing.
use Rattle.std.proofs.Common.{◌≡◌, ◌+◌, ◌*◌, ℕ, sym, ap, ◌∙◌}
use native.Mathlib.Omega.{arith}
use Rattle.laws.proofs.Stores.{same_list, same_buffer, same_place}
use Rattle.unsynch.specs.Edits.{resync_by, edited_after}
use Rattle.unsynch.proofs.Edits.{no_ff}
use Rattle.unsynch.proofs.Turns.{piece, block}
use Rattle.unsynch.proofs.loops.drop_words.Goals as goal
use Rattle.unsynch.proofs.loops.drop_words.Goals.{then-any_ff, else-any_ff}

pub drop_bytes-o-requires-clause-to_in_bounds : goal.drop_bytes-o-requires-clause-to_in_bounds
drop_bytes-o-requires-clause-to_in_bounds c =
    let a = c.args in
    let i = a.from + c.loop-k.k * 8 in
    (piece resync_by a.s.now i (i + 8) a.to (omega arith) (omega arith) (omega arith) c.loop-k.invariant).0

pub copy_behind-o-requires : goal.copy_behind-o-requires
copy_behind-o-requires c =
    let a = c.args in
    let i = a.from + c.loop-k.k * 8 in
    let alone = no_ff resync_by a.s.now 8 i (i + 8) (omega arith) (omega arith) (sym c.any_ff.ensures ∙ c.if-any_ff.false) in
    (omega arith, omega arith, (block resync_by a.s.now i 8 a.to (omega arith) (omega arith) alone c.loop-k.invariant).0)

pub loop-k-preserved : goal.loop-k-preserved
loop-k-preserved c =
    let a = c.args in
    let i = a.from + c.loop-k.k * 8 in
    let next : i + 8 ≡ a.from + (c.loop-k.k + 1) * 8 = omega arith in
    let left = ap (λ (j : ℕ). edited_after resync_by a.s.now j a.to) next in
    same_list left (elim c.if-any_ff.branch [
      | then-any_ff w ↦
          let t = (piece resync_by a.s.now i (i + 8) a.to (omega arith) (omega arith) (omega arith) c.loop-k.invariant).1 w.drop_bytes-o.result w.drop_bytes-o.new.buf w.drop_bytes-o.ensures in
          same_buffer (sym w.buf-is) (same_place (sym w.o-is) t.1)
      | else-any_ff w ↦
          let alone = no_ff resync_by a.s.now 8 i (i + 8) (omega arith) (omega arith) (sym c.any_ff.ensures ∙ w.if-any_ff.false) in
          let t = (block resync_by a.s.now i 8 a.to (omega arith) (omega arith) alone c.loop-k.invariant).1 w.copy_behind-o.result w.copy_behind-o.new.buf w.copy_behind-o.ensures in
          same_buffer (sym w.buf-is) (same_place (sym w.o-is) t)
    ])
