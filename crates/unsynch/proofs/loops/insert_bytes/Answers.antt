-- What is left to show of `unsynch::loops::insert_bytes`. Assumes nothing.
use Rattle.std.proofs.Common.{◌≡◌, ◌+◌, sym, ap, ◌∙◌, length}
use native.Mathlib.Omega.{arith}
use lib.ListN.{length-set}
use Rattle.laws.proofs.Stores.{begin, done}
use Rattle.format.specs.Bytes.{pick}
use Rattle.unsynch.specs.declared.loops.How.{How}
use Rattle.unsynch.specs.Edits.{edited_after, stored}
use Rattle.unsynch.proofs.Edits.{number_of, edited_end, guard_by, guards_by}
use Rattle.unsynch.proofs.Turns.{insert_byte}
use Rattle.unsynch.proofs.loops.insert_bytes.Goals as goal
use Rattle.unsynch.proofs.loops.insert_bytes.Goals.{then-how, else-how}

pub loop-i-init : goal.loop-i-init
loop-i-init c =
    let a = c.args in
    let top : c.if-how.top ≡ pick a.how.high 0xDF 0xFF =
    elim c.if-how.branch [ then-how w ↦ rw w.if-how.true w.top-is | else-how w ↦ rw w.if-how.false w.top-is ] in
    let same = guards_by a.how c.if-how.top c.requires.from_lt_to.2 c.requires.from_lt_to.3 top in
    record { top = top; storing = begin _ _ _ (omega (arith, ap (λ (how : How). length (edited_after how a.s.now a.from a.to)) same)) }

pub bounds-buf-o : goal.bounds-buf-o
bounds-buf-o c =
    let a = c.args in
    let L = c.loop-i in
    let t = insert_byte a.how.high _ L.invariant.top a.s.now L.i a.to (omega arith) (omega arith) (omega (arith, c.type_inv.s (L.i + 1))) L.invariant.storing
    c.guarded.result (L.o + c.from.result) c.guarded.ensures (omega (arith, number_of c.guarded.result)) in
    omega (arith, t.0, t.1)

pub bounds-buf-p : goal.bounds-buf-p
bounds-buf-p c =
    let a = c.args in
    let L = c.loop-i in
    let t = insert_byte a.how.high _ L.invariant.top a.s.now L.i a.to (omega arith) (omega arith) (omega (arith, c.type_inv.s (L.i + 1))) L.invariant.storing
    c.guarded.result (L.o + c.from.result) c.guarded.ensures (omega (arith, number_of c.guarded.result)) in
    simp length-set t.1

pub loop-i-preserved : goal.loop-i-preserved
loop-i-preserved c =
    let a = c.args in
    let L = c.loop-i in
    let t = insert_byte a.how.high _ L.invariant.top a.s.now L.i a.to (omega arith) (omega arith) (omega (arith, c.type_inv.s (L.i + 1))) L.invariant.storing
    c.guarded.result (L.o + c.from.result) c.guarded.ensures (omega (arith, number_of c.guarded.result)) in
    record { top = L.invariant.top; storing = t.2 }

pub returns : goal.returns
returns c =
    let a = c.args in
    let L = c.loop-i in
    let same = guards_by a.how _ c.requires.from_lt_to.2 c.requires.from_lt_to.3 L.invariant.top in
    done (edited_end (guard_by _) a.s.now L.i a.to (omega arith)) L.invariant.storing
    ∙ ap (λ (how : How). stored (edited_after how a.s.now a.from a.to) a.at a.buf.now) (sym same)
