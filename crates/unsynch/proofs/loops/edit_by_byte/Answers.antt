-- What is left to show of `unsynch::loops::edit_by_byte`. Assumes nothing.
use Rattle.std.proofs.Common.{◌≡◌, ◌+◌, ◌-◌, ◌≤◌, length, sym, ap, ◌∙◌, rules}
use native.Mathlib.Omega.{arith}
use lib.Seq.{length-slice, sets}
use Rattle.laws.proofs.Stores.{part_copied}
use Rattle.unsynch.specs.declared.loops.How.{How}
use Rattle.unsynch.specs.Edits.{edited_after, stored}
use Rattle.unsynch.proofs.Edits.{unchanged}
use Rattle.unsynch.proofs.loops.edit_by_byte.Goals as goal

pub slice_bounds-copy_from_slice-end : goal.slice_bounds-copy_from_slice-end
slice_bounds-copy_from_slice-end c =
    let a = c.args in
    let off = c.if-how-2.false in
    let e = unchanged a.how off (c.requires.known.inserts off) a.s.now a.from a.to in
    let h : a.at + (a.to - a.from - 1) ≤ length a.buf.now = omega (arith, ap length e, length-slice (a.from + 1) a.to a.s.now (omega arith)) in
    search rules

pub returns-then-how : goal.returns-then-how
returns-then-how c =
    let a = c.args in
    let off = c.if-how-2.false in
    let e = unchanged a.how off (c.requires.known.inserts off) a.s.now a.from a.to in
    let long = ap length e ∙ length-slice (a.from + 1) a.to a.s.now (omega arith) in
    let n : a.at + (a.to - a.from - 1) ≡ a.at + length (edited_after a.how a.s.now a.from a.to) = omega (arith, long) in
    let bytes = part_copied a.buf.now a.s.now (a.from + 1) a.to a.at (a.at + (a.to - a.from - 1) - a.at) (omega arith) (omega arith) (omega (arith, long)) c.copy_from_slice.ensures.after in
    λ j. (n j, (bytes ∙ ap (sets a.buf.now a.at) (sym e)) j)

pub drop_words-requires-clause-to_in_bounds : goal.drop_words-requires-clause-to_in_bounds
drop_words-requires-clause-to_in_bounds c =
    let a = c.args in
    omega (arith, ap (λ (how : How). length (edited_after how a.s.now a.from a.to)) (c.requires.known.drops c.if-how.false))

pub returns : goal.returns
returns c =
    let a = c.args in
    c.drop_words.ensures ∙ ap (λ (how : How). stored (edited_after how a.s.now a.from a.to) a.at a.buf.now) (sym (c.requires.known.drops c.if-how.false))
