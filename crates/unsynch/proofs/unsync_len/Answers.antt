-- How many bytes there are, by what the edit makes of those that are there. Assumes nothing.
use mathlib.Core.Path.{◌≡◌, sym, ap, ◌∙◌}
use Prim.Native.Nat.{ℕ, min}
use mathlib.Core.Bool.{Bool, false}
use mathlib.Core.List.{List}
use lib.ListN.{length}
use lib.Seq.{slice, length-slice}
use native.Mathlib.Omega.{arith}
use borrow.Author.Tests.{not-true}
use Rattle.laws.proofs.Slices.{slice_cut, slice_cut_none}
use Rattle.format.specs.Unsynch.{guards, unsync}
use Rattle.format.specs.declared.Mode.{Mode}
use Rattle.unsynch.specs.declared.loops.How.{How}
use Rattle.unsynch.specs.Edits.{unsync_by, edited}
use Rattle.unsynch.proofs.Edits.{number_of, unsyncs, longer, hits_at_most, untouched, first_length, known_unsync}
use Rattle.unsynch.proofs.unsync_len.Goals as goal

-- those that are there, edited, are as many as all of them, unsynchronised
same_length : (how : How) (mode : Mode) (prev : Bool) (from to end : ℕ) (s : List ℕ) → how ≡ unsync_by mode → end ≡ min to (length s)
    → length (edited how prev (slice from end s)) ≡ length (unsync (guards mode) prev (slice from to s))
same_length how mode prev from to end s h e =
    ap (λ (how : How). length (edited how prev (slice from end s))) h
    ∙ ap length (unsyncs mode prev (slice from end s))
    ∙ ap (λ (l : List ℕ). length (unsync (guards mode) prev l)) (slice_cut from to end s e)

pub returns-then-end-from : goal.returns-then-end-from
unfolding unsync
returns-then-end-from c =
    let a = c.args in
    let none = slice_cut_none a.from a.to _ a.s.now c.min-end.ensures c.if-end-from.true in
    sym (ap (λ (l : List ℕ). length (unsync (guards a.mode) a.prev l)) none)

pub returns-then-not-how : goal.returns-then-not-how
returns-then-not-how c =
    let a = c.args in
    let how = c.unsync_by-how in
    let end = c.min-end in
    let off = not-true _ c.if-not-how.true in
    let alone = untouched how.result off ((known_unsync how.result a.mode how.ensures).inserts off) a.prev (slice a.from end.result a.s.now) in
    let same = same_length how.result a.mode a.prev a.from a.to end.result a.s.now how.ensures end.ensures in
    omega (arith, ap length alone, same, length-slice a.from end.result a.s.now (omega arith))

pub overflow_add-result : goal.overflow_add-result
overflow_add-result c =
    let a = c.args in
    let how = c.unsync_by-how in
    let part : List ℕ = slice a.from c.min-end.result a.s.now in
    let inserts = ap (λ (how : How). how.insert) how.ensures in
    omega (arith, number_of c.hit.result, longer how.result inserts false part, hits_at_most how.result false part, length-slice a.from c.min-end.result a.s.now (omega arith))

pub returns : goal.returns
returns c =
    let a = c.args in
    let how = c.unsync_by-how in
    let end = c.min-end in
    let inserts = ap (λ (how : How). how.insert) how.ensures in
    let same = same_length how.result a.mode a.prev a.from a.to end.result a.s.now how.ensures end.ensures in
    let first = first_length how.result a.s.now a.from end.result (omega arith) (omega arith) a.prev c.hit.result c.hit.ensures (λ _. inserts) in
    omega (arith, number_of c.hit.result, same, first)
