-- A chapter that is refused, and one that is read. Assumes nothing.
use native.Mathlib.Omega.{arith}
use Rattle.laws.proofs.Cuts.{cut_lies}
use Rattle.format.specs.declared.Kind.{Kind}
use Rattle.frame.proofs.Ends.{zero_le}
use Rattle.frame.proofs.Bodies.{refused, accepted, chapter_cut, chapter_whole, chapter_parts}
use Rattle.frame.proofs.chapter.parse_chapter.Goals as goal

pub overflow_add-run : goal.overflow_add-run
overflow_add-run c = omega (arith, zero_le c.part-b.result.now, c.part-b.type_inv)

pub returns-then-b-run : goal.returns-then-b-run
returns-then-b-run c v =
    let b = c.part-b in
    refused v Kind.Chapter c.args.from b.result.now _ b.ensures 10 (chapter_cut b.result.now c.zero_at-len.result c.zero_at-len.ensures c.if-b-run.true)

pub overflow_add-result : goal.overflow_add-result
overflow_add-result c =
    let b = c.part-b in
    omega (arith, cut_lies c.args.from c.args.to c.args.s.now b.result.now b.ensures (omega arith))

pub returns : goal.returns
returns c v =
    let b = c.part-b in
    let z = c.zero_at-len in
    accepted v Kind.Chapter c.args.from b.result.now _ b.ensures _ (chapter_whole b.result.now z.result z.ensures c.if-b-run.false)
    (chapter_parts b.result.now z.result z.ensures v c.args.from _ _ _ _ c.nowhere.result
    c.read32.ensures
    c.read32-2.ensures
    c.read32-3.ensures
    c.read32-4.ensures
    c.nowhere.ensures)
