-- A text that is refused, and one that is read. Assumes nothing.
use mathlib.Core.Path.{sym, ◌∙◌}
use native.Mathlib.Omega.{arith}
use borrow.Author.Tests.{eqb-true, eqb-false}
use Rattle.laws.proofs.Cuts.{cut_lies}
use Rattle.format.specs.declared.Kind.{Kind}
use Rattle.frame.proofs.Bodies.{refused, accepted, text_empty, text_unknown, text_known, text_parts}
use Rattle.frame.proofs.text.parse.Goals as goal

pub returns-then-is_empty : goal.returns-then-is_empty
returns-then-is_empty c =
    let b = c.part-b in
    refused c.args.version Kind.Text c.args.from b.result.now _ b.ensures 10 (text_empty b.result.now (eqb-true _ 0 (sym c.is_empty.ensures ∙ c.if-is_empty.true)))

pub returns-then-encoding-gt3 : goal.returns-then-encoding-gt3
returns-then-encoding-gt3 c =
    let b = c.part-b in
    refused c.args.version Kind.Text c.args.from b.result.now _ b.ensures 11 (text_unknown b.result.now (eqb-false _ 0 (sym c.is_empty.ensures ∙ c.if-is_empty.false)) c.if-encoding-gt3.true)

pub overflow_add-result : goal.overflow_add-result
overflow_add-result c =
    let b = c.part-b in
    let some = eqb-false _ 0 (sym c.is_empty.ensures ∙ c.if-is_empty.false) in
    omega (arith, cut_lies c.args.from c.args.to c.args.s.now b.result.now b.ensures (omega arith))

pub returns : goal.returns
returns c =
    let b = c.part-b in
    accepted c.args.version Kind.Text c.args.from b.result.now _ b.ensures _ (text_known b.result.now (eqb-false _ 0 (sym c.is_empty.ensures ∙ c.if-is_empty.false)) (omega arith))
    (text_parts c.args.version c.args.from b.result.now c.text_end-len.result c.nowhere-none.result c.text_end-len.ensures c.nowhere-none.ensures)
