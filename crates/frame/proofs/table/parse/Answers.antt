-- A table that is refused, and one that is read. Assumes nothing.
use mathlib.Core.Path.{sym, ◌∙◌}
use native.Mathlib.Omega.{arith}
use Rattle.std.proofs.lemmas.Result.{err_from_is_err_and}
use Rattle.format.specs.declared.Kind.{Kind}
use Rattle.frame.proofs.Passes.{passes, refuses}
use Rattle.frame.proofs.Bodies.{refused, refused_as, accepted, table_cut, table_checked, table_parts}
use Rattle.frame.proofs.table.parse.Goals as goal

pub returns-then-b-lt10 : goal.returns-then-b-lt10
returns-then-b-lt10 c v =
    let b = c.part-b in
    refused v Kind.Table c.args.from b.result.now _ b.ensures 10 (table_cut b.result.now (omega arith))

pub returns-in_err-widths_refusal : goal.returns-in_err-widths_refusal
returns-in_err-widths_refusal c v =
    let b = c.part-b in
    let p = err_from_is_err_and c.from_residual.result c.from_residual.ensures.1 in
    let d = refuses c.in_err-widths_refusal.ensures in
    let k = c.in_err-widths_refusal.field-0 in
    rw (p.1, p.2) (refused_as v Kind.Table c.args.from b.result.now _ b.ensures _ (table_checked b.result.now (omega arith) ∙ sym d.0) (λ z. d.1 (sym d.0 ∙ z)))

pub returns : goal.returns
returns c v =
    let b = c.part-b in
    accepted v Kind.Table c.args.from b.result.now _ b.ensures _ (table_checked b.result.now (omega arith) ∙ passes c.in_ok-widths_refusal.ensures)
    (table_parts b.result.now v c.args.from _ _ _ c.nowhere-none.result
    c.read_few.ensures.0
    c.read_few-2.ensures.0
    c.read_few-3.ensures.0
    c.nowhere-none.ensures)
