-- What the widths are refused with. Assumes nothing.
use mathlib.Core.Path.{◌≡◌, sym, ap, ◌∙◌}
use native.Mathlib.Omega.{arith}
use Rattle.std.specs.Prelude.{Some, None}
use Rattle.std.proofs.lemmas.Result.{err_from_is_err_and}
use Rattle.format.specs.Refusals.{refusal, passed}
use Rattle.frame.proofs.Widths.{widths, no_widths, width_refused, fours_refused, widths_taken}
use Rattle.frame.proofs.table.widths_refusal.Goals as goal

pub returns-in_err-sum : goal.returns-in_err-sum
returns-in_err-sum c =
    let a = c.args in
    let none : c.sum_of.result ≡ None = grind arith in
    let p = err_from_is_err_and c.from_residual.result c.from_residual.ensures.1 in
    let refused : c.in_err-sum.field-0.0 ≡ refusal 30 = grind arith in
    rw (p.1, p.2, refused) (ap passed (sym (width_refused a.v a.w (no_widths a.v a.w (sym none ∙ c.sum_of.ensures)))))

pub returns-then-sum-ne0 : goal.returns-then-sum-ne0
returns-then-sum-ne0 c =
    let a = c.args in
    let some : c.sum_of.result ≡ Some c.in_ok-sum.sum = grind arith in
    ap passed (sym (fours_refused a.v a.w c.in_ok-sum.sum (widths a.v a.w (sym some ∙ c.sum_of.ensures)) c.if-sum-ne0.true))

pub returns : goal.returns
returns c =
    let a = c.args in
    let some : c.sum_of.result ≡ Some c.in_ok-sum.sum = grind arith in
    ap passed (sym (widths_taken a.v a.w c.in_ok-sum.sum (widths a.v a.w (sym some ∙ c.sum_of.ensures)) c.if-sum-ne0.false))
