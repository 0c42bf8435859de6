-- What is refused, and what is put. Assumes nothing.
use mathlib.Core.Path.{◌≡◌, sym, ◌∙◌}
use native.Mathlib.Omega.{arith}
use Rattle.std.specs.Prelude.{Some, None}
use Rattle.std.proofs.lemmas.Result.{err_from_is_err_and}
use Rattle.format.specs.Refusals.{refusal}
use Rattle.frame.proofs.Widths.{widths, no_widths}
use Rattle.frame.proofs.Unpacking.{unpack_refused, unpack_full, unpack_done, pairs_within}
use Rattle.frame.proofs.table.unpack.Goals as goal

pub returns-in_err-bits : goal.returns-in_err-bits
returns-in_err-bits c =
    let a = c.args in
    let none : c.sum_of.result ≡ None = grind arith in
    let p = err_from_is_err_and c.from_residual.result c.from_residual.ensures.1 in
    let refused : c.in_err-bits.field-0.0 ≡ refusal 30 = grind arith in
    rw (p.1, p.2, refused) (unpack_refused a.v a.w _ a.out.now (no_widths a.v a.w (sym none ∙ c.sum_of.ensures)))

pub fitting-n-requires : goal.fitting-n-requires
fitting-n-requires c =
    let some : c.sum_of.result ≡ Some c.in_ok-bits.bits = grind arith in
    omega (arith, widths c.args.v c.args.w (sym some ∙ c.sum_of.ensures))

pub returns-then-n-out : goal.returns-then-n-out
returns-then-n-out c =
    let a = c.args in
    let some : c.sum_of.result ≡ Some c.in_ok-bits.bits = grind arith in
    let d = widths a.v a.w (sym some ∙ c.sum_of.ensures) in
    unpack_full a.v a.w c.part-b.result.now _ c.part-b.ensures a.out.now c.in_ok-bits.bits d c.fitting-n.result c.fitting-n.ensures (omega arith) c.if-n-out.true

pub put_pairs-requires : goal.put_pairs-requires
put_pairs-requires c =
    let a = c.args in
    let some : c.sum_of.result ≡ Some c.in_ok-bits.bits = grind arith in
    let d = widths a.v a.w (sym some ∙ c.sum_of.ensures) in
    (d.first_most, d.second_most, omega arith, pairs_within a.v a.w c.part-b.result.now _ c.part-b.ensures a.out.now c.in_ok-bits.bits d c.fitting-n.result c.fitting-n.ensures)

pub returns : goal.returns
returns c =
    let a = c.args in
    let some : c.sum_of.result ≡ Some c.in_ok-bits.bits = grind arith in
    let d = widths a.v a.w (sym some ∙ c.sum_of.ensures) in
    unpack_done a.v a.w c.part-b.result.now _ c.part-b.ensures a.out.now c.in_ok-bits.bits d c.fitting-n.result c.fitting-n.ensures (omega arith)
    c.if-n-out.false c.put_pairs.result c.put_pairs.new.out c.put_pairs.ensures.0 c.put_pairs.ensures.1
