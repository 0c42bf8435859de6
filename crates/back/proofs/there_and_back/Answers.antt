use Rattle.std.proofs.Common.{rules, refl, sym}
use Rattle.std.proofs.Math.Seq.{length-take-le}
use Rattle.std.proofs.lemmas.Result.{err_from_is_err_and}
use Rattle.back.proofs.Calls.{tag_within, back_refused, back_read, mapped}
use Rattle.back.proofs.there_and_back.Goals as goal

pub returns-in_err-n : goal.returns-in_err-n
returns-in_err-n c =
    let a = c.args in
    let p = err_from_is_err_and c.from_residual.result c.from_residual.ensures.1 in
    let o = back_refused a.version a.mode a.padding _ a.buffer.now a.output.now a.work.now c.in_err-n.ensures.output_after refl in
    rw (p.1, p.2) (record { work_after = o.0; kept = o.1 })

pub slice_bounds-read_one-end : goal.slice_bounds-read_one-end
slice_bounds-read_one-end c =
    let a = c.args in
    tag_within a.version a.mode a.padding _ a.buffer.now a.output.now a.work.now c.in_ok-n.ensures.output_after refl

pub slice_bounds-read_one-end-2 : goal.slice_bounds-read_one-end-2
slice_bounds-read_one-end-2 c =
    let a = c.args in
    sym (length-take-le _ c.write_one.new.output (tag_within a.version a.mode a.padding _ a.buffer.now a.output.now a.work.now c.in_ok-n.ensures.output_after refl))

pub returns : goal.returns
returns c =
    let a = c.args in
    let o = back_read a.version a.mode a.padding _ a.buffer.now a.output.now a.work.now c.in_ok-n.ensures.output_after c.in_ok-n.ensures.fits_in refl c.read_one.ensures
    (mapped _ _ _ _ c.map.ensures.cases (λ r y p. search rules)) in
    record { work_after = o.0; kept = o.1 }
